-- The table of the entries' offsets: its turns, and what stands at each place.
-- Assumes nothing.
use mathlib.Core.Path.{◌≡◌, refl, sym, ap, ◌∙◌}
use mathlib.Core.Bool.{true, false}
use mathlib.Core.List.{List}
use Prim.Native.Nat.{ℕ, zero, suc, ◌+◌, ◌*◌, ◌≤◌, ◌<◌}
use native.Mathlib.Numerals.{add-one}
use native.Mathlib.Decide.{ℕ_discrete}
use native.Mathlib.Omega.{arith}
use lib.ListN.{length, get_or, set, length-set, length-replicate}
use lib.Seq.{get_or-set_same, get_or-set_other}
use Rattle.spec.specs.Limits.{max_segments, max_entries}
use Rattle.spec.specs.declared.AsEntry.{AsEntry}
use Rattle.spec.specs.declared.Refusal.{Refusal}
use Rattle.std.specs.Prelude.{Ok, Err}
use Rattle.spec.specs.Book.{Verdict, segment_count, entry_count_at, body_offset, peer_count, isd_asn_at, as_entry_at, peer_entry_at, peer_offset, entry_offset, segment_at, verdict}
use Rattle.spec.specs.Edges.{entry_of, as_of, peer_of}
use Rattle.std.specs.Result.{is_err}
use Rattle.spec.proofs.Membership.{not-both}
use Rattle.spec.proofs.BookLaws.{AcceptedBook, entry-count}
use Rattle.book.specs.Offsets.{no_offsets, with_row, rows_below, offset_table, table_on, open_table}
use Rattle.segment.proofs.Fitting.{own_read, peers-read, peer-read}

module _ (b : List ℕ) (at place : ℕ) (table : List ℕ) where
  row_more : (n : ℕ) → with_row b at place (n + 1) table ≡ set (with_row b at place n table) (place + n) (entry_offset b at n)
  unfolding with_row
  row_more n = rw add-one

  -- the turn of the loop that fills a row
  pub row_step : (n : ℕ) {o : ℕ} {row : List ℕ} → o ≡ entry_offset b at n → row ≡ with_row b at place n table
      → set row (place + n) o ≡ with_row b at place (n + 1) table
  row_step n e q = cc (row_more n)

  row-length : (n : ℕ) → length (with_row b at place n table) ≡ length table
  unfolding with_row
  row-length zero = refl
  row-length (suc n) = simp length-set (row-length n)

  -- what stands before the row stays
  row_before : (n j : ℕ) → j < place → get_or (with_row b at place n table) j 0 ≡ get_or table j 0
  unfolding with_row
  row_before zero j h = refl
  row_before (suc n) j h = get_or-set_other (with_row b at place n table) (place + n) j _ 0 (λ e. omega arith) ∙ row_before n j h

  pub row_at : (n i : ℕ) → i < n → place + n ≤ length table → get_or (with_row b at place n table) (place + i) 0 ≡ entry_offset b at i
  unfolding with_row
  row_at zero i h l = absurd (omega arith)
  row_at (suc n) i h l = go (row_at n i) (ℕ_discrete i n)
    where
      go : (i < n → place + n ≤ length table → get_or (with_row b at place n table) (place + i) 0 ≡ entry_offset b at i) → Dec (i ≡ n)
          → get_or (set (with_row b at place n table) (place + n) (entry_offset b at n)) (place + i) 0 ≡ entry_offset b at i
      go below (yes e) = rw e (get_or-set_same (with_row b at place n table) (place + n) _ 0 (omega (arith, row-length n)))
      go below (no d) = get_or-set_other (with_row b at place n table) (place + n) (place + i) _ 0 (λ e. d (omega arith)) ∙ below (omega arith) (omega arith)

rows_more : (b : List ℕ) (k : ℕ) → rows_below b (k + 1) ≡ with_row b (body_offset b k) (max_entries * k) (entry_count_at b k) (rows_below b k)
unfolding rows_below
rows_more b k = rw add-one

-- the turn of the loop that fills the table, and its end
pub rows_step : (b : List ℕ) (k : ℕ) {row at n : ℕ} {rows more : List ℕ} → row ≡ max_entries * k → at ≡ body_offset b k → n ≡ entry_count_at b k → rows ≡ rows_below b k
    → more ≡ with_row b at row n rows → more ≡ rows_below b (k + 1)
rows_step b k ew ea en er q = cc (rows_more b k)

pub rows_all : (b : List ℕ) {k : ℕ} {rows : List ℕ} → rows ≡ rows_below b k → k ≡ segment_count b → rows ≡ offset_table b
unfolding offset_table
rows_all b er ek = er ∙ ap (rows_below b) ek

pub rows-length : (b : List ℕ) (k : ℕ) → length (rows_below b k) ≡ max_segments * max_entries
unfolding rows_below no_offsets
rows-length b zero = length-replicate {A = ℕ} (max_segments * max_entries) 0
rows-length b (suc k) = row-length b (body_offset b k) (max_entries * k) (rows_below b k) (entry_count_at b k) ∙ rows-length b k

rows_at : (b : List ℕ) (n : ℕ) → n ≤ max_segments → ((k : ℕ) → k < n → entry_count_at b k ≤ max_entries) → (k i : ℕ) → k < n → i < entry_count_at b k
    → get_or (rows_below b n) (max_entries * k + i) 0 ≡ entry_offset b (body_offset b k) i
unfolding rows_below
rows_at b zero s few k i h l = absurd (omega arith)
rows_at b (suc n) s few k i h l = go (λ g. rows_at b n (omega arith) (λ j m. few j (omega arith)) k i g l) (ℕ_discrete k n)
  where
    go : (k < n → get_or (rows_below b n) (max_entries * k + i) 0 ≡ entry_offset b (body_offset b k) i) → Dec (k ≡ n)
        → get_or (with_row b (body_offset b n) (max_entries * n) (entry_count_at b n) (rows_below b n)) (max_entries * k + i) 0 ≡ entry_offset b (body_offset b k) i
    go below (yes e) =
        rw e (row_at b (body_offset b n) (max_entries * n) (rows_below b n) (entry_count_at b n) i (rw (← e) l) (omega (arith, rows-length b n, few n (omega arith))))
    go below (no d) =
        row_before b (body_offset b n) (max_entries * n) (rows_below b n) (entry_count_at b n) (max_entries * k + i) (omega (arith, few k h)) ∙ below (omega arith)

-- ---- the table by the answer

pub is-refused : (v : Verdict) → true ≡ is_err v → (r : Refusal) × (v ≡ Err r)
is-refused (Ok _) q = not-both (sym q) refl
is-refused (Err r) q = (r, refl)

pub is-accepted : (v : Verdict) → false ≡ is_err v → v ≡ Ok tt
is-accepted (Ok _) q = refl
is-accepted (Err r) q = not-both refl (sym q)

module _ (b : List ℕ) where
  pub open-refused : {v : Verdict} {r : Refusal} → v ≡ verdict b → v ≡ Err r → no_offsets ≡ open_table b
  unfolding open_table
  open-refused p q = sym (ap (λ w. table_on w (offset_table b)) (sym p ∙ q))

  pub open-accepted : {v : Verdict} → v ≡ verdict b → v ≡ Ok tt → open_table b ≡ offset_table b
  unfolding open_table
  open-accepted p q = ap (λ w. table_on w (offset_table b)) (sym p ∙ q)

-- ---- an accepted book: entry i of position k

module _ (b : List ℕ) (a : AcceptedBook b) (k i : ℕ) (h : k < segment_count b) (l : i < entry_count_at b k) where
  -- the table holds each entry's offset
  pub table_at : get_or (offset_table b) (max_entries * k + i) 0 ≡ entry_offset b (body_offset b k) i
  unfolding offset_table
  table_at = rows_at b (segment_count b) a.crowd (entry-count b a) k i h l

  -- the entry itself, its AS, how many peers it has, and each of them, as they are read at that offset
  pub table-own : (entry_of (segment_at b k) i).own ≡ as_entry_at b (get_or (offset_table b) (max_entries * k + i) 0)
  table-own = own_read b k i l ∙ ap (as_entry_at b) (sym table_at)

  pub table-as : as_of (segment_at b k) i ≡ isd_asn_at b (get_or (offset_table b) (max_entries * k + i) 0)
  unfolding as_of as_entry_at
  table-as = ap (λ (x : AsEntry). x.local) table-own

  pub table-peers : length (entry_of (segment_at b k) i).peers ≡ peer_count b (get_or (offset_table b) (max_entries * k + i) 0)
  table-peers = peers-read b k i l ∙ ap (peer_count b) (sym table_at)

  pub table-peer : (p : ℕ) → p < peer_count b (get_or (offset_table b) (max_entries * k + i) 0)
      → peer_of (segment_at b k) i p ≡ peer_entry_at b (peer_offset (get_or (offset_table b) (max_entries * k + i) 0) p)
  table-peer p g =
      peer-read b k i p l (omega (arith, ap (peer_count b) table_at)) ∙ ap (λ at. peer_entry_at b (peer_offset at p)) (sym table_at)
