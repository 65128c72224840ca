-- What makes a body pass: its entries fit, no AS stands twice, and the offsets are stored.
-- Assumes nothing.
use mathlib.Core.Path.{◌≡◌, refl, sym, ap, ◌∙◌}
use mathlib.Core.Bool.{Bool, true, false, ◌||◌}
use Rattle.spec.proofs.Membership.{not-both}
use mathlib.Core.List.{List}
use Prim.Native.Nat.{ℕ, zero, suc, ◌+◌, ◌*◌, ◌-◌, ◌≤◌, ◌<◌}
use native.Mathlib.Decide.{ℕ_discrete}
use native.Mathlib.Omega.{arith}
use lib.ListN.{set}
use Rattle.spec.specs.declared.IsdAsn.{IsdAsn}
use Rattle.std.specs.Prelude.{Ok}
use Rattle.spec.specs.Limits.{entry_size, peer_size, max_peers}
use Rattle.spec.specs.Book.{entry_count_at, body_length_at, body_offset, same_as, isd_asn_at, peer_count, entry_offset, entries_verdict, body_verdict}
use Rattle.segment.proofs.Fitting.{offset_step}
use Rattle.book.specs.Offsets.{with_row}
use Rattle.book.specs.Repeats.{earlier, twice, entry_as, RowPassed}
use Rattle.book.specs.Marks.{has_mark, Marked}
use Rattle.book.proofs.Turns.{rest_verdict, rest-first, rest-next, rest-fill}
use Rattle.book.proofs.Repeating.{none-twice, first-once, second-once, body-told}
use Rattle.book.proofs.Marking.{unmarked}

-- ---- a body of at most two entries

module _ (b : List ℕ) (row start end : ℕ) (table : List ℕ) (filled : start ≤ end) where
  no-entry : start ≡ end → RowPassed b row start end 0 table table
  no-entry e =
      record {
        fits = rest-first b end start 0 filled ∙ rest-fill b end start 0 0 (omega arith) e;
        once = none-twice _ 0 (λ i h. absurd (omega arith));
        rows = unfold with_row in refl;
      }

  module _ (room : start + entry_size ≤ end) {peers : ℕ} (ep : peers ≡ peer_count b start) (few : peers ≤ max_peers) {at : ℕ} (ea : at ≡ start + (entry_size + peer_size * peers)) where
    first_rest : (n : ℕ) → 0 < n → entries_verdict b end start n ≡ rest_verdict b end at (n - (0 + 1))
    first_rest n h = rest-first b end start n filled ∙ rest-next b end start room ep few n 0 h ∙ ap (λ o. rest_verdict b end o (n - (0 + 1))) (sym ea)

    first-stored : set table row start ≡ with_row b start row 1 table
    unfolding with_row entry_offset
    first-stored = let e : row ≡ row + 0 = omega arith in ap (λ p. set table p start) e

    second_at : at ≡ entry_offset b start 1
    second_at = ea ∙ offset_step b start 0 (unfold entry_offset in refl) (ap (λ p. entry_size + peer_size * p) ep)

    one_entry : at ≡ end → RowPassed b row start end 1 table (set table row start)
    one_entry e =
        record {
          fits = first_rest 1 (omega arith) ∙ rest-fill b end at 1 (0 + 1) (omega arith) e;
          once = none-twice (entry_as b start) 1 only;
          rows = first-stored;
        }
      where
        only : (i : ℕ) → i < 1 → earlier (entry_as b start) i ≡ false
        only zero h = first-once (entry_as b start)
        only (suc i) h = absurd (omega arith)

    module _ (room' : at + entry_size ≤ end) {others : ℕ} (eo : others ≡ peer_count b at) (few' : others ≤ max_peers) where
      two-entries : at + (entry_size + peer_size * others) ≡ end → {t : Bool} → t ≡ same_as (isd_asn_at b start) (isd_asn_at b at) → t ≡ false
          → RowPassed b row start end 2 table (set (set table row start) (row + 1) at)
      two-entries e {t} es q =
          record {
            fits = first_rest 2 (omega arith) ∙ rest-next b end at room' eo few' 2 (0 + 1) (omega arith) ∙ rest-fill b end _ 2 (0 + 1 + 1) (omega arith) e;
            once = none-twice (entry_as b start) 2 both;
            rows = ap (λ r. set r (row + 1) at) first-stored ∙ ap (set (with_row b start row 1 table) (row + 1)) second_at ∙ (unfold with_row in refl);
          }
        where
          same : t ≡ same_as (entry_as b start 0) (entry_as b start 1)
          same = unfold entry_as in (es ∙ ap (λ o. same_as (isd_asn_at b start) (isd_asn_at b o)) second_at ∙ (unfold entry_offset in refl))

          both : (i : ℕ) → i < 2 → earlier (entry_as b start) i ≡ false
          both zero h = first-once (entry_as b start)
          both (suc zero) h = second-once (entry_as b start) same q
          both (suc (suc i)) h = absurd (omega arith)

-- by the count that the code holds
module _ (b : List ℕ) (row start end : ℕ) (table : List ℕ) (filled : start ≤ end) {count : ℕ} where
  pub none_passed : count ≡ 0 → start ≡ end → RowPassed b row start end count table table
  none_passed ec e = rw ec (no-entry b row start end table filled e)

  module _ (room : start + entry_size ≤ end) {peers : ℕ} (ep : peers ≡ peer_count b start) (few : peers ≤ max_peers) {at : ℕ} (ea : at ≡ start + (entry_size + peer_size * peers)) where
    pub one-passed : count ≡ 1 → at ≡ end → RowPassed b row start end count table (set table row start)
    one-passed ec e = rw ec (one_entry b row start end table filled room ep few ea e)

    pub two-passed : at + entry_size ≤ end → {others : ℕ} → others ≡ peer_count b at → others ≤ max_peers → count ≡ 2 → {next : ℕ}
        → next ≡ at + (entry_size + peer_size * others) → next ≡ end → {t : Bool} → t ≡ same_as (isd_asn_at b start) (isd_asn_at b at) → t ≡ false
        → RowPassed b row start end count table (set (set table row start) (row + 1) at)
    two-passed room' eo few' ec en e es q = rw ec (two-entries b row start end table filled room ep few ea room' eo few' (sym en ∙ e) es q)

-- ---- a body of any number of entries

module _ (b : List ℕ) (start : ℕ) where
  pub entry-here : (i : ℕ) {at : ℕ} {a : IsdAsn} → at ≡ entry_offset b start i → a ≡ isd_asn_at b at → a ≡ entry_as b start i
  unfolding entry_as
  entry-here i ea e = e ∙ ap (isd_asn_at b) ea

  pub next-offset : (i : ℕ) {at peers next : ℕ} → at ≡ entry_offset b start i → peers ≡ peer_count b at → next ≡ at + (entry_size + peer_size * peers)
      → next ≡ entry_offset b start (i + 1)
  next-offset i ea ep en = en ∙ offset_step b start i ea (ap (λ p. entry_size + peer_size * p) ep)

pub next-rest : (b : List ℕ) (end at : ℕ) {peers next : ℕ} (n i : ℕ) → at + entry_size ≤ end → peers ≡ peer_count b at → peers ≤ max_peers → i < n
    → next ≡ at + (entry_size + peer_size * peers) → rest_verdict b end at (n - i) ≡ rest_verdict b end next (n - (i + 1))
next-rest b end at n i room ep few h en = rest-next b end at room ep few n i h ∙ ap (λ o. rest_verdict b end o (n - (i + 1))) (sym en)

-- no mark was seen again, and this one was not seen
pub none-again : (ases : ℕ → IsdAsn) (i seen : ℕ) (again found : Bool) → Marked ases seen i → found ≡ has_mark seen (ases i)
    → (again ≡ false → (j : ℕ) → j < i → earlier ases j ≡ false) → (again || found) ≡ false → (j : ℕ) → j < i + 1 → earlier ases j ≡ false
none-again ases i seen true found marked ef before q j h = not-both refl q
none-again ases i seen false found marked ef before q j h = go (ℕ_discrete j i)
  where
    go : Dec (j ≡ i) → earlier ases j ≡ false
    go (yes e) = ap (earlier ases) e ∙ unmarked ases i seen marked (sym ef ∙ q)
    go (no d) = before refl j (omega (arith, d))

module _ (b : List ℕ) (row start end : ℕ) (table : List ℕ) {count i at : ℕ} {stored : List ℕ} (done : count ≤ i) (most : i ≤ count) (full : at ≡ end)
    (left : entries_verdict b end start count ≡ rest_verdict b end at (count - i)) (rows : stored ≡ with_row b start row i table) where
  pub row_fits : entries_verdict b end start count ≡ Ok tt
  row_fits = left ∙ rest-fill b end at count i done full

  pub row-stored : stored ≡ with_row b start row count table
  row-stored = let e : i ≡ count = omega arith in rows ∙ ap (λ n. with_row b start row n table) e

  pub row_done : twice (entry_as b start) count ≡ false → RowPassed b row start end count table stored
  row_done once = record { fits = row_fits; once = once; rows = row-stored }

  pub row-unseen : (again : Bool) → (again ≡ false → (j : ℕ) → j < i → earlier (entry_as b start) j ≡ false) → again ≡ false → RowPassed b row start end count table stored
  row-unseen again before q = row_done (none-twice (entry_as b start) count (λ j h. before q j (omega arith)))

-- ---- the body at position k

pub row-says : (b : List ℕ) (k : ℕ) {row at size count : ℕ} {table stored : List ℕ} → at ≡ body_offset b k → size ≡ body_length_at b k → count ≡ entry_count_at b k
    → RowPassed b row at (at + size) count table stored → body_verdict b k ≡ Ok tt
row-says b k ea es ec p = body-told b k ea es ec p.fits (sym p.once)
