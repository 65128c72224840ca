-- ASes that stand twice: in a row of the table as in the body that it is of, and what that says of the body.
-- Assumes nothing.
use mathlib.Core.Path.{◌≡◌, refl, sym, ap, ◌∙◌}
use mathlib.Core.Bool.{Bool, false}
use mathlib.Core.List.{List}
use Prim.Native.Nat.{ℕ, zero, suc, ◌+◌, ◌*◌, ◌-◌, ◌≤◌, ◌<◌}
use native.Mathlib.Omega.{arith}
use lib.ListN.{length, get_or}
use lib.Dec.{eqb}
use Rattle.spec.specs.declared.IsdAsn.{IsdAsn}
use Rattle.spec.specs.declared.Refusal.{Refusal}
use Rattle.spec.specs.declared.Refusal.TheVariants.{Twice}
use Rattle.std.specs.Prelude.{Ok, Err, if◌then◌else◌}
use Rattle.spec.specs.Book.{Verdict, entry_count_at, body_length_at, body_offset, same_as, isd_asn_at, entry_offset, local_at, has_local_of, stands_earlier, passes_twice, entries_verdict, body_verdict, ◌and_then◌}
use Rattle.spec.specs.Limits.{max_segments, max_entries}
use Rattle.spec.specs.Basics.{any, range}
use Rattle.spec.proofs.BodyLaws.{good-places}
use Rattle.segment.proofs.Positions.{any_none}
use Rattle.book.specs.Offsets.{with_row}
use Rattle.book.specs.Sizes.{InBook}
use Rattle.book.specs.Repeats.{same_at, earlier, twice, entry_as, place_as, Within}
use Rattle.book.proofs.Tables.{row_at}

-- ---- the same ASes

any_same : (p q : ℕ → Bool) (k left : ℕ) → ((i : ℕ) → k ≤ i → i < k + left → p i ≡ q i) → any p (range k left) ≡ any q (range k left)
unfolding any range
any_same p q k zero f = refl
any_same p q k (suc left) f = rw (f k (omega arith) (omega arith), any_same p q (k + 1) left (λ i h l. f i (omega arith) (omega arith)))

module _ (f g : ℕ → IsdAsn) (n : ℕ) (same : (i : ℕ) → i < n → f i ≡ g i) where
  same-earlier : (i : ℕ) → i < n → earlier f i ≡ earlier g i
  unfolding earlier same_at
  same-earlier i h = any_same (same_at f i) (same_at g i) 0 i (λ j l m. rw (same j (omega arith), same i h))

  same-twice : twice f n ≡ twice g n
  unfolding twice
  same-twice = any_same (earlier f) (earlier g) 0 n (λ i h l. same-earlier i (omega arith))

-- ---- none stands earlier

pub none-twice : (ases : ℕ → IsdAsn) (n : ℕ) → ((i : ℕ) → i < n → earlier ases i ≡ false) → twice ases n ≡ false
unfolding twice
none-twice ases n f = any_none (earlier ases) 0 n (λ i h l. f i (omega arith))

pub first-once : (ases : ℕ → IsdAsn) → earlier ases 0 ≡ false
unfolding earlier any range
first-once ases = refl

pub second-once : (ases : ℕ → IsdAsn) {t : Bool} → t ≡ same_as (ases 0) (ases 1) → t ≡ false → earlier ases 1 ≡ false
unfolding earlier any range same_at
second-once ases e q = rw (sym e ∙ q)

-- ---- a row that holds the offsets of a body

module _ (b : List ℕ) {row start end count : ℕ} (z : InBook b row start end count) (fits : entries_verdict b end start count ≡ Ok tt) (table : List ℕ) {stored : List ℕ}
    (long : length table ≡ max_segments * max_entries) (rows : stored ≡ with_row b start row count table) where
  place-offset : (i : ℕ) → i < count → get_or stored (row + i) 0 ≡ entry_offset b start i
  place-offset i h = ap (λ t. get_or t (row + i) 0) rows ∙ row_at b start row table count i h (omega (arith, z.position, z.entries))

  pub row_within : Within b stored row count
  row_within =
      record {
        places = omega (arith, z.position, z.entries);
        inside = λ j h. omega (arith, place-offset j h, (good-places b end count start fits j h).entry, z.inside);
      }

  pub row-twice : twice (place_as b stored row) count ≡ twice (entry_as b start) count
  row-twice = same-twice (place_as b stored row) (entry_as b start) count (λ i h. unfold place_as entry_as in (ap (isd_asn_at b) (place-offset i h)))

-- ---- the body at position k

module _ (b : List ℕ) (k : ℕ) {at size count : ℕ} (ea : at ≡ body_offset b k) (es : size ≡ body_length_at b k) (ec : count ≡ entry_count_at b k) where
  twice-here : passes_twice b k ≡ twice (entry_as b (body_offset b k)) (entry_count_at b k)
  unfolding passes_twice stands_earlier has_local_of local_at twice earlier same_at entry_as
  twice-here = refl

  body-entries : entries_verdict b (body_offset b k + body_length_at b k) (body_offset b k) (entry_count_at b k) ≡ entries_verdict b (at + size) at count
  body-entries = cc

  body_twice : passes_twice b k ≡ twice (entry_as b at) count
  body_twice = twice-here ∙ ap (λ o. twice (entry_as b o) (entry_count_at b k)) (sym ea) ∙ ap (twice (entry_as b at)) (sym ec)

  pub body_refused : {v : Verdict} {r : Refusal} → v ≡ entries_verdict b (at + size) at count → v ≡ Err r → body_verdict b k ≡ Err r
  unfolding body_verdict
  body_refused e q = ap (λ v. v and_then (if passes_twice b k then Err Twice else Ok tt)) (body-entries ∙ sym e ∙ q)

  pub body-told : entries_verdict b (at + size) at count ≡ Ok tt → {t : Bool} → t ≡ twice (entry_as b at) count → body_verdict b k ≡ (if t then Err Twice else Ok tt)
  unfolding body_verdict
  body-told fits {t} e =
      ap (λ v. v and_then (if passes_twice b k then Err Twice else Ok tt)) (body-entries ∙ fits) ∙ ap (λ u. if u then Err Twice else Ok tt) (body_twice ∙ sym e)

-- ---- the turns of the loops over a row

pub earlier-first : (ases : ℕ → IsdAsn) (i : ℕ) → earlier ases i ≡ any (same_at ases i) (range 0 (i - 0))
unfolding earlier
earlier-first ases i = ap (λ n. any (same_at ases i) (range 0 n)) (omega arith)

pub twice-first : (ases : ℕ → IsdAsn) (n : ℕ) → twice ases n ≡ any (earlier ases) (range 0 (n - 0))
unfolding twice
twice-first ases n = ap (λ m. any (earlier ases) (range 0 m)) (omega arith)

-- ---- two ASes that are compared as numbers

pub same_read : {x y a b : IsdAsn} → x ≡ a → y ≡ b → eqb x.0 y.0 ≡ same_as a b
unfolding same_as
same_read ex ey = cc

pub same-there : (ases : ℕ → IsdAsn) (i j : ℕ) {x a : IsdAsn} → x ≡ ases j → a ≡ ases i → same_at ases i j ≡ eqb x.0 a.0
unfolding same_at same_as
same-there ases i j ex ea = cc
