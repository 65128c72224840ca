-- What the marks among the bits of a word say of ASes.
-- Assumes nothing.
use mathlib.Core.Path.{◌≡◌, refl, sym, ap, ◌∙◌}
use mathlib.Core.Bool.{Bool, true, false}
use Prim.Native.Nat.{ℕ, ◌+◌, ◌*◌, ◌/◌, ◌%◌, ◌^◌, ◌<◌}
use native.Mathlib.Decide.{ℕ_discrete}
use native.Mathlib.Omega.{arith}
use lib.Bits.{bit_and, bit_or, and_mask}
use lib.Dec.{eqb}
use borrow.Author.Tests.{eq-eqb, eqb-true}
use Rattle.std.specs.Int.{bit_at, w64}
use Rattle.std.proofs.lemmas.Nat.Bits.{shr_and_one, bit_at_set_same, bit_at_set_other}
use Rattle.spec.specs.declared.IsdAsn.{IsdAsn}
use Rattle.spec.specs.Book.{same_as}
use Rattle.spec.proofs.Membership.{not-both}
use Rattle.spec.proofs.Vertices.{same_as-eq}
use Rattle.segment.proofs.Positions.{any_none}
use Rattle.book.specs.Repeats.{same_at, earlier}
use Rattle.book.specs.Marks.{marks, mark_of, has_mark, Adds, Marked}

-- ---- the bit of a mark

pub mark-low : (a : IsdAsn) → bit_and a.0 63 ≡ mark_of a
unfolding mark_of
mark-low a = and_mask a.0 6

pub mark-few : (a : IsdAsn) {m : ℕ} → m ≡ mark_of a → m < marks
unfolding mark_of
mark-few a e = omega arith

pub mark-read : (word : ℕ) (a : IsdAsn) {m : ℕ} → m ≡ mark_of a → eqb (bit_and (word / 2 ^ m) 1) 1 ≡ has_mark word a
unfolding has_mark
mark-read word a {m} e = ap (λ x. eqb x 1) (shr_and_one word m ∙ ap (bit_at word) e)

pub mark_added : (word : ℕ) (a : IsdAsn) {m : ℕ} → m ≡ mark_of a → Adds a word (bit_or word ((1 * 2 ^ m) % 2 ^ 64))
mark_added word a {m} e = record { own = own_bit a (sym e); kept = kept_bit }
  where
    own_bit : (x : IsdAsn) → mark_of x ≡ m → has_mark (bit_or word ((1 * 2 ^ m) % 2 ^ 64)) x ≡ true
    own_bit x q = unfold has_mark in eq-eqb (bit_at (bit_or word ((1 * 2 ^ m) % 2 ^ 64)) (mark_of x)) 1 (ap (bit_at (bit_or word ((1 * 2 ^ m) % 2 ^ 64))) q ∙ bit_at_set_same w64 word m (mark-few a e))

    kept_bit : (x : IsdAsn) → has_mark word x ≡ true → has_mark (bit_or word ((1 * 2 ^ m) % 2 ^ 64)) x ≡ true
    kept_bit x q = go (ℕ_discrete (mark_of x) m)
      where
        go : Dec (mark_of x ≡ m) → has_mark (bit_or word ((1 * 2 ^ m) % 2 ^ 64)) x ≡ true
        go (yes r) = own_bit x r
        go (no d) = unfold has_mark in eq-eqb (bit_at (bit_or word ((1 * 2 ^ m) % 2 ^ 64)) (mark_of x)) 1 (bit_at_set_other w64 word m (mark-few a e) (mark_of x) d ∙ eqb-true _ _ q)

-- ---- the marks of many ASes

module _ (ases : ℕ → IsdAsn) where
  pub none-marked : (word : ℕ) → Marked ases word 0
  none-marked word j h = absurd (omega arith)

  pub one-marked : (n : ℕ) {word more : ℕ} → Marked ases word n → Adds (ases n) word more → Marked ases more (n + 1)
  one-marked n {word} {more} marked adds j h = go (ℕ_discrete j n)
    where
      go : Dec (j ≡ n) → has_mark more (ases j) ≡ true
      go (yes q) = ap (λ i. has_mark more (ases i)) q ∙ adds.own
      go (no d) = adds.kept _ (marked j (omega (arith, d)))

  -- an AS whose mark is not there does not stand earlier
  pub unmarked : (n word : ℕ) → Marked ases word n → has_mark word (ases n) ≡ false → earlier ases n ≡ false
  unfolding earlier same_at
  unmarked n word marked q = any_none (same_at ases n) 0 n (λ j h l. go j l (same_as (ases j) (ases n)) refl)
    where
      go : (j : ℕ) → j < 0 + n → (t : Bool) → same_as (ases j) (ases n) ≡ t → same_as (ases j) (ases n) ≡ false
      go j l true r = not-both (ap (has_mark word) (sym (same_as-eq _ _ r)) ∙ marked j (omega arith)) q
      go j l false r = r
