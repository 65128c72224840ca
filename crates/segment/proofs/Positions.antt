-- Positions counted up: where bodies start, and a test over all positions.
-- Assumes nothing.
use mathlib.Core.Path.{◌≡◌, refl}
use mathlib.Core.Bool.{Bool, true, false}
use mathlib.Core.List.{List}
use Prim.Native.Nat.{ℕ, zero, suc, ◌+◌, ◌-◌, ◌≤◌, ◌<◌}
use native.Mathlib.Numerals.{add-one}
use native.Mathlib.Omega.{arith}
use Rattle.spec.specs.Basics.{any, range}
use Rattle.spec.specs.Book.{body_length_at, lengths_below, body_offset}

pub lengths-more : (b : List ℕ) (k : ℕ) → lengths_below b (k + 1) ≡ lengths_below b k + body_length_at b k
unfolding lengths_below
lengths-more b k = rw add-one

pub body_more : (b : List ℕ) (k : ℕ) → body_offset b (k + 1) ≡ body_offset b k + body_length_at b k
unfolding body_offset
body_more b k = omega (arith, lengths-more b k)

pub body-next : (b : List ℕ) (k : ℕ) {at size : ℕ} → at ≡ body_offset b k → size ≡ body_length_at b k → at + size ≡ body_offset b (k + 1)
body-next b k e q = omega (arith, body_more b k)

-- a loop that counts k up to n has n - k left
pub one_less : (n k : ℕ) → k < n → n - k ≡ suc (n - (k + 1))
one_less n k h = omega arith

-- ---- a test over positions

module _ (p : ℕ → Bool) (n k : ℕ) where
  pub any_here : k < n → p k ≡ true → any p (range k (n - k)) ≡ true
  unfolding any range
  any_here h q = rw (one_less n k h, q)

  pub any_next : k < n → p k ≡ false → any p (range k (n - k)) ≡ any p (range (k + 1) (n - (k + 1)))
  unfolding any range
  any_next h q = rw (one_less n k h, q)

  pub any-done : n ≤ k → any p (range k (n - k)) ≡ false
  unfolding any range
  any-done h = let e : n - k ≡ 0 = omega arith in rw e

-- it holds of none of them
pub any_none : (p : ℕ → Bool) (k left : ℕ) → ((i : ℕ) → k ≤ i → i < k + left → p i ≡ false) → any p (range k left) ≡ false
unfolding any range
any_none p k zero f = refl
any_none p k (suc left) f = rw (f k (omega arith) (omega arith)) (any_none p (k + 1) left (λ i h l. f i (omega arith) (omega arith)))
