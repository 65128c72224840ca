-- Two records are the same where the two numbers of eight bytes of each are.
-- Assumes nothing.
use Prim.Native.Nat.{ℕ, ◌+◌, ◌*◌, ◌^◌, ◌≤◌, ◌<◌}
use native.Mathlib.Nat.{add_assoc}
use native.Mathlib.Numerals.{add-one}
use native.Mathlib.Omega.{arith}
use mathlib.Core.Path.{◌≡◌, refl, sym, ap, ap₂, ◌∙◌}
use mathlib.Core.Bool.{Bool, true, false, ◌&&◌, and_assoc, and-true}
use mathlib.Core.List.{List}
use lib.ListN.{length, get_or, drop, drop_of_length-le}
use lib.Seq.{drop-cons}
use lib.Dec.{eqb}
use borrow.Author.Tests.{eqb-true, eqb-false, eq-eqb, ne_eqb}
use Rattle.spec.specs.Limits.{solution_size}
use Rattle.spec.specs.Basics.{same_list}
use Rattle.spec.specs.Octets.{Bytes, be16, be32, be64}
use Rattle.spec.proofs.BookLaws.{be16-lt, be32-lt}

-- two halves are one number
pair : (top m n a c : ℕ) → (m * top + a ≡ n * top + c → (m ≡ n) × (a ≡ c)) → (eqb m n && eqb a c) ≡ eqb (m * top + a) (n * top + c)
pair top m n a c one = go (eqb m n) refl (eqb a c) refl
  where
    go : (x : Bool) → eqb m n ≡ x → (y : Bool) → eqb a c ≡ y → (x && y) ≡ eqb (m * top + a) (n * top + c)
    go true p true q = sym (eq-eqb _ _ (ap₂ (λ u v. u * top + v) (eqb-true m n p) (eqb-true a c q)))
    go true p false q = sym (ne_eqb _ _ (λ e. eqb-false a c q (one e).1))
    go false p y q = sym (ne_eqb _ _ (λ e. eqb-false m n p (one e).0))

module _ (xs ys : List ℕ) where
  -- from index i on
  abbrev from : ℕ → Bool
  from i = same_list (drop i xs) (drop i ys)

  -- numbers of w bytes, and then of twice as many
  wider : (f : List ℕ → ℕ → ℕ) (w top : ℕ)
      → ((i : ℕ) → i + w ≤ solution_size → from i ≡ (eqb (f xs i) (f ys i) && from (i + w)))
      → ((m n a c : ℕ) → a < top → c < top → m * top + a ≡ n * top + c → (m ≡ n) × (a ≡ c))
      → ((i : ℕ) → f xs i < top) → ((i : ℕ) → f ys i < top)
      → (i : ℕ) → i + (w + w) ≤ solution_size
      → from i ≡ (eqb (f xs i * top + f xs (i + w)) (f ys i * top + f ys (i + w)) && from (i + (w + w)))
  wider f w top step one hx hy i h =
      step i (omega arith)
      ∙ ap (λ t. eqb (f xs i) (f ys i) && t) (step (i + w) (omega arith))
      ∙ sym (and_assoc (eqb (f xs i) (f ys i)) (eqb (f xs (i + w)) (f ys (i + w))) (from (i + w + w)))
      ∙ ap₂ (λ t k. t && from k) (pair top (f xs i) (f ys i) (f xs (i + w)) (f ys (i + w)) (one _ _ _ _ (hx (i + w)) (hy (i + w)))) (add_assoc i w w)

  module _ (lx : length xs ≡ solution_size) (ly : length ys ≡ solution_size) (bx : Bytes xs) (by : Bytes ys) where
    one_byte : (i : ℕ) → i + 1 ≤ solution_size → from i ≡ (eqb (get_or xs i 0) (get_or ys i 0) && from (i + 1))
    unfolding same_list
    one_byte i h = ap₂ same_list (drop-cons xs i 0 (omega arith)) (drop-cons ys i 0 (omega arith)) ∙ rw (add-one i)

    two_bytes : (i : ℕ) → i + 2 ≤ solution_size → from i ≡ (eqb (be16 xs i) (be16 ys i) && from (i + 2))
    unfolding be16
    two_bytes = wider (λ l i. get_or l i 0) 1 (2 ^ 8) one_byte (λ m n a c p q e. (omega arith, omega arith)) bx by

    four_bytes : (i : ℕ) → i + 4 ≤ solution_size → from i ≡ (eqb (be32 xs i) (be32 ys i) && from (i + 4))
    unfolding be32
    four_bytes = wider be16 2 (2 ^ 16) two_bytes (λ m n a c p q e. (omega arith, omega arith)) (be16-lt xs bx) (be16-lt ys by)

    eight-bytes : (i : ℕ) → i + 8 ≤ solution_size → from i ≡ (eqb (be64 xs i) (be64 ys i) && from (i + 8))
    unfolding be64
    eight-bytes = wider be32 4 (2 ^ 32) four_bytes (λ m n a c p q e. (omega arith, omega arith)) (be32-lt xs bx) (be32-lt ys by)

    none : from solution_size ≡ true
    unfolding same_list
    none = ap₂ same_list (drop_of_length-le xs {i = solution_size} (omega arith)) (drop_of_length-le ys {i = solution_size} (omega arith))

    last : from 8 ≡ eqb (be64 xs 8) (be64 ys 8)
    last = eight-bytes 8 (omega arith) ∙ ap (λ t. eqb (be64 xs 8) (be64 ys 8) && t) none ∙ and-true _

    module _ {x y : ℕ} (p : x ≡ be64 xs 0) (q : y ≡ be64 ys 0) where
      pub words-differ : (x ≡ y → ⊥) → false ≡ same_list xs ys
      words-differ n = sym (eight-bytes 0 (omega arith) ∙ ap (λ t. t && from 8) (ne_eqb _ _ (λ e. n (p ∙ e ∙ sym q))))

      pub words_same : x ≡ y → {u v : ℕ} → u ≡ be64 xs 8 → v ≡ be64 ys 8 → eqb u v ≡ same_list xs ys
      words_same e r s =
          ap₂ eqb r s ∙ sym (eight-bytes 0 (omega arith) ∙ ap (λ t. t && from 8) (eq-eqb _ _ (sym p ∙ e ∙ q)) ∙ last)
