-- Laws of lists that the library lacks.
-- Assumes nothing.
use Rattle.std.proofs.lemmas.List.{map-append}
use Prim.Native.Nat.{ℕ, zero, suc, ◌+◌, ◌-◌}
use native.Mathlib.Nat.{add-zero, zero-add}
use native.Mathlib.Numerals.{add-one}
use native.Mathlib.Omega.{arith}
use mathlib.Core.Path.{◌≡◌, refl, sym, ap, ap₂, ◌∙◌}
use mathlib.Core.List.{List, [], ◌∷◌, ◌++◌, map, flat_map, reverse, reverse-cons, reverse-append, append_assoc, append-nil}
use lib.ListN.{length}
use Rattle.spec.specs.Basics.{range}

module _ {A B : Type 0} (f : A → B) where
  pub map-reverse : (xs : List A) → map f (reverse xs) ≡ reverse (map f xs)
  map-reverse [] = refl
  map-reverse (x ∷ xs) =
      ap (map f) (reverse-cons x xs) ∙ map-append f (reverse xs) (x ∷ []) ∙ ap (λ l. l ++ (f x ∷ [])) (map-reverse xs) ∙ sym (reverse-cons (f x) (map f xs))

pub length-range : (i k : ℕ) → length (range i k) ≡ k
unfolding range
length-range i zero = refl
length-range i (suc k) = ap suc (length-range (i + 1) k)

-- the last of a range
pub range-suc : (i k : ℕ) → range i (suc k) ≡ range i k ++ ((i + k) ∷ [])
unfolding range
range-suc i zero = ap (λ n. n ∷ []) (sym (add-zero i))
range-suc i (suc k) =
    ap (λ l. i ∷ l) (range-suc (i + 1) k)
    ∙ ap (λ n. i ∷ (range (i + 1) k ++ (n ∷ []))) (omega arith)

pub reverse-range : (i k : ℕ) → reverse (range i (suc k)) ≡ (i + k) ∷ reverse (range i k)
reverse-range i k = ap reverse (range-suc i k) ∙ reverse-append (range i k) ((i + k) ∷ [])

module _ {A B : Type 0} (f g : A → B) (same : (x : A) → f x ≡ g x) where
  pub map_same : (xs : List A) → map f xs ≡ map g xs
  map_same [] = refl
  map_same (x ∷ xs) = ap₂ (λ a l. a ∷ l) (same x) (map_same xs)

module _ {A : Type 0} (f : ℕ → A) where
  pub map-range-next : (i k : ℕ) → map f (range (i + 1) k) ≡ map (λ j. f (j + 1)) (range i k)
  unfolding range
  map-range-next i zero = refl
  map-range-next i (suc k) = ap (λ l. f (i + 1) ∷ l) (map-range-next (i + 1) k)

  pub map-range-first : (k : ℕ) → map f (range 0 (suc k)) ≡ f 0 ∷ map (λ j. f (j + 1)) (range 0 k)
  unfolding range
  map-range-first k = ap (λ l. f 0 ∷ l) (map-range-next 0 k)

-- a range counted up, and counted down
pub range-up : (s i k : ℕ) → map (λ j. s + j) (range i k) ≡ range (s + i) k
unfolding range
range-up s i zero = refl
range-up s i (suc k) = ap (λ l. (s + i) ∷ l) (range-up s (i + 1) k ∙ ap (λ n. range n k) (omega arith))

pub range-down : (s k n : ℕ) → n ≡ s + k → map (λ j. n - 1 - j) (range 0 k) ≡ reverse (range s k)
range-down s zero n h = unfold range in refl
range-down s (suc k) n h =
    map-range-first (λ j. n - 1 - j) k
    ∙ ap₂ (λ a l. a ∷ l) (omega arith)
    (map_same (λ j. n - 1 - (j + 1)) (λ j. (n - 1) - 1 - j) (λ j. omega arith) (range 0 k) ∙ range-down s k (n - 1) (omega arith))
    ∙ sym (reverse-range s k)

module _ {A B : Type 0} (f : A → List B) where
  pub flat_map-append : (xs ys : List A) → flat_map f (xs ++ ys) ≡ flat_map f xs ++ flat_map f ys
  unfolding flat_map
  flat_map-append [] ys = refl
  flat_map-append (x ∷ xs) ys = ap (λ l. f x ++ l) (flat_map-append xs ys) ∙ sym (append_assoc (f x) (flat_map f xs) (flat_map f ys))

  pub flat-one : (x : A) → flat_map f (x ∷ []) ≡ f x
  unfolding flat_map
  flat-one x = append-nil (f x)

-- one more of a range
pub map-range-last : {A : Type 0} (f : ℕ → A) (k : ℕ) → map f (range 0 (k + 1)) ≡ map f (range 0 k) ++ (f k ∷ [])
map-range-last f k =
    ap (λ n. map f (range 0 n)) (add-one k) ∙ ap (map f) (range-suc 0 k) ∙ map-append f (range 0 k) ((0 + k) ∷ [])
    ∙ ap (λ i. map f (range 0 k) ++ (f i ∷ [])) (zero-add k)

pub flat-range-last : {A : Type 0} (f : ℕ → List A) (k : ℕ) → flat_map f (range 0 (k + 1)) ≡ flat_map f (range 0 k) ++ f k
flat-range-last f k =
    ap (λ n. flat_map f (range 0 n)) (add-one k) ∙ ap (flat_map f) (range-suc 0 k) ∙ flat_map-append f (range 0 k) ((0 + k) ∷ [])
    ∙ ap (λ l. flat_map f (range 0 k) ++ l) (flat-one f (0 + k) ∙ ap f (zero-add k))

-- two in a row
module _ {A B C : Type 0} where
  pub flat-map : (f : A → B) (g : B → List C) (xs : List A) → flat_map g (map f xs) ≡ flat_map (λ x. g (f x)) xs
  unfolding flat_map
  flat-map f g [] = refl
  flat-map f g (x ∷ xs) = ap (λ l. g (f x) ++ l) (flat-map f g xs)

  pub flat-flat : (f : A → List B) (g : B → List C) (xs : List A) → flat_map g (flat_map f xs) ≡ flat_map (λ x. flat_map g (f x)) xs
  unfolding flat_map
  flat-flat f g [] = refl
  flat-flat f g (x ∷ xs) = flat_map-append g (f x) (flat_map f xs) ∙ ap (λ l. flat_map g (f x) ++ l) (flat-flat f g xs)
