-- Filters, maps and flattened lists, one through the other.
-- Assumes nothing.
use Prim.Native.Nat.{ℕ, suc, ◌+◌, ◌-◌, ◌<◌}
use native.Mathlib.Omega.{arith}
use mathlib.Core.Path.{◌≡◌, refl, sym, ap, ap₂, ◌∙◌}
use mathlib.Core.Bool.{Bool, true, false, ◌&&◌}
use mathlib.Core.List.Memᴰ.{head, tail}
use mathlib.Core.List.{List, [], ◌∷◌, ◌++◌, map, flat_map, Memᴰ as Mem}
use Rattle.std.specs.Prelude.{if◌then◌else◌}
use Rattle.spec.specs.Basics.{filter, range}
use Rattle.spec.proofs.Lists.{flat_map-append}

module _ {A : Type 0} (p : A → Bool) where
  pub filter-append : (xs ys : List A) → filter p (xs ++ ys) ≡ filter p xs ++ filter p ys
  unfolding filter
  filter-append [] ys = refl
  filter-append (x ∷ xs) ys = go (p x) (filter-append xs ys)
    where
      go : (t : Bool) → filter p (xs ++ ys) ≡ filter p xs ++ filter p ys
          → (if t then x ∷ filter p (xs ++ ys) else filter p (xs ++ ys)) ≡ (if t then x ∷ filter p xs else filter p xs) ++ filter p ys
      go true ih = ap (λ l. x ∷ l) ih
      go false ih = ih

  -- a test that is the same for all
  pub filter_same : (t : Bool) (xs : List A) → ((x : A) → Mem x xs → p x ≡ t) → filter p xs ≡ (if t then xs else [])
  unfolding filter
  filter_same true [] h = refl
  filter_same false [] h = refl
  filter_same t (x ∷ xs) h = go t (p x) (h x (head refl)) (filter_same t xs (λ y m. h y (tail m)))
    where
      go : (t s : Bool) → s ≡ t → filter p xs ≡ (if t then xs else []) → (if s then x ∷ filter p xs else filter p xs) ≡ (if t then x ∷ xs else [])
      go true s e ih = ap (λ s. if s then x ∷ filter p xs else filter p xs) e ∙ ap (λ l. x ∷ l) ih
      go false s e ih = ap (λ s. if s then x ∷ filter p xs else filter p xs) e ∙ ih

  pub filter-twice : (q r : A → Bool) → ((x : A) → r x ≡ (p x && q x)) → (xs : List A) → filter q (filter p xs) ≡ filter r xs
  unfolding filter
  filter-twice q r same [] = refl
  filter-twice q r same (x ∷ xs) =
      go (p x) (filter-twice q r same xs) ∙ ap (λ t. if t then x ∷ filter r xs else filter r xs) (sym (same x))
    where
      go : (t : Bool) → filter q (filter p xs) ≡ filter r xs
          → filter q (if t then x ∷ filter p xs else filter p xs) ≡ (if t && q x then x ∷ filter r xs else filter r xs)
      go true ih = ap (λ l. if q x then x ∷ l else l) ih
      go false ih = ih

  -- what each element gives, if the test holds of it
  pub flat_map-filter : {B : Type 0} (f : A → List B) (xs : List A) → flat_map f (filter p xs) ≡ flat_map (λ x. if p x then f x else []) xs
  unfolding filter flat_map
  flat_map-filter f [] = refl
  flat_map-filter {B} f (x ∷ xs) = go (p x) (flat_map-filter f xs)
    where
      go : (t : Bool) → flat_map f (filter p xs) ≡ flat_map (λ x. if p x then f x else []) xs
          → flat_map f (if t then x ∷ filter p xs else filter p xs) ≡ (if t then f x else []) ++ flat_map (λ x. if p x then f x else []) xs
      go true ih = ap (λ l. f x ++ l) ih
      go false ih = ih

-- what takes lists to lists part by part goes through flat_map
module _ {A B C : Type 0} (s : List B → List C) (none : s [] ≡ []) (join : (xs ys : List B) → s (xs ++ ys) ≡ s xs ++ s ys) where
  pub through : (f : A → List B) (xs : List A) → s (flat_map f xs) ≡ flat_map (λ x. s (f x)) xs
  unfolding flat_map
  through f [] = none
  through f (x ∷ xs) = join (f x) (flat_map f xs) ∙ ap (λ l. s (f x) ++ l) (through f xs)

module _ {A B : Type 0} where
  pub flat_map-one : (h : A → B) (xs : List A) → flat_map (λ x. h x ∷ []) xs ≡ map h xs
  unfolding flat_map
  flat_map-one h [] = refl
  flat_map-one h (x ∷ xs) = ap (λ l. h x ∷ l) (flat_map-one h xs)

  pub flat_map-same : (f g : A → List B) (xs : List A) → ((x : A) → Mem x xs → f x ≡ g x) → flat_map f xs ≡ flat_map g xs
  unfolding flat_map
  flat_map-same f g [] h = refl
  flat_map-same f g (x ∷ xs) h = ap₂ (λ k l. k ++ l) (h x (head refl)) (flat_map-same f g xs (λ y m. h y (tail m)))

  pub flat_map-none : (f : A → List B) (xs : List A) → ((x : A) → Mem x xs → f x ≡ []) → flat_map f xs ≡ []
  unfolding flat_map
  flat_map-none f [] h = refl
  flat_map-none f (x ∷ xs) h = ap₂ (λ k l. k ++ l) (h x (head refl)) (flat_map-none f xs (λ y m. h y (tail m)))

module _ {A B C : Type 0} where
  pub flat_map-twice : (g : B → List C) (f : A → List B) (xs : List A) → flat_map g (flat_map f xs) ≡ flat_map (λ x. flat_map g (f x)) xs
  flat_map-twice g f xs = through (flat_map g) (unfold flat_map in refl) (flat_map-append g) f xs

-- ---- a loop that goes up to n

pub range-turn : (i n : ℕ) → i < n → range i (n - i) ≡ i ∷ range (i + 1) (n - (i + 1))
unfolding range
range-turn i n h =
    let e : n - i ≡ suc (n - (i + 1)) = omega arith in
    ap (range i) e
