-- What is in a filtered, mapped or flattened list, and lists that hold each element once.
-- Assumes nothing.
use mathlib.Core.Path.{◌≡◌, refl, sym, ap, ◌∙◌, subst}
use mathlib.Core.Logic.{◌⊎◌, inl, inr, ⊎_elim}
use mathlib.Core.Bool.{Bool, true, false, ◌&&◌, true≢false, false≢true}
use mathlib.Core.List.Memᴰ
use mathlib.Core.List.Memᴰ.{append_cases, cases_cons, head, not-nil, tail}
use mathlib.Core.List.{List, [], ◌∷◌, ◌++◌, map, flat_map, Memᴰ as Mem}
use lib.Dec.{T}
use Rattle.std.specs.Prelude.{if◌then◌else◌}
use Rattle.spec.specs.Basics.{filter, Once}

-- ---- tests

pub T_true : (t : Bool) → T t → t ≡ true
T_true true h = refl
T_true false h = absurd h

pub true-T : (t : Bool) → t ≡ true → T t
true-T t e = subst T (sym e) tt

pub and-true : (s t : Bool) → (s && t) ≡ true → (s ≡ true) × (t ≡ true)
and-true true t e = (refl, e)
and-true false t e = absurd (false≢true e)

pub not-both : {t : Bool} {A : Type 0} → t ≡ true → t ≡ false → A
not-both p q = absurd (true≢false (sym p ∙ q))

-- ---- filter

module _ {A : Type 0} (p : A → Bool) where
  pub filter-mem : {x : A} (ys : List A) → Mem x (filter p ys) → Mem x ys × (p x ≡ true)
  unfolding filter
  filter-mem [] m = absurd (not-nil m)
  filter-mem {x} (y ∷ ys) m = go (filter-mem ys) (p y) refl m
    where
      go : (Mem x (filter p ys) → Mem x ys × (p x ≡ true)) → (t : Bool) → p y ≡ t
          → Mem x (if t then y ∷ filter p ys else filter p ys) → Mem x (y ∷ ys) × (p x ≡ true)
      go ih false e m = (tail (ih m).0, (ih m).1)
      go ih true e m = ⊎_elim (λ q. (head q, ap p q ∙ e)) (λ k. (tail (ih k).0, (ih k).1)) (cases_cons m)

  pub mem-filter : {x : A} (ys : List A) → Mem x ys → p x ≡ true → Mem x (filter p ys)
  unfolding filter
  mem-filter [] m h = absurd (not-nil m)
  mem-filter {x} (y ∷ ys) m h = go (λ k. mem-filter ys k h) (p y) refl (cases_cons m)
    where
      go : (Mem x ys → Mem x (filter p ys)) → (t : Bool) → p y ≡ t → (x ≡ y) ⊎ Mem x ys → Mem x (if t then y ∷ filter p ys else filter p ys)
      go ih true e (inl q) = head q
      go ih true e (inr k) = tail (ih k)
      go ih false e (inl q) = not-both (sym (ap p q) ∙ h) e
      go ih false e (inr k) = ih k

-- ---- map and flat_map

module _ {A B : Type 0} (f : A → B) where
  pub map-mem : {y : B} (xs : List A) → Mem y (map f xs) → (x : A) × Mem x xs × (y ≡ f x)
  map-mem [] m = absurd (not-nil m)
  map-mem {y} (x ∷ xs) m = go (map-mem xs) (cases_cons m)
    where
      go : (Mem y (map f xs) → (z : A) × Mem z xs × (y ≡ f z)) → (y ≡ f x) ⊎ Mem y (map f xs) → (z : A) × Mem z (x ∷ xs) × (y ≡ f z)
      go ih (inl q) = (x, head refl, q)
      go ih (inr k) = ((ih k).0, tail (ih k).1, (ih k).2)

  pub mem-map : {x : A} {xs : List A} → Mem x xs → Mem (f x) (map f xs)
  mem-map (head q) = head (ap f q)
  mem-map (tail m) = tail (mem-map m)

module _ {A B : Type 0} (f : A → List B) where
  pub flat_map-mem : {y : B} (xs : List A) → Mem y (flat_map f xs) → (x : A) × Mem x xs × Mem y (f x)
  unfolding flat_map
  flat_map-mem [] m = absurd (not-nil m)
  flat_map-mem {y} (x ∷ xs) m = go (flat_map-mem xs) (append_cases (f x) m)
    where
      go : (Mem y (flat_map f xs) → (z : A) × Mem z xs × Mem y (f z)) → Mem y (f x) ⊎ Mem y (flat_map f xs) → (z : A) × Mem z (x ∷ xs) × Mem y (f z)
      go ih (inl k) = (x, head refl, k)
      go ih (inr k) = ((ih k).0, tail (ih k).1, (ih k).2)

  pub mem-flat_map : {x : A} {y : B} {xs : List A} → Mem x xs → Mem y (f x) → Mem y (flat_map f xs)
  unfolding flat_map
  mem-flat_map {y = y} (head {xs = xs} q) k = Memᴰ.append_left (flat_map f xs) (subst (λ z. Mem y (f z)) q k)
  mem-flat_map (tail {x = z} m) k = Memᴰ.append_right (f z) (mem-flat_map m k)

-- ---- each element once

module _ {A : Type 0} where
  pub once-append : (xs ys : List A) → Once xs → Once ys → ((x : A) → Mem x xs → Mem x ys → ⊥) → Once (xs ++ ys)
  once-append [] ys ox oy apart = oy
  once-append (x ∷ xs) ys ox oy apart = (
    λ m. ⊎_elim (λ k. ox.0 k) (λ k. apart x (head refl) k) (append_cases xs m),
    once-append xs ys ox.1 oy (λ z k l. apart z (tail k) l),
  )

module _ {A : Type 0} (p : A → Bool) where
  pub once-filter : (xs : List A) → Once xs → Once (filter p xs)
  unfolding filter
  once-filter [] o = tt
  once-filter (x ∷ xs) o = go (p x) (once-filter xs o.1)
    where
      go : (t : Bool) → Once (filter p xs) → Once (if t then x ∷ filter p xs else filter p xs)
      go true ih = (λ m. o.0 (filter-mem p xs m).0, ih)
      go false ih = ih

module _ {A B : Type 0} (f : A → B) (inj : (x y : A) → f x ≡ f y → x ≡ y) where
  pub once-map : (xs : List A) → Once xs → Once (map f xs)
  once-map [] o = tt
  once-map (x ∷ xs) o = (
    λ m. let w : (z : A) × Mem z xs × (f x ≡ f z) = map-mem f xs m in o.0 (Memᴰ.cast (inj x w.0 w.2) w.1),
    once-map xs o.1,
  )

-- of elements that stand once, each gives a list without repeats, and no two give the same
module _ {A B : Type 0} (f : A → List B) (own : (x : A) → Once (f x)) where
  pub once-flat_map : (xs : List A) → Once xs → ((x y : A) → Mem x xs → Mem y xs → (z : B) → Mem z (f x) → Mem z (f y) → x ≡ y) → Once (flat_map f xs)
  unfolding flat_map
  once-flat_map [] o apart = tt
  once-flat_map (x ∷ xs) o apart =
      once-append (f x) (flat_map f xs) (own x)
      (once-flat_map xs o.1 (λ y z k l. apart y z (tail k) (tail l)))
      (λ z k l.
      let w : (y : A) × Mem y xs × Mem z (f y) = flat_map-mem f xs l in
      o.0 (Memᴰ.cast (apart x w.0 (head refl) (tail w.1) z k w.2) w.1))
