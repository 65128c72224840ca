-- Numbers that stand three times, and Loop.
-- Assumes nothing.
use Prim.Native.Nat.{ℕ, suc, ◌+◌, ◌-◌, ◌*◌, ◌≤◌, ◌<◌}
use native.Mathlib.Omega.{arith}
use mathlib.Core.Path.{◌≡◌, refl, sym, ap, ap₂, ◌∙◌, subst}
use mathlib.Core.Bool.{Bool, true, false, ◌||◌}
use mathlib.Core.List.{List, [], ◌∷◌, map}
use lib.ListN.{length}
use lib.Dec.{eqb, ltb}
use borrow.Author.Tests.{eqb-true, eq-eqb, ne_eqb, ltb-true, ltb-false, lt-ltb, le-ltb}
use Rattle.spec.specs.declared.IsdAsn.{IsdAsn}
use Rattle.spec.specs.declared.PathInterface.{PathInterface}
use Rattle.std.specs.Prelude.{if◌then◌else◌}
use Rattle.spec.specs.Basics.{any, filter, range}
use Rattle.spec.specs.Octets.{be64}
use Rattle.spec.specs.Book.{same_as}
use Rattle.spec.specs.Assembly.{is_of, times_of, is_crowded, is_loop}
use Rattle.spec.proofs.Membership.{not-both}
use Rattle.spec.proofs.Lists.{map_same, map-range-first}
use Rattle.path.specs.Thrice.{number_at, numbers_in, is_number, times_in, some_thrice, Run}

times-cons : (x n : ℕ) (ns : List ℕ) → times_in x (n ∷ ns) ≡ (if eqb n x then 1 else 0) + times_in x ns
unfolding times_in filter is_number
times-cons x n ns = go (eqb n x)
  where
    rest : List ℕ
    rest = filter (is_number x) ns

    go : (t : Bool) → length (if t then n ∷ rest else rest) ≡ (if t then 1 else 0) + length rest
    go true = omega arith
    go false = omega arith

times-nil : (x : ℕ) → times_in x [] ≡ 0
unfolding times_in filter
times-nil x = refl

-- one more of x, or another
times-same : (x y : ℕ) (ns : List ℕ) → y ≡ x → times_in x (y ∷ ns) ≡ times_in x ns + 1
times-same x y ns q = times-cons x y ns ∙ ap (λ t. (if t then 1 else 0) + times_in x ns) (eq-eqb y x q) ∙ omega arith

times-other : (x y : ℕ) (ns : List ℕ) → (y ≡ x → ⊥) → times_in x (y ∷ ns) ≡ times_in x ns
times-other x y ns f = times-cons x y ns ∙ ap (λ t. (if t then 1 else 0) + times_in x ns) (ne_eqb y x f) ∙ omega arith

times-least : (x y : ℕ) (ns : List ℕ) → times_in x ns ≤ times_in x (y ∷ ns)
times-least x y ns = omega (arith, times-cons x y ns)

-- ---- Loop

abbrev pub number_of : PathInterface → ℕ
number_of i = i.local.0

times-of : (a : IsdAsn) (is : List PathInterface) → times_of a is ≡ times_in a.0 (map number_of is)
unfolding times_of times_in filter is_of same_as is_number
times-of a [] = refl
times-of a (i ∷ is) = go (eqb i.local.0 a.0) (times-of a is)
  where
    go : (t : Bool) → length (filter (is_of a) is) ≡ length (filter (is_number a.0) (map number_of is))
        → length (if t then i ∷ filter (is_of a) is else filter (is_of a) is)
        ≡ length (if t then i.local.0 ∷ filter (is_number a.0) (map number_of is) else filter (is_number a.0) (map number_of is))
    go true q = ap suc q
    go false q = q

crowded-true : (is js : List PathInterface) (x : ℕ) → 0 < times_in x (map number_of js) → 2 < times_in x (map number_of is) → any (is_crowded is) js ≡ true
unfolding any is_crowded
crowded-true is [] x h l = absurd (omega (arith, times-nil x))
crowded-true is (j ∷ js) x h l = go (eqb j.local.0 x) refl (crowded-true is js x)
  where
    or-true : (s : Bool) {t : Bool} → t ≡ true → (s || t) ≡ true
    or-true true q = refl
    or-true false q = q

    go : (t : Bool) → eqb j.local.0 x ≡ t → (0 < times_in x (map number_of js) → 2 < times_in x (map number_of is) → any (is_crowded is) js ≡ true)
        → (ltb 2 (times_of j.local is) || any (is_crowded is) js) ≡ true
    go true q ih =
        ap (λ n. ltb 2 n || any (is_crowded is) js) (times-of j.local is ∙ ap (λ z. times_in z (map number_of is)) (eqb-true j.local.0 x q))
        ∙ ap (λ t. t || any (is_crowded is) js) (lt-ltb 2 (times_in x (map number_of is)) l)
    go false q ih = or-true (ltb 2 (times_of j.local is)) (ih (omega (arith, times-other x j.local.0 (map number_of js) (λ e. not-both (eq-eqb j.local.0 x e) q))) l)

crowded-false : (is js : List PathInterface) → ((x : ℕ) → times_in x (map number_of is) ≤ 2) → any (is_crowded is) js ≡ false
unfolding any is_crowded
crowded-false is [] f = refl
crowded-false is (j ∷ js) f =
    ap₂ (λ s t. s || t) (ap (ltb 2) (times-of j.local is) ∙ le-ltb 2 (times_in j.local.0 (map number_of is)) (f j.local.0)) (crowded-false is js f)

thrice-most : (ns : List ℕ) → some_thrice ns ≡ false → (x : ℕ) → times_in x ns ≤ 2
unfolding some_thrice
thrice-most [] q x = omega (arith, times-nil x)
thrice-most (y ∷ ys) q x = go (ltb 1 (times_in y ys)) refl q (λ z. thrice-most ys z x) (eqb y x) refl
  where
    go : (s : Bool) → ltb 1 (times_in y ys) ≡ s → (s || some_thrice ys) ≡ false → (some_thrice ys ≡ false → times_in x ys ≤ 2) → (t : Bool) → eqb y x ≡ t → times_in x (y ∷ ys) ≤ 2
    go true p z ih t r = not-both refl z
    go false p z ih true r =
        let e : y ≡ x = eqb-true y x r in
        omega (arith, times-same x y ys e, ap (λ i. times_in i ys) e, ltb-false 1 (times_in y ys) p)
    go false p z ih false r = omega (arith, times-other x y ys (λ e. not-both (eq-eqb y x e) r), ih z)

thrice-some : {P : Type 0} (ns : List ℕ) → some_thrice ns ≡ true → ((x : ℕ) → 2 < times_in x ns → P) → P
unfolding some_thrice
thrice-some [] q f = not-both q refl
thrice-some {P} (y ∷ ys) q f = go (ltb 1 (times_in y ys)) refl q (λ z. thrice-some ys z (λ x h. f x (omega (arith, times-least x y ys))))
  where
    go : (s : Bool) → ltb 1 (times_in y ys) ≡ s → (s || some_thrice ys) ≡ true → (some_thrice ys ≡ true → P) → P
    go true p z ih = f y (omega (arith, times-same y y ys refl, ltb-true 1 (times_in y ys) p))
    go false p z ih = ih z

-- an AS is shown more than twice where two of those after some AS equal it
pub loop-thrice : (is : List PathInterface) → is_loop is ≡ some_thrice (map number_of is)
unfolding is_loop
loop-thrice is = go (some_thrice (map number_of is)) refl
  where
    go : (t : Bool) → some_thrice (map number_of is) ≡ t → any (is_crowded is) is ≡ t
    go true q = thrice-some (map number_of is) q (λ x h. crowded-true is is x (omega arith) h)
    go false q = crowded-false is is (thrice-most (map number_of is) q)

-- ---- the loops, from number to number

module _ (d : List ℕ) (at n : ℕ) where
  numbers-none : n ≡ 0 → numbers_in d at n ≡ []
  unfolding numbers_in range
  numbers-none q = ap (λ i. map (number_at d at) (range 0 i)) q

  numbers-first : 0 < n → numbers_in d at n ≡ be64 d at ∷ numbers_in d (at + 8) (n - 1)
  unfolding numbers_in number_at
  numbers-first h =
      let one : n ≡ suc (n - 1) = omega arith in
      let here : at + 8 * 0 ≡ at = omega arith in
      ap (λ i. map (number_at d at) (range 0 i)) one ∙ map-range-first (number_at d at) (n - 1)
      ∙ ap₂ (λ x l. x ∷ l) (ap (be64 d) here) (map_same (λ j. number_at d at (j + 1)) (number_at d (at + 8)) (λ j. ap (be64 d) (next j)) (range 0 (n - 1)))
    where
      next : (j : ℕ) → at + 8 * (j + 1) ≡ at + 8 + 8 * j
      next j = omega arith

  pub times-end : (x : ℕ) → n ≡ 0 → times_in x (numbers_in d at n) ≡ 0
  times-end x q = ap (times_in x) (numbers-none q) ∙ times-nil x

  pub thrice-end : n ≡ 0 → some_thrice (numbers_in d at n) ≡ false
  unfolding some_thrice
  thrice-end q = ap some_thrice (numbers-none q)

  module _ (y : ℕ) (q : y ≡ be64 d at) (h : 0 < n) where
    first : numbers_in d at n ≡ y ∷ numbers_in d (at + 8) (n - 1)
    first = numbers-first h ∙ ap (λ z. z ∷ numbers_in d (at + 8) (n - 1)) (sym q)

    pub times-found : (x : ℕ) → y ≡ x → times_in x (numbers_in d at n) ≡ times_in x (numbers_in d (at + 8) (n - 1)) + 1
    times-found x e = ap (times_in x) first ∙ times-same x y (numbers_in d (at + 8) (n - 1)) e

    pub times-passed : (x : ℕ) → (y ≡ x → ⊥) → times_in x (numbers_in d at n) ≡ times_in x (numbers_in d (at + 8) (n - 1))
    times-passed x f = ap (times_in x) first ∙ times-other x y (numbers_in d (at + 8) (n - 1)) f

    thrice-first : some_thrice (numbers_in d at n) ≡ (ltb 1 (times_in y (numbers_in d (at + 8) (n - 1))) || some_thrice (numbers_in d (at + 8) (n - 1)))
    unfolding some_thrice
    thrice-first = ap some_thrice first

    pub run-one : (r : ℕ) → r ≡ 1 → Run d at n y r
    run-one r e =
        record {
          some = omega arith;
          most = omega arith;
          room = omega arith;
          rest = subst (λ r. some_thrice (numbers_in d at n) ≡ (ltb (2 - r) (times_in y (numbers_in d (at + 8 * r) (n - r))) || some_thrice (numbers_in d (at + 8 * r) (n - r)))) (sym e) thrice-first;
        }

-- x among the numbers from index k on
module _ (d : List ℕ) (at n x : ℕ) where
  unfoldable pub times_from : ℕ → ℕ
  times_from k = times_in x (numbers_in d (at + 8 * k) (n - k))

  pub times-start : times_in x (numbers_in d at n) ≡ times_from 0
  unfolding times_from
  times-start = ap₂ (λ i m. times_in x (numbers_in d i m)) (omega arith) (omega arith)

  module _ (k y : ℕ) (q : y ≡ be64 d (at + 8 * k)) (h : k < n) where
    later : times_in x (numbers_in d (at + 8 * k + 8) (n - k - 1)) ≡ times_from (k + 1)
    unfolding times_from
    later = ap₂ (λ i m. times_in x (numbers_in d i m)) (omega arith) (omega arith)

    pub times-on : (y ≡ x → ⊥) → times_from k ≡ times_from (k + 1)
    unfolding times_from
    times-on f = times-passed d (at + 8 * k) (n - k) y q (omega arith) x f ∙ later

    pub times-here : y ≡ x → times_from k ≡ times_in x (numbers_in d (at + 8 * k + 8) (n - k - 1)) + 1
    unfolding times_from
    times-here e = times-found d (at + 8 * k) (n - k) y q (omega arith) x e

  pub times-over : (k : ℕ) → n ≤ k → times_from k ≡ 0
  unfolding times_from
  times-over k h = times-end d (at + 8 * k) (n - k) x (omega arith)

-- two in a row: x is repeated where it stands once more, and then the second adds nothing
two-first : (x : ℕ) (ns : List ℕ) → some_thrice (x ∷ (x ∷ ns)) ≡ (ltb 0 (times_in x ns) || some_thrice ns)
unfolding some_thrice
two-first x ns = ap (λ m. ltb 1 m || (ltb 1 (times_in x ns) || some_thrice ns)) (times-same x x ns refl) ∙ go (ltb 0 (times_in x ns)) refl (some_thrice ns)
  where
    go : (t : Bool) → ltb 0 (times_in x ns) ≡ t → (rest : Bool) → (ltb 1 (times_in x ns + 1) || (ltb 1 (times_in x ns) || rest)) ≡ (t || rest)
    go true q rest = ap (λ t. t || (ltb 1 (times_in x ns) || rest)) (lt-ltb 1 (times_in x ns + 1) (omega (arith, ltb-true 0 (times_in x ns) q)))
    go false q rest =
        ap₂ (λ s t. s || (t || rest)) (le-ltb 1 (times_in x ns + 1) (omega (arith, ltb-false 0 (times_in x ns) q))) (le-ltb 1 (times_in x ns) (omega (arith, ltb-false 0 (times_in x ns) q)))

pub run-two : (d : List ℕ) (at n x y : ℕ) → x ≡ be64 d at → 2 ≤ n → y ≡ be64 d (at + 8) → y ≡ x → Run d at n x 2
run-two d at n x y q h p e =
    let back : n - 1 - 1 ≡ n - 2 = omega arith in
    let on : at + 8 + 8 ≡ at + 16 = omega arith in
    record {
      some = omega arith;
      most = omega arith;
      room = h;
      rest =
          ap some_thrice
          (first d at n x q (omega arith) ∙ ap (λ l. x ∷ l) (first d (at + 8) (n - 1) y p (omega arith))
          ∙ ap₂ (λ z l. x ∷ (z ∷ l)) e (ap₂ (numbers_in d) on back))
          ∙ two-first x (numbers_in d (at + 16) (n - 2));
    }

module _ {d : List ℕ} {at n x r : ℕ} (run : Run d at n x r) (t : Bool) (q : t ≡ ltb (2 - r) (times_in x (numbers_in d (at + 8 * r) (n - r)))) where
  pub thrice-found : t ≡ true → some_thrice (numbers_in d at n) ≡ true
  thrice-found e = run.rest ∙ ap (λ s. s || some_thrice (numbers_in d (at + 8 * r) (n - r))) (sym q ∙ e)

  pub thrice-passed : t ≡ false → some_thrice (numbers_in d at n) ≡ some_thrice (numbers_in d (at + 8 * r) (n - r))
  thrice-passed e = run.rest ∙ ap (λ s. s || some_thrice (numbers_in d (at + 8 * r) (n - r))) (sym q ∙ e)

pub third-one : (m r : ℕ) (t : Bool) → 0 < r → r < 2 → t ≡ ltb 1 m → t ≡ ltb (2 - r) m
third-one m r t h l q =
    let e : 1 ≡ 2 - r = omega arith in
    q ∙ ap (λ i. ltb i m) e

pub third-two : (m r : ℕ) (t : Bool) → 2 ≤ r → t ≡ ltb 0 m → t ≡ ltb (2 - r) m
third-two m r t h q =
    let e : 0 ≡ 2 - r = omega arith in
    q ∙ ap (λ i. ltb i m) e

-- the answers about times m, where n were left
pub more-true : (m n r : ℕ) → m ≡ n → n ≡ r + 1 → true ≡ ltb 0 m
more-true m n r p q = sym (lt-ltb 0 m (omega arith))

pub more-false : (k m n : ℕ) → m ≡ n → n ≡ 0 → false ≡ ltb k m
more-false k m n p q = sym (le-ltb k m (omega arith))

pub more-after : (m n r : ℕ) (t : Bool) → m ≡ n → n ≡ r + 1 → t ≡ ltb 0 r → t ≡ ltb 1 m
more-after m n r t p q e = go (ltb 0 r) refl e
  where
    go : (s : Bool) → ltb 0 r ≡ s → t ≡ s → t ≡ ltb 1 m
    go true z w = w ∙ sym (lt-ltb 1 m (omega (arith, ltb-true 0 r z)))
    go false z w = w ∙ sym (le-ltb 1 m (omega (arith, ltb-false 0 r z)))
