-- Equal segments: what each test of the comparison settles, and the turns of its loop.
-- Assumes nothing.
use mathlib.Core.Path.{◌≡◌, refl, sym, ap, ap₂, ◌∙◌}
use mathlib.Core.Bool.{Bool, true, false, ◌&&◌, beq}
use mathlib.Core.List.{List, [], ◌∷◌}
use Prim.Native.Nat.{ℕ, ◌+◌, ◌-◌, ◌≤◌, ◌<◌, min}
use native.Mathlib.Omega.{arith}
use lib.ListN.{length, take, drop, length-drop, drop_of_length-le}
use lib.Seq.{take_all}
use lib.Dec.{ltb, eqb}
use lib.Pointwise.{pointwise}
use borrow.Author.Tests.{ltb-true, ltb-false, eq-eqb, ne_eqb}
use Rattle.spec.specs.Basics.{same_list}
use Rattle.spec.specs.Book.{cores, timestamp_at, id_at, body_length_at, body_offset, segment_at}
use Rattle.spec.specs.Edges.{same_bool, same_segment}
use Rattle.equal.specs.Same.{same_parts}

-- ---- equality of the code

pub bools-same : (a b : Bool) → beq a b ≡ same_bool a b
unfolding same_bool
bools-same true true = refl
bools-same true false = refl
bools-same false true = refl
bools-same false false = refl

lists-same : (xs ys : List ℕ) → pointwise eqb xs ys ≡ same_list xs ys
unfolding same_list
lists-same [] [] = refl
lists-same [] (y ∷ ys) = refl
lists-same (x ∷ xs) [] = refl
lists-same (x ∷ xs) (y ∷ ys) = ap (λ t. eqb x y && t) (lists-same xs ys)

-- ---- parts, as much of them as lies in the book

take-least : (n : ℕ) (xs : List ℕ) → take n xs ≡ take (min n (length xs)) xs
take-least n xs = go (ltb (length xs) n) refl
  where
    go : (t : Bool) → ltb (length xs) n ≡ t → take n xs ≡ take (min n (length xs)) xs
    go true q =
        let h : length xs < n = ltb-true _ _ q in
        take_all n xs (omega arith) ∙ sym (take_all (min n (length xs)) xs (omega arith))
    go false q =
        let h : n ≤ length xs = ltb-false _ _ q in
        let e : n ≡ min n (length xs) = omega arith in
        ap (λ m. take m xs) e

drop-least : (i : ℕ) (xs : List ℕ) → drop i xs ≡ drop (min i (length xs)) xs
drop-least i xs = go (ltb (length xs) i) refl
  where
    go : (t : Bool) → ltb (length xs) i ≡ t → drop i xs ≡ drop (min i (length xs)) xs
    go true q =
        let h : length xs < i = ltb-true _ _ q in
        drop_of_length-le xs {i = i} (omega arith) ∙ sym (drop_of_length-le xs {i = min i (length xs)} (omega arith))
    go false q =
        let h : i ≤ length xs = ltb-false _ _ q in
        let e : i ≡ min i (length xs) = omega arith in
        ap (λ m. drop m xs) e

part-least : (b : List ℕ) (i n p u : ℕ) → p ≡ min i (length b) → u ≡ min n (length b - p) → take n (drop i b) ≡ take u (drop p b)
part-least b i n p u e f =
    ap (take n) (drop-least i b ∙ ap (λ m. drop m b) (sym e))
    ∙ take-least n (drop p b)
    ∙ ap (λ m. take m (drop p b)) (g ∙ sym f)
  where
    g : min n (length (drop p b)) ≡ min n (length b - p)
    g = rw length-drop

pub false-from : (t : Bool) → (t ≡ true → ⊥) → t ≡ false
false-from true f = absurd (f refl)
false-from false f = refl

module _ (b : List ℕ) (i m j n p u q v : ℕ) where
  pub parts-same : p ≡ min i (length b) → u ≡ min m (length b - p) → q ≡ min j (length b) → v ≡ min n (length b - q)
      → pointwise eqb (take (p + u - p) (drop p b)) (take (q + v - q) (drop q b)) ≡ same_parts b i m j n
  unfolding same_parts
  parts-same ep eu eq ev =
      let e : p + u - p ≡ u = omega arith in
      let f : q + v - q ≡ v = omega arith in
      ap₂ (λ k l. pointwise eqb (take k (drop p b)) (take l (drop q b))) e f
      ∙ lists-same (take u (drop p b)) (take v (drop q b)) ∙ sym (ap₂ same_list (part-least b i m p u ep eu) (part-least b j n q v eq ev))

-- ---- segments

-- the four comparisons, bodies by their places
segment-is : (b : List ℕ) (j k : ℕ)
    → same_segment (segment_at b j) (segment_at b k)
    ≡ (same_bool (ltb j (cores b)) (ltb k (cores b)) && eqb (timestamp_at b j) (timestamp_at b k) && eqb (id_at b j) (id_at b k) && same_parts b (body_offset b j) (body_length_at b j) (body_offset b k) (body_length_at b k))
unfolding same_segment segment_at same_parts
segment-is b j k = refl

-- what each test settles, of what the code read
module _ (b : List ℕ) (j k : ℕ) where
  pub other-id : {x y : ℕ} → x ≡ id_at b j → y ≡ id_at b k → (x ≡ y → ⊥) → same_segment (segment_at b j) (segment_at b k) ≡ false
  other-id p q d =
      segment-is b j k ∙ rw (ne_eqb (id_at b j) (id_at b k) (λ e. d (p ∙ e ∙ sym q))) (go (same_bool (ltb j (cores b)) (ltb k (cores b))) (eqb (timestamp_at b j) (timestamp_at b k)) (same_parts b (body_offset b j) (body_length_at b j) (body_offset b k) (body_length_at b k)))
    where
      go : (s t u : Bool) → (s && t && false && u) ≡ false
      go false t u = refl
      go true false u = refl
      go true true u = refl

  pub other-time : {x y : ℕ} → x ≡ timestamp_at b j → y ≡ timestamp_at b k → (x ≡ y → ⊥) → same_segment (segment_at b j) (segment_at b k) ≡ false
  other-time p q d =
      segment-is b j k ∙ rw (ne_eqb (timestamp_at b j) (timestamp_at b k) (λ e. d (p ∙ e ∙ sym q))) (go (same_bool (ltb j (cores b)) (ltb k (cores b))) (eqb (id_at b j) (id_at b k)) (same_parts b (body_offset b j) (body_length_at b j) (body_offset b k) (body_length_at b k)))
    where
      go : (s t u : Bool) → (s && false && t && u) ≡ false
      go false t u = refl
      go true t u = refl

  module _ {kinds : Bool} (e : kinds ≡ same_bool (ltb j (cores b)) (ltb k (cores b))) where
    pub other-kind : kinds ≡ false → same_segment (segment_at b j) (segment_at b k) ≡ false
    other-kind h = segment-is b j k ∙ rw (sym e ∙ h)

    pub by-bodies : id_at b j ≡ id_at b k → {x y : ℕ} → x ≡ timestamp_at b j → y ≡ timestamp_at b k → x ≡ y → kinds ≡ true
        → {m n at start : ℕ} → m ≡ body_length_at b j → n ≡ body_length_at b k → at ≡ body_offset b j → start ≡ body_offset b k
        → {bodies : Bool} → bodies ≡ same_parts b at m start n → same_segment (segment_at b j) (segment_at b k) ≡ bodies
    by-bodies i p q t h em en ea es r =
        segment-is b j k
        ∙ rw (sym e ∙ h, eq-eqb (timestamp_at b j) (timestamp_at b k) (sym p ∙ t ∙ q), eq-eqb (id_at b j) (id_at b k) i) (cc)
