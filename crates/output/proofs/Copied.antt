-- What `copy_from_slice`, `fill` and `to_be_bytes` leave, in the words of the contracts.
-- Assumes nothing.
use Prim.Native.Nat.{ℕ, ◌+◌, ◌-◌, ◌/◌, ◌%◌, ◌^◌, ◌≤◌, min}
use native.Mathlib.Decide.{dec_le}
use native.Mathlib.Omega.{arith}
use mathlib.Core.Path.{◌≡◌, refl, sym, ap, ap₂, ◌∙◌}
use mathlib.Core.List.{List, ◌∷◌, [], ◌++◌, append_assoc}
use lib.ListN.{length, take, drop, replicate, length-drop, length-replicate, length-take, drop_of_length-le}
use lib.Seq.{length-take-le, drop-drop, take_all, take-take}
use borrow.Rule.Slice.PartMut.{put_mid}
use Rattle.std.specs.Int.{w16, w32, w64, to_be_bytes}
use Rattle.spec.specs.Octets.{octets2, octets4, octets8}
use Rattle.output.specs.Write.{written, zeroed}
use Rattle.output.proofs.Writing.{written-within, written-past, written-cut, zeroed-written}

-- after `d[at..at + k].copy_from_slice(xs)`, which leaves ys in that part
pub copied_in : (d : List ℕ) (at k : ℕ) (xs ys : List ℕ) → ys ≡ xs → length xs ≡ k → at + k ≤ length d → put_mid at k d ys ≡ written d at xs
copied_in d at k xs ys e l h =
    ap (λ t. take at d ++ (t ++ drop k (drop at d))) e
    ∙ sym (append_assoc (take at d) xs (drop k (drop at d)))
    ∙ ap (λ t. take at d ++ xs ++ t) (drop-drop k at d ∙ ap (λ n. drop (at + n) d) (sym l))
    ∙ sym (written-within d at xs (omega arith))

-- after `d[at..at + k].copy_from_slice(&s[from..from + m])`
pub copied_part : (d : List ℕ) (at k : ℕ) (s : List ℕ) (from m n : ℕ) (ys : List ℕ) → ys ≡ take m (drop from s) → m ≡ n → k ≡ n → from + n ≤ length s → at + n ≤ length d
    → put_mid at k d ys ≡ written d at (take n (drop from s))
copied_part d at k s from m n ys e p q h g =
    copied_in d at k (take n (drop from s)) ys (e ∙ ap (λ i. take i (drop from s)) p) (length-take-le n (drop from s) (simp length-drop (omega arith)) ∙ sym q) (omega arith)

-- ---- where the code cuts a place off at the end, and a count at what is left

written_cut_off : (d : List ℕ) (at a : ℕ) (xs : List ℕ) → a ≡ min at (length d) → written d a xs ≡ written d at xs
written_cut_off d at a xs e = go (dec_le (length d) at)
  where
    go : Dec (length d ≤ at) → written d a xs ≡ written d at xs
    go (yes p) = written-past d a xs (omega arith) ∙ sym (written-past d at xs p)
    go (no p) = ap (λ i. written d i xs) (omega arith)

written_room : (d : List ℕ) (at n : ℕ) (xs : List ℕ) → at ≤ length d → n ≡ min (length xs) (length d - at) → written d at (take n xs) ≡ written d at xs
written_room d at n xs h e = go (dec_le (length d) (at + n))
  where
    go : Dec (length d ≤ at + n) → written d at (take n xs) ≡ written d at xs
    go (yes p) = written-cut d at n xs p
    go (no p) = ap (written d at) (take_all n xs (omega arith))

pub put_within : (d : List ℕ) (at a k n : ℕ) (xs ys : List ℕ) → ys ≡ take n xs → a ≡ min at (length d) → n ≡ min (length xs) (length d - a) → k ≡ n
    → put_mid a k d ys ≡ written d at xs
put_within d at a k n xs ys e p q r =
    copied_in d a k (take n xs) ys e (length-take-le n xs (omega arith) ∙ sym r) (omega arith)
    ∙ written_room d a n xs (omega arith) q
    ∙ written_cut_off d at a xs p

drop_cut_off : (s : List ℕ) (from f : ℕ) → f ≡ min from (length s) → drop f s ≡ drop from s
drop_cut_off s from f e = go (dec_le (length s) from)
  where
    go : Dec (length s ≤ from) → drop f s ≡ drop from s
    go (yes p) = drop_of_length-le s {i = f} (omega arith) ∙ sym (drop_of_length-le s {i = from} p)
    go (no p) = ap (λ i. drop i s) (omega arith)

pub copy_within : (d : List ℕ) (at : ℕ) (s : List ℕ) (from n a f m k : ℕ) (ys : List ℕ) → ys ≡ take m (drop f s) → f ≡ min from (length s) → a ≡ min at (length d)
    → m ≡ min (min n (length s - f)) (length d - a) → k ≡ m → put_mid a k d ys ≡ written d at (take n (drop from s))
copy_within d at s from n a f m k ys e p q r t =
    put_within d at a k m (take n (drop from s)) ys
    (e ∙ ap (take m) (drop_cut_off s from f p) ∙ sym (take-take m n (drop from s) (omega arith)))
    q
    (simp (length-take, length-drop) (omega arith))
    t

zeroed_cut_off : (d : List ℕ) (from f : ℕ) → f ≡ min from (length d) → zeroed d f ≡ zeroed d from
zeroed_cut_off d from f e = go (dec_le (length d) from)
  where
    go : Dec (length d ≤ from) → zeroed d f ≡ zeroed d from
    go (yes p) = sym (zeroed-written d f) ∙ written-past d f _ (omega arith) ∙ sym (written-past d from _ p) ∙ zeroed-written d from
    go (no p) = ap (zeroed d) (omega arith)

pub fill_within : (d : List ℕ) (from f k n : ℕ) (ys : List ℕ) → (((y : ℕ) → y ≡ 0 → y ≡ 0) → ys ≡ replicate n 0) → f ≡ min from (length d) → n ≡ length d - f → k ≡ n
    → put_mid f k d ys ≡ zeroed d from
fill_within d from f k n ys e p q r =
    copied_in d f k (replicate n 0) ys (e (λ y h. h)) (length-replicate n 0 ∙ sym r) (omega arith)
    ∙ ap (λ i. written d f (replicate i 0)) q
    ∙ zeroed-written d f
    ∙ zeroed_cut_off d from f p

-- ---- the bytes of a number

pub be_bytes2 : (x : ℕ) → to_be_bytes w16 x ≡ octets2 x
unfolding octets2
be_bytes2 x = refl

pub be_bytes4 : (x : ℕ) → to_be_bytes w32 x ≡ octets4 x
unfolding octets4 octets2
be_bytes4 x =
    let a : x / 2 ^ 24 % 2 ^ 8 ≡ x / 2 ^ 16 / 2 ^ 8 % 2 ^ 8 = omega arith in
    let b : x / 2 ^ 8 % 2 ^ 8 ≡ x % 2 ^ 16 / 2 ^ 8 % 2 ^ 8 = omega arith in
    let c : x % 2 ^ 8 ≡ x % 2 ^ 16 % 2 ^ 8 = omega arith in
    λ i. a i ∷ x / 2 ^ 16 % 2 ^ 8 ∷ b i ∷ c i ∷ []

pub be_bytes8 : (x : ℕ) → to_be_bytes w64 x ≡ octets8 x
unfolding octets8
be_bytes8 x = halves ∙ ap₂ (λ u v. u ++ v) (be_bytes4 (x / 2 ^ 32)) (be_bytes4 (x % 2 ^ 32))
  where
    halves : to_be_bytes w64 x ≡ to_be_bytes w32 (x / 2 ^ 32) ++ to_be_bytes w32 (x % 2 ^ 32)
    halves =
        let a : x / 2 ^ 56 % 2 ^ 8 ≡ x / 2 ^ 32 / 2 ^ 24 % 2 ^ 8 = omega arith in
        let b : x / 2 ^ 48 % 2 ^ 8 ≡ x / 2 ^ 32 / 2 ^ 16 % 2 ^ 8 = omega arith in
        let c : x / 2 ^ 40 % 2 ^ 8 ≡ x / 2 ^ 32 / 2 ^ 8 % 2 ^ 8 = omega arith in
        let e : x / 2 ^ 24 % 2 ^ 8 ≡ x % 2 ^ 32 / 2 ^ 24 % 2 ^ 8 = omega arith in
        let f : x / 2 ^ 16 % 2 ^ 8 ≡ x % 2 ^ 32 / 2 ^ 16 % 2 ^ 8 = omega arith in
        let g : x / 2 ^ 8 % 2 ^ 8 ≡ x % 2 ^ 32 / 2 ^ 8 % 2 ^ 8 = omega arith in
        let h : x % 2 ^ 8 ≡ x % 2 ^ 32 % 2 ^ 8 = omega arith in
        λ i. a i ∷ b i ∷ c i ∷ x / 2 ^ 32 % 2 ^ 8 ∷ e i ∷ f i ∷ g i ∷ h i ∷ []

module _ (d' d : List ℕ) (at : ℕ) (xs : List ℕ) (x : ℕ) where
  pub put2 : d' ≡ written d at xs → xs ≡ to_be_bytes w16 x → d' ≡ written d at (octets2 x)
  put2 r e = r ∙ ap (written d at) (e ∙ be_bytes2 x)

  pub put4 : d' ≡ written d at xs → xs ≡ to_be_bytes w32 x → d' ≡ written d at (octets4 x)
  put4 r e = r ∙ ap (written d at) (e ∙ be_bytes4 x)

  pub put8 : d' ≡ written d at xs → xs ≡ to_be_bytes w64 x → d' ≡ written d at (octets8 x)
  put8 r e = r ∙ ap (written d at) (e ∙ be_bytes8 x)
