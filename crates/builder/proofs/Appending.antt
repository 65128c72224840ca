-- Parts written one after the other are one.
-- Assumes nothing.
use Prim.Native.Nat.{ℕ, ◌+◌, ◌-◌, ◌^◌, ◌≤◌, ◌<◌, min}
use native.Mathlib.Decide.{dec_le}
use native.Mathlib.Omega.{arith}
use mathlib.Core.Path.{◌≡◌, sym, ap, ◌∙◌}
use mathlib.Core.List.{List, ◌++◌}
use lib.ListN.{length, take, drop, length-append}
use lib.Seq.{take-length}
use Rattle.output.specs.Write.{written}
use Rattle.output.proofs.Writing.{written-join, written-length, written-past}
use Rattle.builder.specs.Layout.{appended}

-- what a function that writes xs leaves
pub wrote : (d d₁ : List ℕ) (at r sum : ℕ) (xs : List ℕ) → d₁ ≡ written d at (take (length xs) (drop 0 xs)) → length d < 2 ^ 64 → sum ≡ min (at + length xs) (2 ^ 64 - 1) → r ≡ min sum (length d₁)
    → (d₁, r) ≡ appended d at xs
unfolding appended
wrote d d₁ at r sum xs w f s e =
    let b : d₁ ≡ written d at xs = w ∙ ap (written d at) (take-length xs) in
    let l : length d₁ ≡ length d = ap length b ∙ written-length d at xs in
    let n : r ≡ min (length d) (at + length xs) = omega arith in
    rw (n, b)

-- where the buffer ends before the second
joined : (d : List ℕ) (at : ℕ) (xs ys : List ℕ) → written (written d at xs) (min (length d) (at + length xs)) ys ≡ written d at (xs ++ ys)
joined d at xs ys = go (dec_le (at + length xs) (length d))
  where
    go : Dec (at + length xs ≤ length d) → written (written d at xs) (min (length d) (at + length xs)) ys ≡ written d at (xs ++ ys)
    go (yes h) =
        let e : min (length d) (at + length xs) ≡ at + length xs = omega arith in
        rw e (written-join d at xs ys)
    go (no h) =
        let e : min (length d) (at + length xs) ≡ length d = omega arith in
        rw e (written-past (written d at xs) (length d) ys (simp written-length (omega arith))
        ∙ sym (written-past (written d at xs) (at + length xs) ys (simp written-length (omega arith)))
        ∙ written-join d at xs ys)

-- a part, given as bytes zs that are its ys, after another
pub next : (d d₁ : List ℕ) (at r₁ : ℕ) (xs : List ℕ) {ys zs : List ℕ} (end : List ℕ × ℕ) → (d₁, r₁) ≡ appended d at xs → end ≡ appended d₁ r₁ zs → zs ≡ ys → end ≡ appended d at (xs ++ ys)
unfolding appended
next d d₁ at r₁ xs {ys = ys} end p q z =
    let w : d₁ ≡ written d at xs = ap (λ x. x.0) p in
    let e : r₁ ≡ min (length d) (at + length xs) = ap (λ x. x.1) p in
    let l : length d₁ ≡ length d = rw (w, written-length) in
    let bytes : written d₁ r₁ ys ≡ written d at (xs ++ ys) = rw (w, e) (joined d at xs ys) in
    let end : min (length d₁) (r₁ + length ys) ≡ min (length d) (at + length (xs ++ ys)) = rw (l, e, length-append) (omega arith) in
    q ∙ rw (z, bytes, end)
