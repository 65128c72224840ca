-- A number's octets are the bytes that it was read from.
-- Assumes nothing.
use Prim.Native.Nat.{ℕ, suc, ◌+◌, ◌*◌, ◌/◌, ◌%◌, ◌^◌, ◌≤◌, ◌<◌}
use native.Mathlib.Nat.{add_assoc}
use native.Mathlib.Numerals.{add-one}
use native.Mathlib.Omega.{arith}
use mathlib.Core.Path.{◌≡◌, ap, ap₂, ◌∙◌}
use mathlib.Core.List.{List, [], ◌∷◌, ◌++◌}
use lib.ListN.{length, get_or, take, drop}
use lib.Seq.{drop-cons, drop-drop, take-add}
use Rattle.spec.specs.Octets.{Bytes, be16, be32, be64, octets2, octets4, octets8}
use Rattle.spec.specs.Book.{mac_at}
use Rattle.spec.proofs.BookLaws.{be16-lt, be32-lt}

module _ (b : List ℕ) where
  pub byte-first : (n i : ℕ) → i < length b → take (suc n) (drop i b) ≡ get_or b i 0 ∷ take n (drop (i + 1) b)
  byte-first n i h = rw (add-one, drop-cons b i 0 h)

  pub bytes-split : (n m i : ℕ) → take (n + m) (drop i b) ≡ take n (drop i b) ++ take m (drop (i + n) b)
  bytes-split n m i = take-add n m (drop i b) ∙ ap (λ l. take n (drop i b) ++ take m l) (drop-drop n i b)

  two : (i : ℕ) → i + 2 ≤ length b → take 2 (drop i b) ≡ get_or b i 0 ∷ get_or b (i + 1) 0 ∷ []
  two i h = byte-first 1 i (omega arith) ∙ ap (λ l. get_or b i 0 ∷ l) (byte-first 0 (i + 1) (omega arith))

  pub mac-bytes : (i : ℕ) → i + 6 ≤ length b → take 6 (drop i b) ≡ mac_at b i
  unfolding mac_at
  mac-bytes i h =
      bytes-split 2 4 i
      ∙ ap₂ (λ x y. x ++ y) (two i (omega arith))
      (bytes-split 2 2 (i + 2) ∙ ap₂ (λ x y. x ++ y) (two (i + 2) (omega arith)) (two (i + 2 + 2) (omega arith)))
      ∙ simp add_assoc

  module _ (bytes : Bytes b) where
    pub be16-bytes : (i : ℕ) → i + 2 ≤ length b → take 2 (drop i b) ≡ octets2 (be16 b i)
    unfolding octets2 be16
    be16-bytes i h = two i h ∙ ap₂ (λ x y. x ∷ y ∷ []) (omega (arith, bytes i, bytes (i + 1))) (omega (arith, bytes i, bytes (i + 1)))

    -- two numbers side by side
    pub be16s-bytes : (i : ℕ) → i + 4 ≤ length b → take 4 (drop i b) ≡ octets2 (be16 b i) ++ octets2 (be16 b (i + 2))
    be16s-bytes i h = bytes-split 2 2 i ∙ ap₂ (λ x y. x ++ y) (be16-bytes i (omega arith)) (be16-bytes (i + 2) (omega arith))

    pub be32-bytes : (i : ℕ) → i + 4 ≤ length b → take 4 (drop i b) ≡ octets4 (be32 b i)
    unfolding octets4 be32
    be32-bytes i h =
        let q = be16-lt b bytes (i + 2) in
        let x : ℕ = be16 b i * 2 ^ 16 + be16 b (i + 2) in
        let e : be16 b i ≡ x / 2 ^ 16 = omega arith in
        let f : be16 b (i + 2) ≡ x % 2 ^ 16 = omega arith in
        be16s-bytes i h ∙ ap₂ (λ y z. octets2 y ++ octets2 z) e f

    pub be64-bytes : (i : ℕ) → i + 8 ≤ length b → take 8 (drop i b) ≡ octets8 (be64 b i)
    unfolding octets8 be64
    be64-bytes i h =
        let q = be32-lt b bytes (i + 4) in
        let x : ℕ = be32 b i * 2 ^ 32 + be32 b (i + 4) in
        let e : be32 b i ≡ x / 2 ^ 32 = omega arith in
        let f : be32 b (i + 4) ≡ x % 2 ^ 32 = omega arith in
        bytes-split 4 4 i ∙ ap₂ (λ x y. x ++ y) (be32-bytes i (omega arith)) (be32-bytes (i + 4) (omega arith)) ∙ ap₂ (λ y z. octets4 y ++ octets4 z) e f
