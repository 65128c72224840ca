-- Numbers of the bytes from a place on, with zeros after the end.
-- Assumes nothing.
use Prim.Native.Nat.{ℕ, suc, ◌+◌, ◌-◌, ◌≤◌, ◌<◌, min}
use native.Mathlib.Decide.{dec_le}
use native.Mathlib.Omega.{arith}
use mathlib.Core.Path.{◌≡◌, sym, ap, ◌∙◌}
use mathlib.Core.List.{List, ◌++◌}
use lib.ListN.{length, take, drop, get_or, replicate, length-drop, get_or-eq_default, get_or-append, get_or-replicate}
use lib.Seq.{get_or-take, get_or-drop, get_or-append_right}
use Rattle.std.specs.Int.{w16, w32, w64, from_be_bytes}
use Rattle.spec.specs.Octets.{be16, be32, be64}

-- byte i of the n bytes from `at` on
byte_of : (b : List ℕ) (at n i p : ℕ) (xs : List ℕ) → xs ≡ take n (drop at b ++ replicate n 0) → i < n → p ≡ at + i → get_or xs i 0 ≡ get_or b p 0
byte_of b at n i p xs e h q =
    ap (λ l. get_or l i 0) e
    ∙ get_or-take n (drop at b ++ replicate n 0) i 0 h
    ∙ go (dec_le (suc i) (length (drop at b)))
    ∙ ap (λ k. get_or b k 0) (sym q)
  where
    go : Dec (suc i ≤ length (drop at b)) → get_or (drop at b ++ replicate n 0) i 0 ≡ get_or b (at + i) 0
    go (yes l) = get_or-append (drop at b) (replicate n 0) 0 i l ∙ get_or-drop at b i 0
    go (no l) =
        get_or-append_right (drop at b) (replicate n 0) i 0 (omega arith)
        ∙ get_or-replicate n (i - length (drop at b)) 0 0 (omega arith)
        ∙ sym (get_or-eq_default b 0 {n = at + i} (omega (arith, length-drop at b)))

module _ (b : List ℕ) (at : ℕ) (xs : List ℕ) (x : ℕ) where
  pub number16 : x ≡ from_be_bytes w16 xs → xs ≡ take 2 (drop at b ++ replicate 2 0) → x ≡ be16 b at
  unfolding be16
  number16 r e =
      let byte = λ (i p : ℕ). byte_of b at 2 i p xs e in
      omega (arith, byte 0 at (omega arith) (omega arith), byte 1 (at + 1) (omega arith) (omega arith))

  pub number32 : x ≡ from_be_bytes w32 xs → xs ≡ take 4 (drop at b ++ replicate 4 0) → x ≡ be32 b at
  unfolding be32 be16
  number32 r e =
      let byte = λ (i p : ℕ). byte_of b at 4 i p xs e in
      omega (
        arith,
        byte 0 at (omega arith) (omega arith),
        byte 1 (at + 1) (omega arith) (omega arith),
        byte 2 (at + 2) (omega arith) (omega arith),
        byte 3 (at + 2 + 1) (omega arith) (omega arith),
      )

  pub number64 : x ≡ from_be_bytes w64 xs → xs ≡ take 8 (drop at b ++ replicate 8 0) → x ≡ be64 b at
  unfolding be64 be32 be16
  number64 r e =
      let byte = λ (i p : ℕ). byte_of b at 8 i p xs e in
      omega (
        arith,
        byte 0 at (omega arith) (omega arith),
        byte 1 (at + 1) (omega arith) (omega arith),
        byte 2 (at + 2) (omega arith) (omega arith),
        byte 3 (at + 2 + 1) (omega arith) (omega arith),
        byte 4 (at + 4) (omega arith) (omega arith),
        byte 5 (at + 4 + 1) (omega arith) (omega arith),
        byte 6 (at + 4 + 2) (omega arith) (omega arith),
        byte 7 (at + 4 + 2 + 1) (omega arith) (omega arith),
      )

-- past the end
be16_end : (b : List ℕ) (at : ℕ) → length b ≤ at → be16 b at ≡ 0
unfolding be16
be16_end b at h = omega (arith, get_or-eq_default b 0 {n = at} h, get_or-eq_default b 0 {n = at + 1} (omega arith))

be32_end : (b : List ℕ) (at : ℕ) → length b ≤ at → be32 b at ≡ 0
unfolding be32
be32_end b at h = omega (arith, be16_end b at h, be16_end b (at + 2) (omega arith))

-- a reader that finds 0 past the end finds the same where the place is cut off at the last usize
same_at : (b : List ℕ) (f : ℕ → ℕ) (m n : ℕ) → ((i : ℕ) → length b ≤ i → f i ≡ 0) → m ≡ min n 18446744073709551615 → length b ≤ 18446744073709551615 → f m ≡ f n
same_at b f m n ends e h = go (dec_le n 18446744073709551615)
  where
    go : Dec (n ≤ 18446744073709551615) → f m ≡ f n
    go (yes p) = ap f (omega arith)
    go (no p) = ends m (omega arith) ∙ sym (ends n (omega arith))

module _ (b : List ℕ) (m n x : ℕ) where
  pub be16_cut : x ≡ be16 b m → m ≡ min n 18446744073709551615 → length b ≤ 18446744073709551615 → x ≡ be16 b n
  be16_cut r e h = r ∙ same_at b (be16 b) m n (be16_end b) e h

  pub be32_cut : x ≡ be32 b m → m ≡ min n 18446744073709551615 → length b ≤ 18446744073709551615 → x ≡ be32 b n
  be32_cut r e h = r ∙ same_at b (be32 b) m n (be32_end b) e h
