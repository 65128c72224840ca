-- Words and numbers as bytes, the highest first.
-- Assumes nothing.
use Rattle.std.proofs.Common.{◌≡◌, ℕ, ◌+◌, ◌/◌, ◌%◌, ◌^◌, ◌<◌, List, [], ◌∷◌, ◌++◌, length, get_or, take, refl, sym, ap, ◌∙◌, arith, append_assoc}
use Rattle.std.proofs.lemmas.List.{take_more}
use Rattle.std.specs.Int.{w32, w64, to_be_bytes}
use Rattle.sha256.specs.Words.{octets}

-- what `to_be_bytes` gives of a word, and of a number of 64 bits
pub octets-of-word : (x : ℕ) → to_be_bytes w32 x ≡ octets 4 x
octets-of-word x =
    let e : x ≡ x / 1 = omega arith in
    ap (λ (y : ℕ). x / 2 ^ 24 % 256 ∷ x / 2 ^ 16 % 256 ∷ x / 2 ^ 8 % 256 ∷ y % 256 ∷ []) e

pub octets-of-size : (x : ℕ) → to_be_bytes w64 x ≡ octets 8 x
octets-of-size x =
    let e : x ≡ x / 1 = omega arith in
    ap (λ (y : ℕ). x / 2 ^ 56 % 256 ∷ x / 2 ^ 48 % 256 ∷ x / 2 ^ 40 % 256 ∷ x / 2 ^ 32 % 256 ∷ x / 2 ^ 24 % 256 ∷ x / 2 ^ 16 % 256 ∷ x / 2 ^ 8 % 256 ∷ y % 256 ∷ []) e

-- the bytes of words, one after the other
unfoldable pub joined : List ℕ → List ℕ
joined [] = []
joined (w ∷ ws) = octets 4 w ++ joined ws

joined-append : (xs : List ℕ) (y : ℕ) → joined (xs ++ y ∷ []) ≡ joined xs ++ octets 4 y
unfolding joined
joined-append [] y = refl
joined-append (x ∷ xs) y = ap (λ (l : List ℕ). octets 4 x ++ l) (joined-append xs y) ∙ sym (append_assoc (octets 4 x) (joined xs) (octets 4 y))

pub joined-more : (ws : List ℕ) (i : ℕ) → i < length ws → joined (take (i + 1) ws) ≡ joined (take i ws) ++ octets 4 (get_or ws i 0)
joined-more ws i h = ap joined (take_more ws i 0 h) ∙ joined-append (take i ws) (get_or ws i 0)
