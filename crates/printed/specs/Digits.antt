-- Numbers as text, written from the last digit to the first.
-- Assumes nothing.
use Rattle.std.specs.Prelude.{ℕ, zero, suc, ◌+◌, ◌/◌, ◌%◌, List, [], ◌∷◌, ◌++◌, ltb, if◌then◌else◌}

-- a digit below 16
unfoldable pub glyph_of : ℕ → ℕ
glyph_of d = if ltb d 10 then 48 + d else 87 + d

-- the last k digits of n in a base
unfoldable pub digits : ℕ → ℕ → ℕ → List ℕ
digits base zero n = []
digits base (suc k) n = digits base k (n / base) ++ (glyph_of (n % base) ∷ [])
