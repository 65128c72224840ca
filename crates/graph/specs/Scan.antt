-- The first and the last number of which a test holds, as loops over entries and peers find them.
-- Assumes nothing.
use Rattle.std.specs.Prelude.{ℕ, zero, suc, ◌+◌, Bool, if◌then◌else◌}

module _ (p : ℕ → Bool) where
  -- the first of `left` numbers from i on that passes; the one after them where none does
  unfoldable pub first_with : ℕ → ℕ → ℕ
  first_with i zero = i
  first_with i (suc left) = let rest = first_with (i + 1) left in if p i then i else rest

  -- one more than the last number below n that passes; 0 where none does
  unfoldable pub last_with : ℕ → ℕ
  last_with zero = 0
  last_with (suc n) = let rest = last_with n in if p n then suc n else rest
