-- What a write leaves of a buffer.
-- Assumes nothing.
use Rattle.std.specs.Prelude.{ℕ, ◌+◌, ◌-◌, List, ◌++◌, length, take, drop, replicate}

-- xs over the bytes of d from index `at` on; what would fall past the end is dropped
unfoldable pub written : List ℕ → ℕ → List ℕ → List ℕ
written d at xs = take (length d) (take at d ++ xs ++ drop (at + length xs) d)

-- zeros over the bytes of d from index `from` on
unfoldable pub zeroed : List ℕ → ℕ → List ℕ
zeroed d from = take from d ++ replicate (length d - from) 0
