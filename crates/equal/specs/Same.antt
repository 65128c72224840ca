-- Bodies compared, by their places in the book.
-- Assumes nothing.
use Rattle.std.specs.Prelude.{ℕ, Bool, List, take, drop}
use Rattle.spec.specs.Basics.{same_list}

-- the m bytes at i and the n at j, of either only those that lie in the book
unfoldable pub same_parts : List ℕ → ℕ → ℕ → ℕ → ℕ → Bool
same_parts b i m j n = same_list (take m (drop i b)) (take n (drop j b))
