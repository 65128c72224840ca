-- What the functions over a book and its table of offsets take for granted.
-- Assumes nothing.
use Rattle.std.specs.Prelude.{ℕ, ◌<◌, ◌≡◌, List, Ok}
use Rattle.spec.specs.Book.{segment_at, segment_count, verdict}
use Rattle.book.specs.Offsets.{offset_table}
use Rattle.graph.specs.Leaving.{entry_count}

-- an accepted book, and the table of its entries' offsets
pub record Ready (b t : List ℕ) : Type 0 where
  pub ok : verdict b ≡ Ok tt
  pub table : t ≡ offset_table b

-- a position with n entries, one at least
pub record Filled (b : List ℕ) (k n : ℕ) : Type 0 where
  pub below : k < segment_count b
  pub count : n ≡ entry_count (segment_at b k)
  pub some : 0 < n
