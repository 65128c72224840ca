-- What the first line's function leaves: the records that listing left, how many there are, and the line.
-- Assumes nothing.
use Rattle.std.specs.Prelude.{ℕ, ◌≤◌, ◌≡◌, List}
use Rattle.path.specs.Places.{Wrote}
use Rattle.printed.specs.declared.Opening.{Opening}
use Rattle.printed.specs.Pieces.{listed, first_line, first_line_size, count_of}

pub record Opened (input : List ℕ) (bytes : ℕ) (records d d' : List ℕ) (r : Opening) : Type 0 where
  pub held : records ≡ (listed input bytes).1
  pub solutions : r.solutions ≡ count_of (listed input bytes).0
  pub line : Wrote d 0 (first_line input bytes) d' r.length
  pub short : r.length ≤ first_line_size
