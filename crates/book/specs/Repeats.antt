-- Whether an AS stands twice among some, of a body or of a row of the table of offsets.
-- Assumes nothing.
use Rattle.std.specs.Prelude.{ℕ, ◌+◌, ◌*◌, ◌≤◌, ◌<◌, ◌≡◌, Bool, false, List, length, get_or, Ok}
use Rattle.spec.specs.declared.IsdAsn.{IsdAsn}
use Rattle.spec.specs.Limits.{max_segments, max_entries, entry_size}
use Rattle.spec.specs.Basics.{any, range}
use Rattle.spec.specs.Book.{same_as, isd_asn_at, entry_offset, entries_verdict}
use Rattle.book.specs.Offsets.{with_row}

-- ASes by their number
module _ (ases : ℕ → IsdAsn) where
  unfoldable pub same_at : ℕ → ℕ → Bool
  same_at i j = same_as (ases j) (ases i)

  -- that of i stands earlier
  unfoldable pub earlier : ℕ → Bool
  earlier i = any (same_at i) (range 0 i)

  -- that of one of the first n does
  unfoldable pub twice : ℕ → Bool
  twice n = any earlier (range 0 n)

-- the AS of entry i of the body that starts at an offset
unfoldable pub entry_as : List ℕ → ℕ → ℕ → IsdAsn
entry_as b start i = isd_asn_at b (entry_offset b start i)

-- the AS of the entry whose offset stands at place i of a row
unfoldable pub place_as : List ℕ → List ℕ → ℕ → ℕ → IsdAsn
place_as b table row i = isd_asn_at b (get_or table (row + i) 0)

-- n places of a row are in the table, and their entries in the book
pub record Within (b table : List ℕ) (row n : ℕ) : Type 0 where
  pub places : row + n ≤ max_segments * max_entries
  pub inside : (j : ℕ) → j < n → get_or table (row + j) 0 + entry_size ≤ length b

-- a body passes every test, and its offsets are stored
pub record RowPassed (b : List ℕ) (row start end count : ℕ) (table stored : List ℕ) : Type 0 where
  pub fits : entries_verdict b end start count ≡ Ok tt
  pub once : twice (entry_as b start) count ≡ false
  pub rows : stored ≡ with_row b start row count table
