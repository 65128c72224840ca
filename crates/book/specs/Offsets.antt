-- The table of the offsets at which a book's entries start.
-- Assumes nothing.
use Rattle.std.specs.Prelude.{ℕ, zero, suc, ◌+◌, ◌*◌, List, set, replicate, Ok, Err}
use Rattle.spec.specs.Book.{Verdict, segment_count, entry_count_at, body_offset, entry_offset, verdict}
use Rattle.spec.specs.Limits.{max_segments, max_entries}

unfoldable pub no_offsets : List ℕ
no_offsets = replicate (max_segments * max_entries) 0

-- the table with the offsets of the first n entries of a body, which starts at `at`, stored from `place` on
unfoldable pub with_row : List ℕ → ℕ → ℕ → ℕ → List ℕ → List ℕ
with_row b at place zero table = table
with_row b at place (suc n) table = set (with_row b at place n table) (place + n) (entry_offset b at n)

-- the offsets of the entries of the bodies before position k: entry i of position j stands at max_entries j + i, and elsewhere 0
unfoldable pub rows_below : List ℕ → ℕ → List ℕ
rows_below b zero = no_offsets
rows_below b (suc k) = with_row b (body_offset b k) (max_entries * k) (entry_count_at b k) (rows_below b k)

-- of an accepted book
unfoldable pub offset_table : List ℕ → List ℕ
offset_table b = rows_below b (segment_count b)

-- the table by the answer about the book
abbrev pub table_on : Verdict → List ℕ → List ℕ
table_on (Ok tt) table = table
table_on (Err r) table = no_offsets

unfoldable pub open_table : List ℕ → List ℕ
open_table b = table_on (verdict b) (offset_table b)
