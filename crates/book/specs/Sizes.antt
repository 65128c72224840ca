-- The answer about a book before its bodies, and what the pass over them goes by.
-- Assumes nothing.
use Rattle.std.specs.Prelude.{ℕ, suc, ◌+◌, ◌*◌, ◌≤◌, ◌≡◌, false, not, List, Result, length, ltb, eqb, if◌then◌else◌, Ok, Err}
use Rattle.spec.specs.declared.Refusal.{Refusal}
use Rattle.spec.specs.declared.Refusal.TheVariants.{Cut, Surplus, Oversize, Crowded, Long, Misfit}
use Rattle.spec.specs.Book.{Verdict, segment_count, body_total, lengths_below, body_offset, whole_length, too_long, peer_count, entries_verdict}
use Rattle.spec.specs.Limits.{sizes_size, entry_size, max_book, max_segments, max_entries, max_peers}

-- the tests of `verdict` in their order, up to the bodies
unfoldable pub sizes_verdict : List ℕ → Verdict
sizes_verdict b =
    if ltb max_book (length b) then Err Oversize
    else if ltb (length b) sizes_size then Err Cut
    else if ltb max_segments (segment_count b) then Err Crowded
    else if ltb (length b) (whole_length b) then Err Cut
    else if ltb (whole_length b) (length b) then Err Surplus
    else if too_long b then Err Long
    else if not (eqb (lengths_below b (segment_count b)) (body_total b)) then Err Misfit
    else Ok tt

-- a book that passes them
pub record Sized (b : List ℕ) : Type 0 where
  pub small : length b ≤ max_book
  pub crowd : segment_count b ≤ max_segments
  pub short : too_long b ≡ false
  pub whole : body_offset b (segment_count b) ≡ length b

-- a book with `count` segments whose first body starts at `start`, and which is as long as its sizes ask for
pub record Fronted (b : List ℕ) (count start : ℕ) : Type 0 where
  pub small : length b ≤ max_book
  pub crowd : count ≤ max_segments
  pub all : count ≡ segment_count b
  pub first : start ≡ body_offset b 0
  pub whole : whole_length b ≡ length b

-- a body of a book of sizes that fit: where its row of the table begins, its ends and its number of entries
pub record InBook (b : List ℕ) (row start end count : ℕ) : Type 0 where
  pub position : row + max_entries ≤ max_segments * max_entries
  pub entries : count ≤ max_entries
  pub filled : start ≤ end
  pub inside : end ≤ length b
  pub small : length b ≤ max_book

-- what the entry at an offset says of the body that ends at `end`: how many peers it has, or why it is refused whatever is left after it
abbrev pub Counted : List ℕ → ℕ → ℕ → Result ℕ Refusal → Type 0
Counted b end at (Ok n) = (at + entry_size ≤ end) × (n ≡ peer_count b at) × (n ≤ max_peers)
Counted b end at (Err r) = (left : ℕ) → entries_verdict b end at (suc left) ≡ Err r
