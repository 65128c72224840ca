-- What the loops of the search take for granted.
-- Assumes nothing.
use Rattle.std.specs.Prelude.{ℕ, ◌-◌, ◌≤◌, ◌<◌, ◌≡◌, Bool, false, ◌&&◌, ◌||◌, not, List, get_or}
use Rattle.spec.specs.declared.IsdAsn.{IsdAsn}
use Rattle.spec.specs.Limits.{max_segments}
use Rattle.spec.specs.Book.{segments, segment_at, segment_count, cores}
use Rattle.spec.specs.Edges.{is_first}
use Rattle.graph.specs.Scan.{first_with}
use Rattle.graph.specs.Leaving.{has_as}

-- chains may begin in the segment at a position: it is the first of its equals, and a core segment, or an entry has the source's AS
unfoldable pub begins : List ℕ → IsdAsn → ℕ → Bool
begins b src k = is_first (segments b) (segment_at b k) && ((segment_at b k).core || has_as (segment_at b k) src)

-- chains may arrive there by an edge of a non-core segment: it is the first of its equals, and an entry has the destination's AS
unfoldable pub arrives : List ℕ → IsdAsn → ℕ → Bool
arrives b dst k = is_first (segments b) (segment_at b k) && (not (segment_at b k).core && has_as (segment_at b k) dst)

-- for each of n positions from k on whether chains may begin there, and for each and the one past the last the next position from there on where they may arrive
pub record Planned (b : List ℕ) (src dst : IsdAsn) (n k : ℕ) (starts : List Bool) (nexts : List ℕ) : Type 0 where
  pub begin : (i : ℕ) → k ≤ i → i < n → get_or starts i false ≡ begins b src i
  pub next : (i : ℕ) → k ≤ i → i ≤ n → get_or nexts i 0 ≡ first_with (arrives b dst) i (n - i)

pub record Prepared (b : List ℕ) (starts : List Bool) (nexts : List ℕ) (src dst : IsdAsn) (c n : ℕ) : Type 0 where
  pub planned : Planned b src dst n 0 starts nexts
  pub cores : c ≡ cores b
  pub count : n ≡ segment_count b
  pub within : c ≤ n
  pub small : n ≤ max_segments
