-- Where an entry of an edge stands in the book, and what a write leaves.
-- Assumes nothing.
use Rattle.std.specs.Prelude.{ℕ, ◌+◌, ◌-◌, ◌*◌, ◌<◌, ◌≤◌, ◌≡◌, Bool, true, ◌&&◌, List, ◌++◌, map, length, take, ltb, if◌then◌else◌}
use Rattle.spec.specs.declared.Edge.{Edge}
use Rattle.spec.specs.Limits.{entry_size, peer_size}
use Rattle.spec.specs.Basics.{range}
use Rattle.spec.specs.Book.{as_entry_at, peer_entry_at, peer_offset}
use Rattle.spec.specs.Edges.{entry_of, peer_of}
use Rattle.spec.specs.Assembly.{at_shortcut, is_peer_hop, segment_of}
use Rattle.output.specs.Write.{written}

-- the bytes of an interface's AS and of its id, and the most of an entry's, which shows two interfaces
abbrev pub as_size : ℕ
as_size = 8

abbrev pub id_size : ℕ
id_size = 2

abbrev pub entry_ases : ℕ
entry_ases = 2 * as_size

abbrev pub entry_ids : ℕ
entry_ids = 2 * id_size

-- entry m is the shortcut, above the segment's first entry: the path leaves the segment there, or joins it
unfoldable pub is_inner_shortcut : Edge → ℕ → Bool
is_inner_shortcut e m = at_shortcut e m && ltb 0 e.shortcut

-- the edge's peer, where its entry stands at an offset
unfoldable pub link_offset : Edge → ℕ → ℕ
link_offset e at = peer_offset at (e.peer - 1)

pub record PeerStandsAt (b : List ℕ) (e : Edge) (m at : ℕ) : Type 0 where
  pub some : 0 < e.peer
  pub peer : peer_of (segment_of b e) m (e.peer - 1) ≡ peer_entry_at b (link_offset e at)
  pub room : link_offset e at + peer_size ≤ length b

-- entry m of the edge's segment stands at an offset
pub record StandsAt (b : List ℕ) (e : Edge) (m at : ℕ) : Type 0 where
  pub own : (entry_of (segment_of b e) m).own ≡ as_entry_at b at
  pub room : at + entry_size ≤ length b
  pub link : is_peer_hop e m ≡ true → PeerStandsAt b e m at

-- the entry of hop j, of n entries
unfoldable pub entry_from : Edge → ℕ → ℕ → ℕ
entry_from e n j = if e.construction then e.shortcut + j else n - 1 - j

module _ (b : List ℕ) (e : Edge) where
  -- the entries of the first j hops
  unfoldable pub passed : ℕ → List ℕ
  passed j = map (entry_from e (length (segment_of b e).entries)) (range 0 j)

-- xs stand in d from `at` up to r
pub record Wrote (d : List ℕ) (at : ℕ) (xs d' : List ℕ) (r : ℕ) : Type 0 where
  pub bytes : d' ≡ written d at xs
  pub end : r ≡ at + length xs

-- xs stand in d' up to r, after what stood in d up to `at`; what follows is anything
pub record Appended (d : List ℕ) (at : ℕ) (xs d' : List ℕ) (r : ℕ) : Type 0 where
  pub front : take r d' ≡ take at d ++ xs
  pub end : r ≡ at + length xs
  pub size : length d' ≡ length d
