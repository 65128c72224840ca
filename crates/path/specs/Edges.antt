-- The edges that a record names, and that they are a book's.
-- Assumes nothing.
use Rattle.std.specs.Prelude.{ℕ, ◌<◌, ◌≤◌, false, length}
use mathlib.Core.List.{List, map, Memᴰ as Mem}
use Rattle.spec.specs.declared.Vertex.TheVariants.{AS}
use Rattle.spec.specs.declared.Edge.{Edge}
use Rattle.spec.specs.declared.SolutionEdge.{SolutionEdge}
use Rattle.spec.specs.Limits.{max_edges, solution_size}
use Rattle.spec.specs.Basics.{range}
use Rattle.spec.specs.Book.{segment_count}
use Rattle.spec.specs.Records.{record_edge}
use Rattle.spec.specs.Edges.{entry_of}
use Rattle.spec.specs.Assembly.{segment_of}

-- an edge as assembly knows it: by the four bytes that a record has for it
abbrev pub edge_by : SolutionEdge → Edge
edge_by e =
    record {
      src = AS (record { 0 = 0 });
      dst = AS (record { 0 = 0 });
      weight = 0;
      shortcut = e.shortcut;
      peer = e.peer;
      position = e.position;
      construction = e.construction;
      core = false;
    }

-- its segment, its shortcut's entry and its peer are in the book
pub record InBook (b : List ℕ) (e : Edge) : Type 0 where
  pub position : e.position < segment_count b
  pub shortcut : e.shortcut < length (segment_of b e).entries
  pub peer : e.peer ≤ length (entry_of (segment_of b e) e.shortcut).peers

-- edge k of a record, and its first edges
unfoldable pub edge_in : List ℕ → ℕ → Edge
edge_in given k = edge_by (record_edge given k)

unfoldable pub edges_in : List ℕ → ℕ → List Edge
edges_in given count = map (edge_in given) (range 0 count)

pub record EdgesInBook (b : List ℕ) (c : List Edge) : Type 0 where
  pub edges : (e : Edge) → Mem e c → InBook b e
  pub few : length c ≤ max_edges

-- a record with its first `count` edges
pub record RecordInBook (b given : List ℕ) (count : ℕ) : Type 0 where
  pub edges : EdgesInBook b (edges_in given count)
  pub room : solution_size ≤ length given
