-- What a segment stores between two vertices, and what it stores that leaves a vertex.
-- Assumes nothing.
use Rattle.std.specs.Prelude.{Bool, ◌&&◌, List, [], ◌∷◌, Option, Some, None}
use Rattle.spec.specs.declared.Vertex.{Vertex}
use Rattle.spec.specs.declared.Edge.{Edge}
use Rattle.spec.specs.Basics.{filter}
use Rattle.spec.specs.Book.{Segment}
use Rattle.spec.specs.Edges.{same_vertex, stored_of}
use Rattle.spec.specs.Chains.{leaves}

-- an edge with these ends
unfoldable pub has_ends : Vertex → Vertex → Edge → Bool
has_ends v w e = same_vertex e.src v && same_vertex e.dst w

-- the stored edges of a segment from v to w: at most one
unfoldable pub between : Segment → Vertex → Vertex → List Edge
between seg v w = filter (has_ends v w) (stored_of seg)

-- the stored edges of a segment that leave v
unfoldable pub leaving_of : Vertex → Segment → List Edge
leaving_of v seg = filter (leaves v) (stored_of seg)

-- an answer as a list of at most one edge
unfoldable pub found_edges : Option Edge → List Edge
found_edges (Some e) = e ∷ []
found_edges None = []
