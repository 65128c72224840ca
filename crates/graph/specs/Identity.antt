-- An edge by its identity: the four bytes that a record has for it.
-- Assumes nothing.
use Rattle.std.specs.Prelude.{ℕ, Bool, ◌&&◌, List, eqb}
use Rattle.spec.specs.declared.Edge.{Edge}
use Rattle.spec.specs.declared.SolutionEdge.{SolutionEdge}
use Rattle.spec.specs.Basics.{filter}
use Rattle.spec.specs.Book.{Segment}
use Rattle.spec.specs.Edges.{same_bool, stored_of, stored_edges}

unfoldable pub has_identity : SolutionEdge → Edge → Bool
has_identity id e =
    eqb e.position id.position && eqb e.shortcut id.shortcut && eqb e.peer id.peer && same_bool e.construction id.construction

-- the stored edges of a segment with an identity: at most one
unfoldable pub identified : Segment → SolutionEdge → List Edge
identified seg id = filter (has_identity id) (stored_of seg)

-- those of a book
unfoldable pub identified_in : List ℕ → SolutionEdge → List Edge
identified_in b id = filter (has_identity id) (stored_edges b)
