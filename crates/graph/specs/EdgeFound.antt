-- An edge to an AS of a non-core segment, by what is not known of it before it is found.
-- Assumes nothing.
use Rattle.std.specs.Prelude.{ℕ, false, List, [], ◌∷◌, Option, Some, None}
use Rattle.spec.specs.declared.IsdAsn.{IsdAsn}
use Rattle.spec.specs.declared.Vertex.{Vertex}
use Rattle.spec.specs.declared.Vertex.TheVariants.{AS}
use Rattle.spec.specs.declared.Edge.{Edge}
use Rattle.graph.specs.declared.edges.EdgeFound.{EdgeFound}

-- the edge of the segment at k from v to w
unfoldable pub whole_edge : ℕ → Vertex → IsdAsn → EdgeFound → Edge
whole_edge k v w j =
    record {
      src = v;
      dst = AS w;
      weight = j.weight;
      shortcut = j.shortcut;
      peer = j.peer;
      position = k;
      construction = j.construction;
      core = false;
    }

-- as a list of at most one
unfoldable pub whole_edges : ℕ → Vertex → IsdAsn → Option EdgeFound → List Edge
whole_edges k v w None = []
whole_edges k v w (Some j) = whole_edge k v w j ∷ []
