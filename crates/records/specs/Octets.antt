-- The bytes of a solution's record, from what it says.
-- Assumes nothing.
use Rattle.std.specs.Prelude.{ℕ, get_or}
use mathlib.Core.List.{List, [], ◌∷◌, ◌++◌, flat_map}
use Rattle.spec.specs.declared.Solution.{Solution}
use Rattle.spec.specs.Limits.{max_edges}
use Rattle.spec.specs.Octets.{octets2}
use Rattle.spec.specs.Basics.{range}
use Rattle.spec.specs.Records.{edge_octets, no_edge}

-- of its edge k
unfoldable pub edge_bytes : Solution → ℕ → List ℕ
edge_bytes s k = edge_octets (get_or s.edges k no_edge)

unfoldable pub record_octets : Solution → List ℕ
record_octets s = octets2 s.cost ++ (s.count ∷ 0 ∷ []) ++ flat_map (edge_bytes s) (range 0 max_edges)
