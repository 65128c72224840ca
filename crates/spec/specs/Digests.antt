-- How many fingerprints a comparison of two solutions works out.
-- Assumes nothing.
use Rattle.std.specs.Prelude.{ℕ, ◌+◌, ◌&&◌, not, List, [], ◌∷◌, map, length, eqb, if◌then◌else◌}
use Rattle.std.proofs.Math.Dec.{compare_is_eq}
use Rattle.spec.specs.declared.Edge.{Edge}
use Rattle.spec.specs.declared.SolutionEdge.{SolutionEdge}
use Rattle.spec.specs.Order.{cost, solution_edge, compare_edges}

-- 5.7: a pair of edges: two where peer and shortcut leave it equal and the positions are different
unfoldable pub pair_digests : SolutionEdge → SolutionEdge → ℕ
pair_digests e f =
    if eqb e.peer f.peer && eqb e.shortcut f.shortcut && not (eqb e.position f.position) then 2 else 0

module _ (digest : List ℕ → List ℕ) (b : List ℕ) where
  -- 5.7: edge by edge, and nothing after the first pair that decides
  unfoldable pub edge_digests : List SolutionEdge → List SolutionEdge → ℕ
  edge_digests [] fs = 0
  edge_digests (e ∷ es) [] = 0
  edge_digests (e ∷ es) (f ∷ fs) =
      let rest = edge_digests es fs in
      pair_digests e f + (if compare_is_eq (compare_edges digest b e f) then rest else 0)

  -- 5.7: two solutions, each by its cost, edge count and edges: nothing where cost or edge count decides
  unfoldable pub solution_digests : ℕ → ℕ → List SolutionEdge → ℕ → ℕ → List SolutionEdge → ℕ
  solution_digests m j es n k fs = if eqb m n && eqb j k then edge_digests es fs else 0

  -- 5.7: two chains
  unfoldable pub chain_digests : List Edge → List Edge → ℕ
  chain_digests c d = solution_digests (cost c) (length c) (map solution_edge c) (cost d) (length d) (map solution_edge d)
