-- What is said of two solution records, where no chain is at hand.
-- Assumes nothing.
use Prim.Native.Nat.{ℕ, zero, suc, compare, Ordering}
use Rattle.std.specs.Prelude.{Bool, ◌&&◌, not, List, map, eqb}
use Rattle.std.proofs.Math.Dec.{compare_is_eq}
use Rattle.spec.specs.declared.SolutionEdge.{SolutionEdge}
use Rattle.spec.specs.Basics.{range}
use Rattle.spec.specs.Order.{◌then_by◌, compare_by, compare_edges, compare_positions}
use Rattle.spec.specs.Digests.{solution_digests}
use Rattle.spec.specs.Records.{record_edge, solution_in}

-- 8.5: the edges that a record's count says
unfoldable pub edges_in : List ℕ → List SolutionEdge
edges_in r = map (record_edge r) (range 0 (solution_in r).count)

module _ (digest : List ℕ → List ℕ) (b : List ℕ) where
  -- 5.6: the order of two records: cost, edge count, then edge by edge; then positions edge by edge. All three edges of both, whatever the count
  unfoldable pub compare_records : List ℕ → List ℕ → Ordering
  compare_records r s =
      compare (solution_in r).cost (solution_in s).cost
      then_by compare (solution_in r).count (solution_in s).count
      then_by compare_by (compare_edges digest b) (solution_in r).edges (solution_in s).edges
      then_by compare_by (compare_positions digest b) (solution_in r).edges (solution_in s).edges

  -- 5.7: of two records
  unfoldable pub record_digests : List ℕ → List ℕ → ℕ
  record_digests r s =
      solution_digests digest b (solution_in r).cost (solution_in r).count (solution_in r).edges (solution_in s).cost (solution_in s).count (solution_in s).edges

  -- 5.7: cost, edge count and the pairs of edges before the pair k leave two records equal
  unfoldable pub equal_before : List ℕ → List ℕ → ℕ → Bool
  equal_before r s zero = eqb (solution_in r).cost (solution_in s).cost && eqb (solution_in r).count (solution_in s).count
  equal_before r s (suc k) = equal_before r s k && compare_is_eq (compare_edges digest b (record_edge r k) (record_edge s k))

  -- 5.7: so do peer and shortcut of the pair k, and it is at two positions
  unfoldable pub needs_digests : List ℕ → List ℕ → ℕ → Bool
  needs_digests r s k =
      equal_before r s k
      && (eqb (record_edge r k).peer (record_edge s k).peer
      && eqb (record_edge r k).shortcut (record_edge s k).shortcut
      && not (eqb (record_edge r k).position (record_edge s k).position))
