-- The chain of a record, edge by edge, as the code goes: the edges that the record names, one after the other, and how far they have come.
-- Assumes nothing.
use Rattle.std.specs.Prelude.{ℕ, ◌+◌, ◌-◌, ◌*◌, ◌^◌, ◌≤◌, ◌<◌, Bool, true, ◌&&◌, not, replicate, ltb, eqb, if◌then◌else◌}
use mathlib.Core.List.{List, [], ◌∷◌, ◌++◌, map, flat_map}
use Rattle.spec.specs.declared.IsdAsn.{IsdAsn}
use Rattle.spec.specs.declared.Vertex.TheVariants.{AS}
use Rattle.spec.specs.declared.Edge.{Edge}
use Rattle.spec.specs.declared.SolutionEdge.{SolutionEdge}
use Rattle.spec.specs.declared.Solution.{Solution}
use Rattle.spec.specs.Limits.{max_edges}
use Rattle.spec.specs.Basics.{any, range, same_list}
use Rattle.spec.specs.Edges.{same_vertex}
use Rattle.spec.specs.Records.{bit, no_edge, record_edge}
use Rattle.graph.specs.declared.chains.Reached.{Reached}
use Rattle.graph.specs.Identity.{identified_in}
use Rattle.records.specs.Octets.{record_octets}

-- an edge before each of the lists
unfoldable pub ahead : List (List Edge) → Edge → List (List Edge)
ahead cs e = map (λ es. e ∷ es) cs

-- the lists of stored edges with these identities: at most one
unfoldable pub with_identities : List ℕ → List SolutionEdge → List (List Edge)
with_identities b [] = [] ∷ []
with_identities b (id ∷ ids) = flat_map (ahead (with_identities b ids)) (identified_in b id)

-- ---- how far edges have come

unfoldable pub begun : IsdAsn → Reached
begun src = record { at = AS src; cost = 0; kinds = 0 }

-- an edge goes on from there, and there is not the goal
unfoldable pub goes_on : IsdAsn → Reached → Edge → Bool
goes_on dst w e = not (same_vertex w.at (AS dst)) && same_vertex e.src w.at

unfoldable pub one_further : Reached → Edge → Reached
one_further w e = record { at = e.dst; cost = w.cost + e.weight; kinds = w.kinds * 2 + bit e.core }

-- so far after x edges at most
pub record Bounded (x : ℕ) (w : Reached) : Type 0 where
  pub cost : w.cost ≤ 255 * x
  pub kinds : w.kinds < 2 ^ x

-- ---- at the end

-- three edges at most, by their number and their kinds, a binary digit each
unfoldable pub kinds_allowed : ℕ → ℕ → Bool
kinds_allowed n k = if eqb n 1 then true else if eqb n 2 then not (eqb k 3) else eqb k 2

-- edge k of a record that names n
unfoldable pub own_edge : List ℕ → ℕ → ℕ → SolutionEdge
own_edge r n k = if ltb k n then record_edge r k else no_edge

-- what a record says that names the same n edges and has a cost
unfoldable pub own_solution : List ℕ → ℕ → ℕ → Solution
own_solution r n cost =
    record {
      cost = cost;
      count = n;
      edges = map (record_edge r) (range 0 n) ++ replicate (max_edges - n) no_edge;
    }

-- at the goal, by allowed kinds, and the record says so
unfoldable pub has_arrived : IsdAsn → List ℕ → ℕ → Reached → Bool
has_arrived dst r n w =
    same_vertex w.at (AS dst) && (kinds_allowed n w.kinds && same_list r (record_octets (own_solution r n w.cost)))

-- ---- from there to the end

-- from there the edges go on to the end
unfoldable pub completes : IsdAsn → List ℕ → ℕ → Reached → List Edge → Bool
completes dst r n w [] = has_arrived dst r n w
completes dst r n w (e ∷ es) = goes_on dst w e && completes dst r n (one_further w e) es

-- and those that the record names do, from edge x on
unfoldable pub completed : List ℕ → IsdAsn → List ℕ → ℕ → Reached → ℕ → Bool
completed b dst r n w x = any (completes dst r n w) (with_identities b (map (record_edge r) (range x (n - x))))
