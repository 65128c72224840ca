-- `stored_edge` meets its contract.
use native.Mathlib.Omega.{arith}
use Rattle.graph.specs.Lookup.{found_edges}
use Rattle.graph.proofs.IdentityLaws.{past-entries}
use Rattle.graph.proofs.edge_by_identity.stored_edge.Goals as goal

pub returns-then-n-id : goal.returns-then-n-id
unfolding found_edges
returns-then-n-id c = past-entries _ c.args.id (omega (arith, c.count_of-n.ensures.0))
