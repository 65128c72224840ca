-- What a record holds of an edge.
use mathlib.Core.Path.{refl}
use Rattle.spec.specs.Order.{solution_edge}
use Rattle.graph.proofs.slots.edge.Goals as goal

pub returns : goal.returns
unfolding solution_edge
returns c = refl
