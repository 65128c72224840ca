-- An unused edge is all zero.
use mathlib.Core.Path.{refl}
use Rattle.spec.specs.Records.{no_edge, edge_at}
use Rattle.graph.proofs.slots.no_edge.Goals as goal

pub returns : goal.returns
unfolding no_edge edge_at
returns c = refl
