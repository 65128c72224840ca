-- The edge is put together.
use mathlib.Core.Path.{refl}
use Rattle.graph.specs.EdgeFound.{whole_edge}
use Rattle.graph.proofs.edges.whole_edge.Goals as goal

pub returns : goal.returns
unfolding whole_edge
returns c = refl
