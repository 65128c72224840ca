-- `edge_of_core` meets its contract.
use mathlib.Core.Path.{refl}
use Rattle.graph.proofs.edges.edge_of_core.Goals as goal

pub returns : goal.returns
returns c = refl
