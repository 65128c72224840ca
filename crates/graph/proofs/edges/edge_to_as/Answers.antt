-- No entries, or by the leaf.
use mathlib.Core.Path.{refl}
use native.Mathlib.Omega.{arith}
use Rattle.graph.proofs.OpenedReads.{leaf-read}
use Rattle.graph.proofs.EdgeReads.{empty-between}
use Rattle.graph.proofs.EdgeFoundLaws.{whole-none}
use Rattle.graph.proofs.edges.edge_to_as.Goals as goal

pub returns-then-n-eq0 : goal.returns-then-n-eq0
returns-then-n-eq0 c = whole-none _ _ _ _ refl (empty-between _ c.count_of-n.ensures.0 c.if-n-eq0.true _ _)

pub edge_at_leaf-requires : goal.edge_at_leaf-requires
edge_at_leaf-requires c =
    let n = c.count_of-n.ensures.0 in
    let p = c.requires in record { filled = record { below = p.k_bound; count = n; some = omega arith }; k_value = p.k_value; leaf_value = leaf-read _ n c.as_at.ensures }
