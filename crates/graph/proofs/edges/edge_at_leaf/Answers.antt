-- To the leaf from an AS or from the other side of a link, or from the leaf to an AS.
use mathlib.Core.Path.{refl, ap}
use mathlib.Core.Bool.{not}
use Rattle.graph.proofs.OpenedReads.{ready-apart}
use Rattle.graph.proofs.EdgeFoundLaws.{join-other, join-link, whole-at}
use Rattle.graph.proofs.VertexTests.{as_ne}
use Rattle.graph.proofs.edges.edge_at_leaf.Goals as goal

pub returns-then-ne : goal.returns-then-ne
returns-then-ne c = let p = c.requires in
    join-other _ p.k_value p.filled.count _ _ _ p.leaf_value _ (as_ne _ _ c.ne.ensures) c.in-Peering.is (ap not c.if-ne.true) refl

pub returns-in-AS : goal.returns-in-AS
returns-in-AS c = whole-at _ _ _ _ c.in-AS.is c.edge_between_ases.ensures

pub returns-else-ne : goal.returns-else-ne
returns-else-ne c = let p = c.requires in
    join-link _ p.k_value p.filled.count _ _ _ p.leaf_value _ (as_ne _ _ c.ne.ensures) c.in-Peering.is (ready-apart _ _ c.args.opened.now.ready _ p.filled.below) (ap not c.if-ne.false) c.link_edge_found.ensures
