-- `same_peer` meets its contract.
use Rattle.graph.proofs.OpenedReads.{peer-ingress, peer-interface, peer-same}
use Rattle.graph.proofs.VertexTests.{as_eq}
use Rattle.graph.proofs.opened.same_peer.Goals as goal

pub returns-then-be16_within-link : goal.returns-then-be16_within-link
returns-then-be16_within-link c = peer-ingress _ _ _ c.be16_within.ensures c.if-be16_within-link.true

pub returns-then-be16_within-link-2 : goal.returns-then-be16_within-link-2
returns-then-be16_within-link-2 c = peer-interface _ _ _ c.be16_within-2.ensures c.if-be16_within-link-2.true

pub returns : goal.returns
returns c =
    peer-same _ _ _ c.be16_within.ensures c.if-be16_within-link.false c.be16_within-2.ensures c.if-be16_within-link-2.false c.as_within.ensures (as_eq _ _ c.eq.ensures)
