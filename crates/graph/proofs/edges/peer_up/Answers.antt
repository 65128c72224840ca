-- `peer_up` meets its contract.
use Rattle.graph.specs.Lookup.{found_edges}
use Rattle.graph.proofs.OpenedReads.{leaf-read}
use Rattle.graph.proofs.EdgeReads.{link-some, up-later, peer-up-made}
use Rattle.graph.proofs.edges.peer_up.Goals as goal

pub overflow_sub-q : goal.overflow_sub-q
overflow_sub-q c = link-some _ _ _ c.requires.p_bound c.link_at-link.ensures c.find_peer-q.ensures

pub returns-then-q-p : goal.returns-then-q-p
unfolding found_edges
returns-then-q-p c = up-later _ _ _ c.requires.p_bound c.link_at-link.ensures c.find_peer-q.ensures c.if-q-p.true

pub returns : goal.returns
unfolding found_edges
returns c =
    peer-up-made c.args.opened.now.book.now c.args.k c.args.i c.args.p c.count_of-n.ensures.0
    (leaf-read _ c.count_of-n.ensures.0 c.as_at-leaf.ensures) c.link_at-link.result c.link_at-link.ensures c.find_peer-q.ensures
    (link-some _ _ _ c.requires.p_bound c.link_at-link.ensures c.find_peer-q.ensures) c.if-q-p.false c.is_core.ensures
