-- `peer_edge` meets its contract.
use borrow.Author.Tests.{not-true, not-false}
use native.Mathlib.Omega.{arith}
use mathlib.Core.Path.{◌∙◌}
use Rattle.graph.specs.Lookup.{found_edges}
use Rattle.graph.proofs.OpenedReads.{leaf-read, ready-apart}
use Rattle.graph.proofs.IdentityLaws.{past-peers}
use Rattle.graph.proofs.IdentityReads.{peer-back, peer-other, peer-there}
use Rattle.graph.proofs.edge_by_identity.peer_edge.Goals as goal

pub returns-then-peer_count-q : goal.returns-then-peer_count-q
unfolding found_edges
returns-then-peer_count-q c = past-peers _ c.args.id (omega (arith, c.peer_count.ensures))

pub overflow_sub-q : goal.overflow_sub-q
overflow_sub-q c = omega (arith, c.requires.peer_nonzero)

pub returns-then-not-id : goal.returns-then-not-id
returns-then-not-id c =
    let p = c.requires in
    c.peer_up.ensures
    ∙ peer-back c.args.opened.now.book.now c.args.id p.position_value (ready-apart _ _ c.args.opened.now.ready _ p.filled.below) p.filled.count p.shortcut_lt_n p.peer_nonzero (not-true _ c.if-not-id.true)

pub overflow_sub-q-2 : goal.overflow_sub-q-2
overflow_sub-q-2 c = omega (arith, c.requires.peer_nonzero)

pub returns-then-find_peer-q : goal.returns-then-find_peer-q
unfolding found_edges
returns-then-find_peer-q c =
    let p = c.requires in
    peer-other c.args.opened.now.book.now c.args.id p.position_value (ready-apart _ _ c.args.opened.now.ready _ p.filled.below) p.filled.count p.shortcut_lt_n p.peer_nonzero (not-false _ c.if-not-id.false)
    c.link_at-link.result c.link_at-link.ensures c.find_peer.ensures c.if-find_peer-q.true

pub overflow_sub-n : goal.overflow_sub-n
overflow_sub-n c = omega (arith, c.requires.filled.some)

pub overflow_sub-result : goal.overflow_sub-result
overflow_sub-result c = omega (arith, c.requires.filled.some)

pub overflow_sub-result-2 : goal.overflow_sub-result-2
overflow_sub-result-2 c = omega (arith, c.requires.shortcut_lt_n)

pub returns : goal.returns
unfolding found_edges
returns c =
    let p = c.requires in
    peer-there c.args.opened.now.book.now c.args.id p.position_value (ready-apart _ _ c.args.opened.now.ready _ p.filled.below) p.filled.count p.shortcut_lt_n p.peer_nonzero (not-false _ c.if-not-id.false)
    c.link_at-link.result c.link_at-link.ensures c.find_peer.ensures c.if-find_peer-q.false (leaf-read _ p.filled.count c.as_at-leaf.ensures)
