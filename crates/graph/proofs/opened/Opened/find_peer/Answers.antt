-- `find_peer` meets its contract. The loop's invariant: no peer from p on has the link.
use mathlib.Core.Bool.{not}
use native.Mathlib.Omega.{arith}
use mathlib.Core.Path.{sym, ap, ◌∙◌}
use Rattle.spec.specs.Book.{segment_at, peer_count}
use Rattle.graph.specs.Leaving.{peer_linked}
use Rattle.graph.proofs.LookupScan.{sink-start, sink-stop, sink-turn, sink-end}
use Rattle.graph.proofs.OpenedReads.{position-below, count_most, entry-within, peer-within, peers-read, here-test, peer-test, link-none}
use Rattle.graph.proofs.VertexTests.{as_ne}
use Rattle.graph.proofs.opened.Opened.find_peer.Goals as goal

pub offset_at-at-requires : goal.offset_at-at-requires
offset_at-at-requires c =
    let p = c.requires in record { k_lt_max_segments = position-below _ _ c.args.self.now.ready _ p.k_bound; i_lt_max_entries = omega (arith, count_most _ c.args.self.now.ready.ok _ p.k_bound) }

pub as_within-requires : goal.as_within-requires
as_within-requires c =
    let p = c.requires in
    omega (arith, entry-within _ _ c.args.self.now.ready _ p.k_bound _ p.i_bound c.offset_at-at.ensures.0)

pub returns-then-ne : goal.returns-then-ne
returns-then-ne c =
    let p = c.requires in
    link-none (segment_at c.args.self.now.book.now c.args.k) c.args.link _
    (here-test _ _ c.args.self.now.ready _ p.k_bound _ p.i_bound _ c.offset_at-at.ensures.0 c.as_within.ensures (as_ne _ _ c.ne.ensures) (ap not c.if-ne.true))

pub peers_at-p-requires : goal.peers_at-p-requires
peers_at-p-requires c =
    let p = c.requires in
    entry-within _ _ c.args.self.now.ready _ p.k_bound _ p.i_bound c.offset_at-at.ensures.0

pub loop-p-init : goal.loop-p-init
loop-p-init c =
    let p = c.requires in
    sink-start _ _ _
    (c.peers_at-p.ensures
    ∙ ap (peer_count c.args.self.now.book.now) c.offset_at-at.ensures.0
    ∙ sym (peers-read _ _ c.args.self.now.ready _ p.k_bound _ p.i_bound))

pub same_peer-requires : goal.same_peer-requires
same_peer-requires c =
    let p = c.requires in
    peer-within _ _ c.args.self.now.ready _ p.k_bound _ p.i_bound _ (omega arith) c.offset_at-at.ensures.0 c.peer_offset.ensures

pub returns-then-same_peer : goal.returns-then-same_peer
unfolding peer_linked
returns-then-same_peer c =
    let p = c.requires in
    sink-stop _ _ _ c.loop-p.invariant (omega arith)
    (peer-test _ _ c.args.self.now.ready _ p.k_bound _ p.i_bound c.args.link
    (here-test _ _ c.args.self.now.ready _ p.k_bound _ p.i_bound _ c.offset_at-at.ensures.0 c.as_within.ensures (as_ne _ _ c.ne.ensures) (ap not c.if-ne.false))
    _ (omega arith) c.offset_at-at.ensures.0 c.peer_offset.ensures c.same_peer.ensures c.if-same_peer.true)

pub loop-p-preserved : goal.loop-p-preserved
loop-p-preserved c =
    let p = c.requires in
    sink-turn _ _ _ c.loop-p.invariant (omega arith)
    (peer-test _ _ c.args.self.now.ready _ p.k_bound _ p.i_bound c.args.link
    (here-test _ _ c.args.self.now.ready _ p.k_bound _ p.i_bound _ c.offset_at-at.ensures.0 c.as_within.ensures (as_ne _ _ c.ne.ensures) (ap not c.if-ne.false))
    _ (omega arith) c.offset_at-at.ensures.0 c.peer_offset.ensures c.same_peer.ensures c.if-same_peer.false)

pub returns : goal.returns
unfolding peer_linked
returns c = sink-end _ _ _ c.loop-p.invariant (omega arith)
