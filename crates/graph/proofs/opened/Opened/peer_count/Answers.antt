-- `peer_count` meets its contract.
use native.Mathlib.Omega.{arith}
use mathlib.Core.Path.{sym, ap, ◌∙◌}
use Rattle.spec.specs.Book.{peer_count}
use Rattle.graph.proofs.OpenedReads.{position-below, count_most, entry-within, peers-read}
use Rattle.graph.proofs.opened.Opened.peer_count.Goals as goal

pub offset_at-requires : goal.offset_at-requires
offset_at-requires c =
    let p = c.requires in record { k_lt_max_segments = position-below _ _ c.args.self.now.ready _ p.k_bound; i_lt_max_entries = omega (arith, count_most _ c.args.self.now.ready.ok _ p.k_bound) }

pub peers_at-requires : goal.peers_at-requires
peers_at-requires c =
    let p = c.requires in
    entry-within _ _ c.args.self.now.ready _ p.k_bound _ p.i_bound c.offset_at.ensures.0

pub returns : goal.returns
returns c =
    let p = c.requires in
    c.peers_at.ensures
    ∙ ap (peer_count c.args.self.now.book.now) c.offset_at.ensures.0
    ∙ sym (peers-read _ _ c.args.self.now.ready _ p.k_bound _ p.i_bound)
