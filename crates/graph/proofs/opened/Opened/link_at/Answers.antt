-- `link_at` meets its contract.
use native.Mathlib.Omega.{arith}
use Rattle.graph.proofs.OpenedReads.{position-below, count_most, entry-within, peer-within, link-read}
use Rattle.graph.proofs.opened.Opened.link_at.Goals as goal

pub offset_at-start-requires : goal.offset_at-start-requires
offset_at-start-requires c =
    let p = c.requires in
    let r = c.args.self.now.ready in record { k_lt_max_segments = position-below _ _ r _ p.k_bound; i_lt_max_entries = omega (arith, count_most _ r.ok _ p.k_bound) }

pub as_within-requires : goal.as_within-requires
as_within-requires c =
    let p = c.requires in
    omega (arith, entry-within _ _ c.args.self.now.ready _ p.k_bound _ p.i_bound c.offset_at-start.ensures.0)

pub overflow_add-at : goal.overflow_add-at
overflow_add-at c =
    let p = c.requires in
    omega (arith, peer-within _ _ c.args.self.now.ready _ p.k_bound _ p.i_bound _ p.p_bound c.offset_at-start.ensures.0 c.peer_offset-at.ensures)

pub be16_within-requires : goal.be16_within-requires
be16_within-requires c =
    let p = c.requires in
    omega (arith, peer-within _ _ c.args.self.now.ready _ p.k_bound _ p.i_bound _ p.p_bound c.offset_at-start.ensures.0 c.peer_offset-at.ensures)

pub as_within-requires-2 : goal.as_within-requires-2
as_within-requires-2 c =
    let p = c.requires in
    omega (arith, peer-within _ _ c.args.self.now.ready _ p.k_bound _ p.i_bound _ p.p_bound c.offset_at-start.ensures.0 c.peer_offset-at.ensures)

pub overflow_add-at-2 : goal.overflow_add-at-2
overflow_add-at-2 c =
    let p = c.requires in
    omega (arith, peer-within _ _ c.args.self.now.ready _ p.k_bound _ p.i_bound _ p.p_bound c.offset_at-start.ensures.0 c.peer_offset-at.ensures)

pub be16_within-requires-2 : goal.be16_within-requires-2
be16_within-requires-2 c =
    let p = c.requires in
    omega (arith, peer-within _ _ c.args.self.now.ready _ p.k_bound _ p.i_bound _ p.p_bound c.offset_at-start.ensures.0 c.peer_offset-at.ensures)

pub returns : goal.returns
returns c =
    let p = c.requires in
    link-read _ _ _ c.args.self.now.ready p.k_bound _ p.i_bound _ p.p_bound
    c.offset_at-start.ensures.0 c.peer_offset-at.ensures
    c.as_within.ensures c.be16_within.ensures c.as_within-2.ensures c.be16_within-2.ensures
