-- `as_at` meets its contract.
use native.Mathlib.Omega.{arith}
use mathlib.Core.Path.{sym, ap, ◌∙◌}
use Rattle.spec.specs.Book.{isd_asn_at}
use Rattle.graph.proofs.OpenedReads.{position-below, count_most, entry-within, as_read}
use Rattle.graph.proofs.opened.Opened.as_at.Goals as goal

pub offset_at-requires : goal.offset_at-requires
offset_at-requires c =
    let p = c.requires in record { k_lt_max_segments = position-below _ _ c.args.self.now.ready _ p.k_bound; i_lt_max_entries = omega (arith, count_most _ c.args.self.now.ready.ok _ p.k_bound) }

pub as_within-requires : goal.as_within-requires
as_within-requires c =
    let p = c.requires in
    omega (arith, entry-within _ _ c.args.self.now.ready _ p.k_bound _ p.i_bound c.offset_at.ensures.0)

pub returns : goal.returns
returns c =
    let p = c.requires in
    c.as_within.ensures
    ∙ ap (isd_asn_at c.args.self.now.book.now) c.offset_at.ensures.0
    ∙ sym (as_read _ _ c.args.self.now.ready _ p.k_bound _ p.i_bound)
