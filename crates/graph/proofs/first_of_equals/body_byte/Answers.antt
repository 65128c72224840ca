-- No entries, no bytes; or the byte read past the start of the first entry.
use native.Mathlib.Omega.{arith}
use Rattle.graph.proofs.OpenedReads.{position-below, entry-within}
use Rattle.graph.proofs.FirstOfEqualsLaws.{byte-none, byte-read, some-entry}
use Rattle.graph.proofs.first_of_equals.body_byte.Goals as goal

pub returns-then-count_of-eq0 : goal.returns-then-count_of-eq0
returns-then-count_of-eq0 c = let p = c.requires in byte-none _ _ c.args.opened.now.ready _ p.k_bound c.count_of.ensures.0 _ c.if-count_of-eq0.true

pub offset_at-requires : goal.offset_at-requires
offset_at-requires c = let p = c.requires in record { k_lt_max_segments = position-below _ _ c.args.opened.now.ready _ p.k_bound; i_lt_max_entries = omega arith }

pub bounds-opened-offset_at : goal.bounds-opened-offset_at
bounds-opened-offset_at c = let p = c.requires in omega (arith, entry-within _ _ c.args.opened.now.ready _ p.k_bound 0 (some-entry _ _ c.args.opened.now.ready _ p.k_bound c.count_of.ensures.0 c.if-count_of-eq0.false) c.offset_at.ensures.0)

pub returns : goal.returns
returns c = let p = c.requires in byte-read _ _ c.args.opened.now.ready _ p.k_bound c.count_of.ensures.0 c.if-count_of-eq0.false _ p.i_lt_entry_size c.offset_at.ensures.0
