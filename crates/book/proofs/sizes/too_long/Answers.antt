-- `too_long` meets its contract.
use mathlib.Core.Path.{sym, ◌∙◌}
use native.Mathlib.Omega.{arith}
use Rattle.segment.proofs.Positions.{any_here, any_next, any-done}
use Rattle.book.proofs.Turns.{long-all, is-long, not-long}
use Rattle.book.proofs.sizes.too_long.Goals as goal

pub loop-k-init : goal.loop-k-init
loop-k-init c = long-all _ _ c.requires.segments_value

pub returns-then-entry_count-gt-ENTRIES : goal.returns-then-entry_count-gt-ENTRIES
returns-then-entry_count-gt-ENTRIES c = sym (c.loop-k.invariant ∙ any_here _ _ _ (omega arith) (is-long _ _ c.entry_count.ensures.0 c.if-entry_count-gt-ENTRIES.true))

pub loop-k-preserved : goal.loop-k-preserved
loop-k-preserved c = c.loop-k.invariant ∙ any_next _ _ _ (omega arith) (not-long _ _ c.entry_count.ensures.0 c.if-entry_count-gt-ENTRIES.false)

pub returns : goal.returns
returns c = sym (c.loop-k.invariant ∙ any-done _ _ _ (omega arith))
