-- `stands_earlier` meets its contract.
use mathlib.Core.Path.{sym, ◌∙◌}
use native.Mathlib.Omega.{arith}
use Rattle.segment.proofs.Positions.{any_here, any_next, any-done}
use Rattle.book.proofs.Repeating.{earlier-first, same-there}
use Rattle.book.proofs.twice.Row.stands_earlier.Goals as goal

pub loop-j-init : goal.loop-j-init
loop-j-init c = earlier-first _ _

pub returns-then-eq : goal.returns-then-eq
returns-then-eq c = sym (c.loop-j.invariant ∙ any_here _ _ _ (omega arith) (same-there _ _ _ c.isd_asn.ensures c.isd_asn-a.ensures ∙ sym c.eq.ensures ∙ c.if-eq.true))

pub loop-j-preserved : goal.loop-j-preserved
loop-j-preserved c = c.loop-j.invariant ∙ any_next _ _ _ (omega arith) (same-there _ _ _ c.isd_asn.ensures c.isd_asn-a.ensures ∙ sym c.eq.ensures ∙ c.if-eq.false)

pub returns : goal.returns
returns c = sym (c.loop-j.invariant ∙ any-done _ _ _ (omega arith))
