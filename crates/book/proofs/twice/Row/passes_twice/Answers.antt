-- `passes_twice` meets its contract.
use mathlib.Core.Path.{sym, ◌∙◌}
use native.Mathlib.Omega.{arith}
use Rattle.segment.proofs.Positions.{any_here, any_next, any-done}
use Rattle.book.proofs.Marking.{none-marked, one-marked}
use Rattle.book.proofs.Repeating.{twice-first}
use Rattle.book.proofs.twice.Row.passes_twice.Goals as goal

pub loop-i-init : goal.loop-i-init
loop-i-init c = (none-marked _ _, twice-first _ _)

pub returns-then-stands_marked : goal.returns-then-stands_marked
returns-then-stands_marked c = sym (c.loop-i.invariant.1 ∙ any_here _ _ _ (omega arith) (sym c.stands_marked.ensures ∙ c.if-stands_marked.true))

pub loop-i-preserved : goal.loop-i-preserved
loop-i-preserved c = (
  one-marked _ _ c.loop-i.invariant.0 (rw c.isd_asn.ensures at c.with-seen.ensures),
  c.loop-i.invariant.1 ∙ any_next _ _ _ (omega arith) (sym c.stands_marked.ensures ∙ c.if-stands_marked.false),
)

pub returns : goal.returns
returns c = sym (c.loop-i.invariant.1 ∙ any-done _ _ _ (omega arith))
