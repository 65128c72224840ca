-- `same` meets its contract. The invariant of its loop: what is left decides.
use Rattle.std.proofs.Common.{ap, not}
use mathlib.Core.Path.{sym, ◌∙◌}
use Rattle.path.proofs.Interfaces.{same_start, same_more, same-less, same_end}
use Rattle.path.proofs.shown.Interfaces.same.Goals as goal

pub loop-k-init : goal.loop-k-init
loop-k-init c = same_start _ _ _ _ _

pub returns-then-not-same_at : goal.returns-then-not-same_at
returns-then-not-same_at c = same-less _ _ _ _ _ _ c.loop-k-test.true c.same_at.ensures (ap not c.if-not-same_at.true) ∙ sym c.loop-k.invariant

pub loop-k-preserved : goal.loop-k-preserved
loop-k-preserved c = c.loop-k.invariant ∙ same_more _ _ _ _ _ _ c.loop-k-test.true c.same_at.ensures (ap not c.if-not-same_at.false)

pub returns : goal.returns
returns c = same_end _ _ _ _ _ _ c.loop-k-test.false ∙ sym c.loop-k.invariant
