-- `mark_of` meets its contract. The invariant of its loop: the mark is that of the first k interfaces.
use native.Mathlib.Omega.{arith}
use Rattle.path.proofs.Weighing.{mark-none, mark-more, mark-all}
use Rattle.path.proofs.mark.mark_of.Goals as goal

pub loop-k-init : goal.loop-k-init
loop-k-init c = (mark-none _ _ _, omega arith)

pub loop-k-preserved : goal.loop-k-preserved
loop-k-preserved c = (mark-more _ _ _ _ c.loop-k.invariant.0 c.turn-mark.ensures.0, c.turn-mark.ensures.1)

pub returns : goal.returns
returns c = (mark-all _ _ _ _ _ (omega arith) c.loop-k-test.false c.loop-k.invariant.0, c.loop-k.invariant.1)
