-- `is_repeated` meets its contract. The invariant of its loop: x is as often among the numbers from index k on as among all.
use mathlib.Core.Path.{◌∙◌}
use Rattle.path.proofs.Thrice.{times-start, times-here, times-on, times-over, more-after, more-false}
use Rattle.path.proofs.loop_test.is_repeated.Goals as goal

pub loop-k-init : goal.loop-k-init
loop-k-init c = times-start _ _ _ _

pub returns-then-read64-x : goal.returns-then-read64-x
returns-then-read64-x c = more-after _ _ _ _ c.loop-k.invariant (times-here _ _ _ _ _ _ c.read64.ensures c.loop-k-test.true c.if-read64-x.true) c.is_among.ensures

pub loop-k-preserved : goal.loop-k-preserved
loop-k-preserved c = c.loop-k.invariant ∙ times-on _ _ _ _ _ _ c.read64.ensures c.loop-k-test.true c.if-read64-x.false

pub returns : goal.returns
returns c = more-false 1 _ _ c.loop-k.invariant (times-over _ _ _ _ _ c.loop-k-test.false)
