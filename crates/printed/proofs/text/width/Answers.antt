-- `width` meets its contract. The invariant of its loop: the digits counted, and those left, are all.
use native.Mathlib.Omega.{arith}
use Rattle.spec.proofs.PrintedLaws.{decimal-length}
use Rattle.printed.proofs.Numbers.{width-more, width_one}
use Rattle.printed.proofs.text.width.Goals as goal

pub loop-rest-init : goal.loop-rest-init
loop-rest-init c = (omega arith, omega arith, omega arith)

pub overflow_add-k : goal.overflow_add-k
overflow_add-k c = omega (arith, decimal-length 19 c.args.n (omega arith))

pub loop-rest-preserved : goal.loop-rest-preserved
loop-rest-preserved c = (omega (arith, width-more c.loop-rest.rest (omega arith) c.loop-rest-test.true), omega arith, omega arith)

pub returns : goal.returns
returns c = (omega (arith, width_one c.loop-rest.rest c.loop-rest-test.false), omega (arith, width_one c.loop-rest.rest c.loop-rest-test.false, decimal-length 19 c.args.n (omega arith)))
