-- `info_count` meets its contract.
use native.Mathlib.Omega.{arith}
use Rattle.wire.proofs.Testing.{three-lengths, count_none, count-one, count-two, count-three}
use Rattle.wire.proofs.accept.info_count.Goals as goal

pub returns-then-first-eq0 : goal.returns-then-first-eq0
returns-then-first-eq0 c = (count_none _ _ _ _ (three-lengths _ _ c.lengths_in.ensures) c.if-first-eq0.true, omega arith)

pub returns-then-second-eq0 : goal.returns-then-second-eq0
returns-then-second-eq0 c = (count-one _ _ _ _ (three-lengths _ _ c.lengths_in.ensures) c.if-first-eq0.false c.if-second-eq0.true, omega arith)

pub returns-then-third-eq0 : goal.returns-then-third-eq0
returns-then-third-eq0 c = (count-two _ _ _ _ (three-lengths _ _ c.lengths_in.ensures) c.if-first-eq0.false c.if-second-eq0.false c.if-third-eq0.true, omega arith)

pub returns : goal.returns
returns c = (count-three _ _ _ _ (three-lengths _ _ c.lengths_in.ensures) c.if-first-eq0.false c.if-second-eq0.false c.if-third-eq0.false, omega arith)
