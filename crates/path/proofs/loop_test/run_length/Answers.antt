-- `run_length` meets its contract.
use mathlib.Core.Path.{refl}
use Rattle.path.proofs.Thrice.{run-one, run-two}
use Rattle.path.proofs.loop_test.run_length.Goals as goal

pub returns-then-count-lt2 : goal.returns-then-count-lt2
returns-then-count-lt2 c = run-one _ _ _ _ c.requires.x_value c.requires.count_nonzero _ refl

pub returns-then-read64-x : goal.returns-then-read64-x
returns-then-read64-x c = run-two _ _ _ _ _ c.requires.x_value c.if-count-lt2.false c.read64.ensures c.if-read64-x.true

pub returns : goal.returns
returns c = run-one _ _ _ _ c.requires.x_value c.requires.count_nonzero _ refl
