-- `is_third` meets its contract.
use Rattle.path.proofs.Thrice.{third-one, third-two}
use Rattle.path.proofs.loop_test.is_third.Goals as goal

pub returns-then-run-lt2 : goal.returns-then-run-lt2
returns-then-run-lt2 c = third-one _ _ _ c.requires.run_nonzero.0 c.if-run-lt2.true c.is_repeated.ensures

pub returns : goal.returns
returns c = third-two _ _ _ c.if-run-lt2.false c.is_among.ensures
