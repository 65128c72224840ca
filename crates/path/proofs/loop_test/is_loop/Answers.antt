-- `is_loop` meets its contract. The invariant of its loop: the answer is that of the numbers that are left.
use native.Mathlib.Omega.{arith}
use mathlib.Core.Path.{refl, sym, ◌∙◌}
use Rattle.path.proofs.Thrice.{thrice-found, thrice-passed, thrice-end}
use Rattle.path.proofs.loop_test.is_loop.Goals as goal

pub loop-left-init : goal.loop-left-init
loop-left-init c = (refl, refl)

pub run_length-run-requires : goal.run_length-run-requires
run_length-run-requires c = record { count_in_bounds = omega arith; count_bound = omega arith; count_nonzero = c.loop-left-test.true; x_value = c.read64-x.ensures }

pub returns-then-is_third : goal.returns-then-is_third
returns-then-is_third c = sym (c.loop-left.invariant.0 ∙ thrice-found c.run_length-run.ensures _ c.is_third.ensures c.if-is_third.true)

pub loop-left-preserved : goal.loop-left-preserved
loop-left-preserved c = (c.loop-left.invariant.0 ∙ thrice-passed c.run_length-run.ensures _ c.is_third.ensures c.if-is_third.false, omega arith)

pub returns : goal.returns
returns c = sym (c.loop-left.invariant.0 ∙ thrice-end _ _ _ (omega arith))
