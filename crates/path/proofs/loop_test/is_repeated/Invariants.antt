-- `is_repeated` meets its contract. The invariant of its loop: x is as often among the numbers from index k on as among all.
use mathlib.Core.Path.{◌≡◌}
use Rattle.path.specs.Thrice.{numbers_in, times_in}
use Rattle.path.proofs.Thrice.{times_from}
use Rattle.path.proofs.loop_test.is_repeated.Given as goal

abbrev pub invariant-loop-k : goal.invariant-loop-k
invariant-loop-k l = times_in l.x (numbers_in l.out l.at l.count) ≡ times_from l.out l.at l.count l.x l.k
