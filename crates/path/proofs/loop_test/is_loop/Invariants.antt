-- `is_loop` meets its contract. The invariant of its loop: the answer is that of the numbers that are left.
use Prim.Native.Nat.{◌+◌, ◌*◌}
use mathlib.Core.Path.{◌≡◌}
use Rattle.path.specs.Thrice.{numbers_in, some_thrice}
use Rattle.path.proofs.loop_test.is_loop.Given as goal

abbrev pub invariant-loop-left : goal.invariant-loop-left
invariant-loop-left l = (some_thrice (numbers_in l.out l.at l.count) ≡ some_thrice (numbers_in l.out l.next l.left)) × (l.next + 8 * l.left ≡ l.at + 8 * l.count)

abbrev pub decreases-loop-left : goal.decreases-loop-left
decreases-loop-left l = l.left
