-- `cases` is safe and ends.
use Rattle.std.proofs.Common.{length, ◌-◌, ◌≡◌, ◌≤◌}
use Rattle.replay.proofs.cases.Given as goal

abbrev pub invariant-loop-done : goal.invariant-loop-done
invariant-loop-done g l = (l.done ≤ 1000000) × (l.differ ≤ l.done) × (length l.input ≡ length l.initial.input) × (length l.out ≡ length l.initial.out) × (length l.slots ≡ length l.initial.slots)

abbrev pub decreases-loop-done : goal.decreases-loop-done
decreases-loop-done g l = 1000000 - l.done
