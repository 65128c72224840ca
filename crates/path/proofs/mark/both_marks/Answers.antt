-- `both_marks` meets its contract.
use Prim.Native.Nat.{◌*◌, ◌%◌}
use mathlib.Core.Path.{ap₂}
use Rattle.path.specs.Marking.{prime, both_marks}
use Rattle.path.proofs.Weighing.{marks-fit}
use Rattle.path.proofs.mark.both_marks.Goals as goal

pub overflow_mul-result : goal.overflow_mul-result
overflow_mul-result c = record { fits = marks-fit _ _ c.mark_of-first.ensures.1 c.mark_of-second.ensures.1 }

pub returns : goal.returns
unfolding both_marks
returns c = ap₂ (λ x y. x * y % prime % 65536) c.mark_of-first.ensures.0 c.mark_of-second.ensures.0
