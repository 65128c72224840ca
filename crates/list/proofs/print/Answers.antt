-- `print` meets its contract.
use native.Mathlib.Omega.{arith}
use Rattle.list.proofs.Fronts.{whole_long}
use Rattle.list.proofs.print.Goals as goal

pub print_slots-requires : goal.print_slots-requires
print_slots-requires g c = record { records_value = c.print_first-first.ensures.solutions_value.1; count_value = c.print_first-first.ensures.solutions_value.0 }

pub overflow_add-result : goal.overflow_add-result
overflow_add-result g c = omega (arith, c.print_slots.ensures.1, c.print_first-first.ensures.length_value.1)

pub returns : goal.returns
returns g c =
    omega (arith, c.print_first-first.ensures.length_value.0, c.print_slots.ensures.0, whole_long c.args.input.now c.print_first-first.new.records c.print_first-first.ensures.solutions_value.1 c.print_first-first.result.solutions c.print_first-first.ensures.solutions_value.0)
