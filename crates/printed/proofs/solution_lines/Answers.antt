-- `solution_lines` meets its contract.
use native.Mathlib.Omega.{arith}
use Rattle.printed.proofs.Inputs.{wrote-cut, wrote-past, wrote-fields}
use Rattle.printed.proofs.solution_lines.Goals as goal

pub returns-then-input-lt-ENDS : goal.returns-then-input-lt-ENDS
returns-then-input-lt-ENDS c = wrote-fields (wrote-cut _ _ _ _ c.if-input-lt-ENDS.true) (omega arith)

pub returns-then-records-k : goal.returns-then-records-k
returns-then-records-k c = wrote-fields (wrote-past _ _ _ _ c.if-records-k.true) (omega arith)

pub put_slot-requires : goal.put_slot-requires
put_slot-requires c = record { ends_size_in_bounds = omega arith; k_in_bounds = omega arith }

pub returns : goal.returns
returns c = wrote-fields c.put_slot.ensures.0 c.put_slot.ensures.1
