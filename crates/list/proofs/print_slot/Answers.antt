-- `print_slot` meets its contract.
use native.Mathlib.Omega.{arith}
use mathlib.Core.Path.{ap, ◌∙◌}
use lib.ListN.{length}
use Rattle.list.proofs.Fronts.{wrote-front}
use Rattle.list.proofs.print_slot.Goals as goal

pub write_slot-requires : goal.write_slot-requires
write_slot-requires g c = record { records_value = c.requires.records_value; k_bound = c.requires.k_bound; lines_value = wrote-front _ _ _ _ c.solution_lines-n.ensures.0 c.solution_lines-n.ensures.1 (omega (arith, c.solution_lines-n.ensures.2)) }

pub returns : goal.returns
returns g c =
    let e = c.write_slot.ensures ∙ ap length (wrote-front _ _ _ _ c.solution_lines-n.ensures.0 c.solution_lines-n.ensures.1 (omega (arith, c.solution_lines-n.ensures.2))) in
    (e, omega (arith, e, c.solution_lines-n.ensures.1, c.solution_lines-n.ensures.2))
