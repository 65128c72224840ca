-- `first_line` meets its contract.
use native.Mathlib.Omega.{arith}
use Rattle.printed.proofs.Inputs.{count_room, opened-counts, opened-refused, opened-fields}
use Rattle.printed.proofs.first_line.Goals as goal

pub count_paths-paths-requires : goal.count_paths-paths-requires
count_paths-paths-requires c =
    let w = count_room _ _ _ _ c.list.ensures _ c.in-Ok.is in record { ends_size_in_bounds = w.0; n_in_bounds = omega (arith, w.1, c.list.auto.records) }

pub returns-in-Ok : goal.returns-in-Ok
returns-in-Ok c = opened-fields (opened-counts _ _ _ _ c.list.ensures _ c.in-Ok.is _ c.count_paths-paths.ensures c.counts_line.ensures)

pub returns-in-Err : goal.returns-in-Err
returns-in-Err c = opened-fields (opened-refused _ _ _ _ c.list.ensures _ c.in-Err.is c.refused_line.ensures)
