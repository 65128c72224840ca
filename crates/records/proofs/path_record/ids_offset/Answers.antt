-- `ids_offset` meets its contract.
use native.Mathlib.Omega.{arith}
use Rattle.spec.specs.Records.{path_head_in, ids_offset}
use Rattle.records.proofs.path_record.ids_offset.Goals as goal

pub returns : goal.returns
unfolding ids_offset path_head_in
returns c = (omega arith, omega arith)
