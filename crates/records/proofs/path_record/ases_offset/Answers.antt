-- `ases_offset` meets its contract.
use native.Mathlib.Omega.{arith}
use Rattle.spec.specs.Records.{path_head_in, ases_offset}
use Rattle.records.proofs.path_record.ases_offset.Goals as goal

pub returns : goal.returns
unfolding ases_offset path_head_in
returns c = (omega arith, omega arith)
