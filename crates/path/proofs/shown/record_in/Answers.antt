-- `record_in` meets its contract.
use native.Mathlib.Omega.{arith}
use Rattle.path.proofs.Interfaces.{record-copied}
use Rattle.path.proofs.shown.record_in.Goals as goal

pub returns : goal.returns
returns c = record-copied _ _ _ _ (omega arith) c.requires c.copy.ensures
