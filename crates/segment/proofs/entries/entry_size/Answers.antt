-- `entry_size` meets its contract.
use native.Mathlib.Omega.{arith}
use Rattle.segment.proofs.entries.entry_size.Goals as goal

pub returns : goal.returns
returns c = (omega arith, omega arith)
