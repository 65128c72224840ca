-- `turn` meets its contract.
use native.Mathlib.Omega.{arith}
use Rattle.path.proofs.Weighing.{turned-is}
use Rattle.path.proofs.mark.turn.Goals as goal

pub returns : goal.returns
returns c = (turned-is _ _ _ _ _ c.read64-local.ensures c.read16-id.ensures c.times.ensures.0 c.weigh.ensures, omega arith)
