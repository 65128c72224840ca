-- `put16` meets its contract.
use native.Mathlib.Omega.{arith}
use Rattle.output.proofs.Copied.{copied_in, put2}
use Rattle.path.proofs.within.put16.Goals as goal

pub returns : goal.returns
returns c = put2 _ _ _ _ _ (copied_in _ _ _ _ _ c.copy_from_slice.ensures.after (omega arith) (omega arith)) c.to_be_bytes.ensures
