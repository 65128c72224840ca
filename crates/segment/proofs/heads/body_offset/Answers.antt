-- `body_offset` meets its contract.
use native.Mathlib.Omega.{arith}
use Rattle.spec.specs.Book.{body_offset}
use Rattle.segment.proofs.heads.body_offset.Goals as goal

pub returns : goal.returns
unfolding body_offset
returns c = (cc, omega arith)
