-- `segment_count` meets its contract.
use Rattle.spec.specs.Book.{cores, non_cores, segment_count}
use native.Mathlib.Omega.{arith}
use Rattle.segment.proofs.heads.segment_count.Goals as goal

pub returns : goal.returns
unfolding segment_count cores non_cores
returns c = (omega arith, omega arith)
