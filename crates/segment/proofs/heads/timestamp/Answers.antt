-- `timestamp` meets its contract.
use Rattle.spec.specs.Book.{timestamp_at}
use Rattle.segment.proofs.heads.timestamp.Goals as goal

pub returns : goal.returns
unfolding timestamp_at
returns c = cc
