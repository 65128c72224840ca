-- `entry_count` meets its contract.
use Rattle.spec.specs.Book.{entry_count_at}
use Rattle.segment.proofs.heads.entry_count.Goals as goal

pub returns : goal.returns
unfolding entry_count_at
returns c = cc
