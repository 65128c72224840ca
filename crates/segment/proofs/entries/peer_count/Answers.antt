-- `peer_count` meets its contract.
use Rattle.spec.specs.Book.{peer_count}
use Rattle.segment.proofs.entries.peer_count.Goals as goal

pub returns : goal.returns
unfolding peer_count
returns c = cc
