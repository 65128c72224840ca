-- `peer_offset` meets its contract.
use Rattle.spec.specs.Book.{peer_offset}
use Rattle.graph.proofs.opened.peer_offset.Goals as goal

pub returns : goal.returns
unfolding peer_offset
returns c = rw c.from.ensures
