-- `peers_at` meets its contract.
use mathlib.Core.Path.{refl}
use Rattle.spec.specs.Book.{peer_count}
use Rattle.graph.proofs.opened.peers_at.Goals as goal

pub returns : goal.returns
unfolding peer_count
returns c = refl
