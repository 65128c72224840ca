-- `link_offset` meets its contract.
use native.Mathlib.Omega.{arith}
use mathlib.Core.Path.{refl}
use Rattle.spec.specs.Book.{peer_offset}
use Rattle.path.specs.Places.{link_offset}
use Rattle.path.proofs.places.link_offset.Goals as goal

pub returns : goal.returns
unfolding link_offset peer_offset
returns c = rw c.from.ensures (refl, omega (arith, c.from.ensures))
