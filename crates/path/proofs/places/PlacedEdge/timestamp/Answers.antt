-- `timestamp` meets its contract.
use Rattle.path.proofs.Standing.{time-within, time-read}
use Rattle.path.proofs.places.PlacedEdge.timestamp.Goals as goal

pub read32-requires : goal.read32-requires
read32-requires c = rw c.from.ensures (time-within _ c.args.self.now.opened.ready.ok _ c.args.self.now.in_book)

pub returns : goal.returns
returns c = rw (c.read32.ensures, c.from.ensures) (time-read _ _)
