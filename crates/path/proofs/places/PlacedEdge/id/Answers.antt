-- `id` meets its contract.
use Rattle.path.proofs.Standing.{id-within, id-read}
use Rattle.path.proofs.places.PlacedEdge.id.Goals as goal

pub read16-requires : goal.read16-requires
read16-requires c = rw c.from.ensures (id-within _ c.args.self.now.opened.ready.ok _ c.args.self.now.in_book)

pub returns : goal.returns
returns c = rw (c.read16.ensures, c.from.ensures) (id-read _ _)
