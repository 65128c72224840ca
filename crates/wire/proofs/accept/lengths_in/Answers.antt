-- `lengths_in` meets its contract.
use Rattle.wire.proofs.Testing.{lengths-are}
use Rattle.wire.proofs.accept.lengths_in.Goals as goal

pub returns : goal.returns
returns c = lengths-are _ _ c.be32-meta.ensures
