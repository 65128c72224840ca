-- `is_core` meets its contract.
use Rattle.graph.proofs.OpenedReads.{core-read}
use Rattle.graph.proofs.opened.Opened.is_core.Goals as goal

pub returns : goal.returns
returns c = rw c.from.ensures (core-read _ _ c.sizes.ensures)
