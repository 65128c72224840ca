-- `sha256::marked` meets its contract.
use Rattle.sha256.proofs.Padding.{mark}
use Rattle.sha256.proofs.marked.Goals as goal

pub returns : goal.returns
returns c = mark c.args.rest.now c.requires c.copy_from_slice.ensures.after
