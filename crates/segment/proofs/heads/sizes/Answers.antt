-- `sizes` meets its contract.
use Rattle.segment.proofs.Fields.{sizes-are}
use Rattle.segment.proofs.heads.sizes.Goals as goal

pub returns : goal.returns
returns c = sizes-are _ c.be16.ensures c.be16-2.ensures c.be32.ensures
