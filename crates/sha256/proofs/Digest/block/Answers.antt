-- `sha256::Digest::block` meets its contract.
use Rattle.std.proofs.Common.{ap}
use Rattle.sha256.specs.Hash.{plus, compress}
use Rattle.sha256.proofs.Digest.block.Goals as goal

pub returns : goal.returns
unfolding compress
returns c = ap (plus c.args.self) c.rounds-v.ensures
