-- `sha256::small_sigma1` meets its contract.
use Rattle.sha256.specs.Words.{σ₁}
use Rattle.sha256.proofs.small_sigma1.Goals as goal

pub returns : goal.returns
unfolding σ₁
returns c = cc
