-- `sha256::small_sigma0` meets its contract.
use Rattle.sha256.specs.Words.{σ₀}
use Rattle.sha256.proofs.small_sigma0.Goals as goal

pub returns : goal.returns
unfolding σ₀
returns c = cc
