-- `sha256::big_sigma0` meets its contract.
use Rattle.sha256.specs.Words.{Σ₀}
use Rattle.sha256.proofs.big_sigma0.Goals as goal

pub returns : goal.returns
unfolding Σ₀
returns c = cc
