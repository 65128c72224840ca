-- `sha256::big_sigma1` meets its contract.
use Rattle.sha256.specs.Words.{Σ₁}
use Rattle.sha256.proofs.big_sigma1.Goals as goal

pub returns : goal.returns
unfolding Σ₁
returns c = cc
