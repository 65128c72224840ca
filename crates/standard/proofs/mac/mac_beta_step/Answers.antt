-- `mac::mac_beta_step` meets its contract. Assumes nothing.
use Rattle.spec.specs.Octets.{be16}
use Rattle.spec.specs.Assembly.{fold_step}
use Rattle.standard.proofs.mac.mac_beta_step.Goals as goal

pub returns : goal.returns
unfolding fold_step be16
returns c = cc
