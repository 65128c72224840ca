-- `types::exp_time_to_duration` meets its contract. Assumes nothing.
use Rattle.spec.specs.Assembly.{life}
use Rattle.standard.proofs.types.exp_time_to_duration.Goals as goal

pub returns : goal.returns
unfolding life
returns c = cc
