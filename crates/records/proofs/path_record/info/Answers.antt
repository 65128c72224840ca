-- `info` meets its contract.
use Rattle.spec.specs.Router.{info_at, record_info}
use Rattle.records.proofs.path_record.info.Goals as goal

pub returns : goal.returns
unfolding record_info info_at
returns c = cc
