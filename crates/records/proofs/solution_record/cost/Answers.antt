-- `cost` meets its contract.
use Rattle.spec.specs.Records.{solution_in}
use Rattle.records.proofs.solution_record.cost.Goals as goal

pub returns : goal.returns
unfolding solution_in
returns c = cc
