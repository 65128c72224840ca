-- `solution` meets its contract.
use Rattle.spec.specs.Basics.{range}
use Rattle.spec.specs.Records.{solution_in}
use Rattle.records.proofs.solution_record.solution.Goals as goal

pub returns : goal.returns
unfolding solution_in range
returns c = cc
