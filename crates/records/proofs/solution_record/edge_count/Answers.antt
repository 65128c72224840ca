-- `edge_count` meets its contract.
use Rattle.spec.specs.Records.{solution_in}
use Rattle.records.proofs.solution_record.edge_count.Goals as goal

pub returns : goal.returns
unfolding solution_in
returns c = cc
