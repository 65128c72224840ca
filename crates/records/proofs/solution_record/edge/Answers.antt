-- Four bytes of the record.
use Rattle.spec.specs.Records.{record_edge, edge_at, edge_offset}
use Rattle.records.proofs.solution_record.edge.Goals as goal

pub returns : goal.returns
unfolding record_edge edge_at edge_offset
returns c = cc
