-- `edge_in` meets its contract.
use Rattle.spec.specs.Records.{edge_at, edge_offset, record_edge}
use borrow.Author.Rules.{rules}
use Rattle.path.proofs.record.edge_in.Goals as goal

pub returns : goal.returns
unfolding record_edge edge_offset edge_at
returns c = search rules
