-- The bytes of a record are those of its cost, its count and its edges.
use native.Mathlib.Omega.{arith}
use Rattle.spec.specs.Records.{no_edge, edge_at}
use Rattle.records.proofs.Octets.{record_is}
use Rattle.records.proofs.solution_record.solution_octets.Goals as goal

pub returns : goal.returns
unfolding no_edge edge_at
returns c = record_is _ _ _ _ (omega arith) c.bit.ensures.0 c.bit-2.ensures.0 c.bit-3.ensures.0
