-- `info` meets its contract.
use native.Mathlib.Omega.{arith}
use Rattle.path.proofs.Walking.{hops-are, info-is}
use Rattle.path.proofs.places.PlacedEdge.info.Goals as goal

pub returns : goal.returns
returns c = info-is _ _ _ _ _ (hops-are _ _ _ _ c.entry_count.ensures.0 (omega (arith, c.from.ensures))) c.segment_id-id.ensures c.timestamp-timestamp.ensures
