-- `expiry` meets its contract.
use Rattle.path.proofs.Walking.{expiry-is}
use Rattle.path.proofs.places.PlacedEdge.expiry.Goals as goal

pub returns : goal.returns
returns c = expiry-is _ _ _ _ _ c.timestamp-start.ensures c.requires c.exp_time_to_duration-life.ensures _ c.saturating_add.ensures
