-- `put_record` meets its contract.
use Rattle.graph.proofs.PushedRecords.{put-over}
use Rattle.graph.proofs.slots.put_record.Goals as goal

pub returns : goal.returns
returns c = put-over _ _ c.copy_from_slice.ensures.after
