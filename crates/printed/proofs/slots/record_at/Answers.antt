-- `record_at` meets its contract.
use Rattle.printed.proofs.Inputs.{slot-part}
use Rattle.printed.proofs.slots.record_at.Goals as goal

pub returns : goal.returns
returns c = slot-part c.args.records.now c.args.k
