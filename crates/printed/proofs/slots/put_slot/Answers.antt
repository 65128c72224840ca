-- `put_slot` meets its contract.
use Rattle.printed.proofs.Inputs.{wrote-slot}
use Rattle.printed.proofs.slots.put_slot.Goals as goal

pub returns : goal.returns
returns c = (
  wrote-slot _ _ _ _ _ c.query_in-query.ensures.0 c.query_in-query.ensures.1 _ c.query_in-query.ensures.2 _ c.record_at-given.ensures c.put_solution.ensures.0,
  c.put_solution.ensures.1,
)
