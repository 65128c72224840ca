-- `has_path` meets its contract.
use Rattle.printed.proofs.Inputs.{told-path}
use Rattle.printed.proofs.slots.has_path.Goals as goal

pub returns : goal.returns
returns c = told-path _ _ _ _ _ c.query_in-query.ensures.0 c.query_in-query.ensures.1 _ c.query_in-query.ensures.2 _ c.record_at.ensures _ c.has_path.ensures
