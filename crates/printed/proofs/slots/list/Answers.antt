-- `list` meets its contract.
use mathlib.Core.Path.{refl}
use Rattle.printed.proofs.Inputs.{listed-short, listed-long}
use Rattle.printed.proofs.slots.list.Goals as goal

pub returns-then-input-lt-ENDS : goal.returns-then-input-lt-ENDS
returns-then-input-lt-ENDS c = listed-short _ _ c.if-input-lt-ENDS.true _ refl _ c.zero.ensures

pub returns : goal.returns
returns c = listed-long _ _ c.if-input-lt-ENDS.false _ _ c.query_in-query.ensures.0 c.query_in-query.ensures.1 _ c.query_in-query.ensures.2 _ c.list.ensures
