-- `same_at` meets its contract.
use Rattle.path.proofs.Interfaces.{same_not, same_then}
use Rattle.path.proofs.shown.Interfaces.same_at.Goals as goal

pub returns-then-read64 : goal.returns-then-read64
returns-then-read64 c = same_not _ _ _ _ _ c.read64.ensures c.read64-2.ensures c.if-read64.true

pub returns : goal.returns
returns c = same_then _ _ _ _ _ c.read64.ensures c.read64-2.ensures c.if-read64.false c.read16.ensures c.read16-2.ensures
