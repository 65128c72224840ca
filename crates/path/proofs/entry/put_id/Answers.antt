-- `put_id` meets its contract.
use native.Mathlib.Omega.{arith}
use Rattle.path.proofs.Showing.{id-none, id-some}
use Rattle.path.proofs.entry.put_id.Goals as goal

pub returns-then-id-eq0 : goal.returns-then-id-eq0
returns-then-id-eq0 c = (id-none _ _ _ _ c.put16.ensures c.requires c.if-id-eq0.true, omega arith)

pub returns : goal.returns
returns c = (id-some _ _ _ _ c.put16.ensures c.requires c.if-id-eq0.false, omega arith)
