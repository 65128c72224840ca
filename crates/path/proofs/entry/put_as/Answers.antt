-- `put_as` meets its contract.
use native.Mathlib.Omega.{arith}
use mathlib.Core.Path.{refl}
use Rattle.path.proofs.Copies.{as-put}
use Rattle.path.proofs.Showing.{as_none, as_some}
use Rattle.path.proofs.entry.put_as.Goals as goal

pub returns-then-id-eq0 : goal.returns-then-id-eq0
returns-then-id-eq0 c = (as_none _ _ _ _ _ (as-put _ (λ i. (c.type_inv.book i).fits) _ c.requires.0 _ _ _ _ _ refl c.copy.ensures c.copy-2.ensures) c.requires.1 c.if-id-eq0.true, omega arith)

pub returns : goal.returns
returns c = (as_some _ _ _ _ _ (as-put _ (λ i. (c.type_inv.book i).fits) _ c.requires.0 _ _ _ _ _ refl c.copy.ensures c.copy-2.ensures) c.requires.1 c.if-id-eq0.false, omega arith)
