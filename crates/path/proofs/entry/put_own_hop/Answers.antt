-- `put_own_hop` meets its contract.
use Prim.Native.Nat.{ℕ}
use mathlib.Core.Path.{refl}
use lib.ListN.{replicate}
use Rattle.spec.specs.Limits.{hop_size}
use Rattle.path.proofs.Copies.{own_put}
use Rattle.path.proofs.entry.put_own_hop.Goals as goal

pub returns : goal.returns
returns c = own_put _ (λ i. (c.type_inv.book i).fits) _ c.requires.entry_size_in_bounds (replicate {A = ℕ} hop_size 0) _ _ _ _ _ refl c.copy.ensures c.copy-2.ensures c.copy-3.ensures
