-- `put_hops` meets its contract. The invariant of its loop: the first k hops are written.
use mathlib.Core.Path.{◌≡◌}
use lib.ListN.{length}
use Rattle.wire.proofs.Carrying.{filled, hop_wire}
use Rattle.wire.proofs.put.TakenRecord.put_hops.Given as goal

abbrev pub invariant-loop-k : goal.invariant-loop-k
invariant-loop-k l = (l.out ≡ filled (hop_wire l.self.path.now) l.initial.out l.at l.k) × (length l.out ≡ length l.initial.out)
