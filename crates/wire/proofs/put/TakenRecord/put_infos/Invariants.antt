-- `put_infos` meets its contract. The invariant of its loop: the first k infos are written.
use mathlib.Core.Path.{◌≡◌}
use lib.ListN.{length}
use Rattle.wire.proofs.Carrying.{filled, info_wire}
use Rattle.wire.proofs.put.TakenRecord.put_infos.Given as goal

abbrev pub invariant-loop-k : goal.invariant-loop-k
invariant-loop-k l = (l.out ≡ filled (info_wire l.self.path.now) l.initial.out 4 l.k) × (length l.out ≡ length l.initial.out)
