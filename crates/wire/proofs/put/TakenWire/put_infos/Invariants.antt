-- `put_infos` meets its contract. The invariant of its loop: the first k infos are read.
use mathlib.Core.Path.{◌≡◌}
use lib.ListN.{length}
use Rattle.wire.proofs.Carrying.{filled, info_record}
use Rattle.wire.proofs.put.TakenWire.put_infos.Given as goal

abbrev pub invariant-loop-k : goal.invariant-loop-k
invariant-loop-k l = (l.out ≡ filled (info_record l.self.wire.now) l.initial.out 26 l.k) × (length l.out ≡ length l.initial.out)
