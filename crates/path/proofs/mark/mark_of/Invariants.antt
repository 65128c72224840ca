-- `mark_of` meets its contract. The invariant of its loop: the mark is that of the first k interfaces.
use Prim.Native.Nat.{◌<◌}
use mathlib.Core.Path.{◌≡◌}
use Rattle.path.specs.Marking.{prime, mark_from}
use Rattle.path.specs.Slots.{shown_in}
use Rattle.path.proofs.mark.mark_of.Given as goal

abbrev pub invariant-loop-k : goal.invariant-loop-k
invariant-loop-k l = (l.mark ≡ mark_from l.keys 0 (shown_in l.route.ases.now l.route.ids.now l.k)) × (l.mark < prime)
