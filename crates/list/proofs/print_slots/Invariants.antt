-- `print_slots` meets its contract. The invariant of its loop: the first k solutions are written.
use Prim.Native.Nat.{◌*◌, ◌-◌, ◌≤◌}
use mathlib.Core.Path.{◌≡◌}
use mathlib.Core.List.{flat_map}
use lib.ListN.{length}
use Rattle.spec.specs.Basics.{range}
use Rattle.printed.specs.Pieces.{slot_text, solution_text_size}
use Rattle.list.proofs.print_slots.Given as goal

abbrev pub invariant-loop-k : goal.invariant-loop-k
invariant-loop-k g l = (l.written ≡ length (flat_map (slot_text l.input l.records) (range 0 l.k))) × (l.written ≤ l.k * solution_text_size)
