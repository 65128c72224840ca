-- `count_paths` meets its contract. The invariant of its loop: the paths among the first k slots are counted.
use Prim.Native.Nat.{◌-◌, ◌≤◌}
use mathlib.Core.Path.{◌≡◌}
use Rattle.printed.specs.Pieces.{paths_to}
use Rattle.printed.proofs.slots.count_paths.Given as goal

abbrev pub invariant-loop-k : goal.invariant-loop-k
invariant-loop-k l = (l.paths ≡ paths_to l.input l.records l.k) × (l.paths ≤ l.k)
