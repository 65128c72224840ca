-- `put_interfaces` meets its contract. The invariant of its loop: the first k lines are written.
use Prim.Native.Nat.{◌+◌, ◌*◌, ◌≤◌}
use mathlib.Core.Path.{◌≡◌}
use lib.ListN.{length}
use Rattle.path.specs.Places.{Wrote}
use Rattle.printed.specs.Lines.{interface_text, lines_to}
use Rattle.printed.proofs.lines.put_interfaces.Given as goal

abbrev pub invariant-loop-k : goal.invariant-loop-k
invariant-loop-k l = Wrote l.initial.out l.at (lines_to (interface_text l.path) l.k) l.out l.to × (l.to ≤ l.at + 64 * l.k) × (length l.out ≡ length l.initial.out)
