-- `lengths_below` meets its contract. The loop's invariant: the sum so far.
use mathlib.Core.Path.{◌≡◌}
use Prim.Native.Nat.{◌*◌, ◌≤◌}
use Rattle.spec.specs.Book.{lengths_below}
use Rattle.segment.proofs.heads.lengths_below.Given as goal

abbrev pub invariant-loop-i : goal.invariant-loop-i
invariant-loop-i l = (l.sum ≡ lengths_below l.book l.i) × (l.sum ≤ 65535 * l.i)
