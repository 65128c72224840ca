-- The loop's invariant: what is left says what the whole says.
use mathlib.Core.Path.{◌≡◌}
use Prim.Native.Nat.{◌-◌}
use Rattle.spec.specs.Basics.{any, range}
use Rattle.book.specs.Repeats.{earlier, same_at, place_as}
use Rattle.book.proofs.twice.Row.stands_earlier.Given as goal

abbrev pub invariant-loop-j : goal.invariant-loop-j
invariant-loop-j l = let ases = place_as l.self.book.now l.self.table.now l.self.row in earlier ases l.i ≡ any (same_at ases l.i) (range l.j (l.i - l.j))
