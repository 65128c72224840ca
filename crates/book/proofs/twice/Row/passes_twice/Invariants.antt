-- The loop's invariant: what is left says what the whole says, and the entries before are marked.
use mathlib.Core.Path.{◌≡◌}
use Prim.Native.Nat.{◌-◌}
use Rattle.spec.specs.Basics.{any, range}
use Rattle.book.specs.Repeats.{earlier, twice, place_as}
use Rattle.book.specs.Marks.{Marked}
use Rattle.book.proofs.twice.Row.passes_twice.Given as goal

abbrev pub invariant-loop-i : goal.invariant-loop-i
invariant-loop-i l =
    let ases = place_as l.self.book.now l.self.table.now l.self.row in
    Marked ases l.seen.0 l.i × (twice ases l.self.count ≡ any (earlier ases) (range l.i (l.self.count - l.i)))
