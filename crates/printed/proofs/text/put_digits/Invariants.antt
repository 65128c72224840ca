-- `put_digits` meets its contract. The invariant of its loop: the digits that are left, written before those that stand, are all.
use Prim.Native.Nat.{◌≤◌}
use mathlib.Core.Path.{◌≡◌}
use lib.ListN.{length}
use Rattle.output.specs.Write.{written}
use Rattle.printed.specs.Digits.{digits}
use Rattle.printed.proofs.text.put_digits.Given as goal

abbrev pub invariant-loop-i : goal.invariant-loop-i
invariant-loop-i l = (written l.out l.at (digits l.base l.i l.rest) ≡ written l.initial.out l.at (digits l.base l.count l.n)) × (l.i ≤ l.count) × (length l.out ≡ length l.initial.out)
