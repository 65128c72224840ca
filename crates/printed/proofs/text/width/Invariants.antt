-- `width` meets its contract. The invariant of its loop: the digits counted, and those left, are all.
use Prim.Native.Nat.{◌+◌, ◌^◌, ◌<◌}
use mathlib.Core.Path.{◌≡◌}
use lib.ListN.{length}
use Rattle.spec.specs.Printed.{decimal}
use Rattle.printed.proofs.text.width.Given as goal

abbrev pub invariant-loop-rest : goal.invariant-loop-rest
invariant-loop-rest l = (l.k + length (decimal l.rest) ≡ length (decimal l.n) + 1) × (l.rest < 2 ^ 64) × (l.n < 2 ^ 64)

abbrev pub decreases-loop-rest : goal.decreases-loop-rest
decreases-loop-rest l = l.rest
