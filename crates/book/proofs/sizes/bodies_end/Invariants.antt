-- The loop's invariant: `at` is where the body at k starts.
use mathlib.Core.Path.{◌≡◌}
use Prim.Native.Nat.{◌+◌, ◌*◌, ◌^◌, ◌<◌}
use Rattle.spec.specs.Book.{body_offset}
use Rattle.book.proofs.sizes.bodies_end.Given as goal

abbrev pub invariant-loop-k : goal.invariant-loop-k
invariant-loop-k l = (l.at < 2 ^ 21 + 65536 * l.k) × (l.at ≡ body_offset l.book l.k)
