-- The loop's invariant: whether a head is too long shows in those from k on.
use mathlib.Core.Path.{◌≡◌}
use Prim.Native.Nat.{◌-◌}
use Rattle.spec.specs.Basics.{any, range}
use Rattle.spec.specs.Book.{is_long, too_long}
use Rattle.book.proofs.sizes.too_long.Given as goal

abbrev pub invariant-loop-k : goal.invariant-loop-k
invariant-loop-k l = too_long l.book ≡ any (is_long l.book) (range l.k (l.segments - l.k))
