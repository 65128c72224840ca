-- The loop's invariant: what is left says what the whole says, of heads and of bodies, the rows before k are stored, and `at`, `head` and `row` are where the next body, head and row start.
use mathlib.Core.Path.{◌≡◌}
use Prim.Native.Nat.{◌+◌, ◌*◌, ◌-◌, ◌≤◌}
use lib.ListN.{length}
use Rattle.spec.specs.Limits.{sizes_size, head_size, max_entries}
use Rattle.spec.specs.Basics.{any, range}
use Rattle.spec.specs.Book.{segment_count, body_offset, bodies_verdict, is_long, too_long}
use Rattle.book.specs.Offsets.{rows_below}
use Rattle.book.proofs.single_pass.scan.Given as goal

abbrev pub invariant-loop-k : goal.invariant-loop-k
invariant-loop-k l =
    let b = l.book in
    (l.at ≤ length b) × (l.at ≡ body_offset b l._k) × (l.table ≡ rows_below b l._k) × (too_long b ≡ any (is_long b) (range l._k (l.segments - l._k)))
    × (bodies_verdict b 0 (segment_count b) ≡ bodies_verdict b l._k (l.segments - l._k)) × (l.head ≡ sizes_size + head_size * l._k) × (l.row ≡ max_entries * l._k)
