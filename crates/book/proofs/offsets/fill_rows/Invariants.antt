-- The loop's invariant: what is left says what the whole says, the rows before k are stored, and `at` is where the next body starts.
use mathlib.Core.Path.{◌≡◌}
use Prim.Native.Nat.{◌+◌, ◌*◌, ◌-◌, ◌^◌, ◌<◌}
use Rattle.spec.specs.Book.{segment_count, body_offset, bodies_verdict}
use Rattle.book.specs.Offsets.{rows_below}
use Rattle.book.proofs.offsets.fill_rows.Given as goal

abbrev pub invariant-loop-k : goal.invariant-loop-k
invariant-loop-k l =
    let b = l.book in
    (l.at < 2 ^ 21 + 65536 * l.k) × (l.at ≡ body_offset b l.k) × (l.table ≡ rows_below b l.k) × (bodies_verdict b 0 (segment_count b) ≡ bodies_verdict b l.k (segment_count b - l.k))
