-- The loop's invariant: what is left says what the whole says, i offsets are stored, and `at` is the next.
use mathlib.Core.Path.{◌≡◌}
use Prim.Native.Nat.{◌+◌, ◌*◌, ◌-◌, ◌≤◌}
use Rattle.spec.specs.Limits.{peer_size, max_peers}
use Rattle.spec.specs.Book.{entry_offset, entries_verdict}
use Rattle.book.specs.Offsets.{with_row}
use Rattle.book.proofs.Turns.{rest_verdict}
use Rattle.book.proofs.body.Body.fill.Given as goal

abbrev pub invariant-loop-i : goal.invariant-loop-i
invariant-loop-i l =
    let b = l.self.book.now in
    (l.at ≤ l.self.end + peer_size * max_peers) × (l.at ≡ entry_offset b l.self.start l.i) × (l.table ≡ with_row b l.self.start l.self.row l.i l.initial.table)
    × (entries_verdict b l.self.end l.self.start l.self.count ≡ rest_verdict b l.self.end l.at (l.self.count - l.i))
