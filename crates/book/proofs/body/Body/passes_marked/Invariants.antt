-- The loop's invariant: what is left says what the whole says, i offsets are stored, `at` is the next, the entries before are marked, and no mark was seen again.
use mathlib.Core.Path.{◌≡◌}
use mathlib.Core.Bool.{false}
use Prim.Native.Nat.{ℕ, ◌+◌, ◌*◌, ◌-◌, ◌≤◌, ◌<◌}
use Rattle.spec.specs.Limits.{peer_size, max_peers}
use Rattle.spec.specs.Book.{entry_offset, entries_verdict}
use Rattle.book.specs.Offsets.{with_row}
use Rattle.book.specs.Repeats.{earlier, entry_as}
use Rattle.book.specs.Marks.{Marked}
use Rattle.book.proofs.Turns.{rest_verdict}
use Rattle.book.proofs.body.Body.passes_marked.Given as goal

abbrev pub invariant-loop-i : goal.invariant-loop-i
invariant-loop-i l =
    let b = l.self.book.now in
    (l.at ≤ l.self.end + peer_size * max_peers) × (l.at ≡ entry_offset b l.self.start l.i) × (l.table ≡ with_row b l.self.start l.self.row l.i l.initial.table)
    × (entries_verdict b l.self.end l.self.start l.self.count ≡ rest_verdict b l.self.end l.at (l.self.count - l.i)) × Marked (entry_as b l.self.start) l.seen.0 l.i
    × (l.again ≡ false → (j : ℕ) → j < l.i → earlier (entry_as b l.self.start) j ≡ false)
