-- The loop: whether an entry below i has the one AS, and whether one has the other.
use mathlib.Core.Path.{◌≡◌}
use Rattle.spec.specs.Book.{segment_at}
use Rattle.graph.proofs.OpenedReads.{has_below}
use Rattle.graph.proofs.opened.Opened.ends_among_entries.Given as goal

abbrev pub invariant-loop-i : goal.invariant-loop-i
invariant-loop-i l = (l.a ≡ has_below (segment_at l.self.book.now l.k) l.src l.i) × (l.b ≡ has_below (segment_at l.self.book.now l.k) l.dst l.i)
