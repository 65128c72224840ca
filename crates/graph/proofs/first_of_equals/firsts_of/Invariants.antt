-- The loop: the positions before k are told, and their marks are seen.
use mathlib.Core.Path.{◌≡◌}
use lib.ListN.{length}
use Rattle.spec.specs.Limits.{max_segments}
use Rattle.graph.specs.FirstOfEquals.{Firsts, Seen}
use Rattle.graph.proofs.first_of_equals.firsts_of.Given as goal

abbrev pub invariant-loop-k : goal.invariant-loop-k
invariant-loop-k l = (length l.firsts ≡ max_segments) × (length l.seen ≡ 256) × Firsts l.opened.book.now l.k l.firsts × Seen l.opened.book.now l.k l.seen
