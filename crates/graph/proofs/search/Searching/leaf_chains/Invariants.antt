-- The loop: what is pushed so far, and what the entries from i on give.
use Prim.Native.Nat.{◌-◌}
use mathlib.Core.Path.{◌≡◌}
use mathlib.Core.List.{flat_map}
use lib.ListN.{length}
use Rattle.spec.specs.Basics.{range}
use Rattle.spec.specs.Book.{segment_at}
use Rattle.graph.specs.Leaving.{ups_at}
use Rattle.graph.specs.Search.{chains_from}
use Rattle.graph.proofs.PushedTurns.{Going}
use Rattle.graph.proofs.search.Searching.leaf_chains.Given as goal

abbrev pub invariant-loop-i : goal.invariant-loop-i
invariant-loop-i l =
    (length l.out ≡ length l.initial.out)
    × Going l.self.slots (l.start, l.initial.out) (l.n, l.out) (flat_map (chains_from l.self.opened.book.now l.self.q.dst) (flat_map (ups_at (segment_at l.self.opened.book.now l.k)) (range 0 l.count))) (flat_map (chains_from l.self.opened.book.now l.self.q.dst) (flat_map (ups_at (segment_at l.self.opened.book.now l.k)) (range l.i (l.count - l.i))))
