-- The loop: what is pushed so far, and what the peers from p on give.
use Prim.Native.Nat.{◌-◌}
use mathlib.Core.Path.{◌≡◌}
use mathlib.Core.List.{flat_map}
use lib.ListN.{length}
use Rattle.spec.specs.Basics.{range}
use Rattle.spec.specs.Book.{segment_at}
use Rattle.graph.specs.Leaving.{peer_count_of, peer_up}
use Rattle.graph.specs.Search.{chains_from}
use Rattle.graph.proofs.PushedTurns.{Going}
use Rattle.graph.proofs.search.Searching.peer_chains.Given as goal

abbrev pub invariant-loop-p : goal.invariant-loop-p
invariant-loop-p l =
    (length l.out ≡ length l.initial.out) × (l.count ≡ peer_count_of (segment_at l.self.opened.book.now l.k) l.i)
    × Going l.self.slots (l.start, l.initial.out) (l.n, l.out) (flat_map (chains_from l.self.opened.book.now l.self.q.dst) (flat_map (peer_up (segment_at l.self.opened.book.now l.k) l.i) (range 0 (peer_count_of (segment_at l.self.opened.book.now l.k) l.i)))) (flat_map (chains_from l.self.opened.book.now l.self.q.dst) (flat_map (peer_up (segment_at l.self.opened.book.now l.k) l.i) (range l.p (l.count - l.p))))
