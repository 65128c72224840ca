-- The loop: what is pushed so far, and what the positions from k on give.
use Prim.Native.Nat.{◌-◌}
use mathlib.Core.Path.{◌≡◌}
use lib.ListN.{length}
use Rattle.graph.specs.Search.{over_firsts, chains_in}
use Rattle.graph.proofs.PushedTurns.{Going}
use Rattle.graph.proofs.search.Searching.all_chains.Given as goal

abbrev pub invariant-loop-k : goal.invariant-loop-k
invariant-loop-k l =
    (length l.out ≡ length l.initial.out)
    × Going l.self.slots (0, l.initial.out) (l.n, l.out) (over_firsts (chains_in l.self.opened.book.now l.self.q.dst l.self.q.src) l.self.opened.book.now 0 l.self.q.count) (over_firsts (chains_in l.self.opened.book.now l.self.q.dst l.self.q.src) l.self.opened.book.now l.k (l.self.q.count - l.k))
