-- The loop over last edges, in the positions where chains may arrive.
use Prim.Native.Nat.{◌-◌}
use Rattle.graph.specs.Search.{last_in}
use Rattle.graph.proofs.SearchPlan.{LastEdges}
use Rattle.graph.proofs.search.Searching.last_edges.Given as goal

abbrev pub invariant-loop-k : goal.invariant-loop-k
invariant-loop-k l = LastEdges l.self.opened.book.now l.self.q.dst l.self.q.cores l.self.q.count l.self.slots (last_in l.self.opened.book.now l.self.q.dst l.before l.e l.f) (l.start, l.initial.out) l.k l.n l.out

abbrev pub decreases-loop-k : goal.decreases-loop-k
decreases-loop-k l = l.self.q.count - l.k
