-- The loop over last edges, in the positions where chains may arrive.
use native.Mathlib.Omega.{arith}
use Rattle.graph.proofs.SearchPlan.{last-quiet, last-start, last_turn, last_less, last-position, last-room, last_end, last-full}
use Rattle.graph.proofs.search.Searching.last_edges.Goals as goal

pub loop-k-init : goal.loop-k-init
loop-k-init c = rw c.from.ensures (last-start c.args.self.now.prepared (last-quiet _ _ _ _ _) (omega arith))

pub returns-then-self-n : goal.returns-then-self-n
returns-then-self-n c = last-full c.loop-k.invariant (omega arith)

pub last_edge_in-n-requires : goal.last_edge_in-n-requires
last_edge_in-n-requires c =
    let p = c.requires in
    let l = c.loop-k.invariant in record { book_bound = last-position c.args.self.now.prepared l (omega arith); fact = p.fact; room = last-room c.args.self.now.prepared l (omega arith) (omega arith) }

pub loop-k-smaller : goal.loop-k-smaller
loop-k-smaller c = rw c.from-in-loop-k.ensures (last_less c.args.self.now.prepared c.loop-k.invariant (omega arith))

pub loop-k-preserved : goal.loop-k-preserved
loop-k-preserved c =
    rw c.from-in-loop-k.ensures (last_turn c.args.self.now.prepared (last-quiet _ _ _ _ _) c.loop-k.invariant (omega arith) c.last_edge_in-n.ensures (omega arith))

pub returns : goal.returns
returns c = last_end c.loop-k.invariant (omega arith)
