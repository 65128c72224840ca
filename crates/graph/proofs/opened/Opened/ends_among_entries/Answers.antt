-- The loop: whether an entry below i has the one AS, and whether one has the other.
use native.Mathlib.Omega.{arith}
use Rattle.graph.proofs.OpenedReads.{below_none, below-turn, below_all}
use Rattle.graph.proofs.VertexTests.{as_eq}
use Rattle.graph.proofs.opened.Opened.ends_among_entries.Goals as goal

pub loop-i-init : goal.loop-i-init
loop-i-init c = (below_none _ _, below_none _ _)

pub loop-i-preserved : goal.loop-i-preserved
loop-i-preserved c =
    let l = c.loop-i in
    let x = c.as_at-x.ensures in
    (below-turn _ _ _ x l.invariant.0 (as_eq _ _ c.eq-a.ensures), below-turn _ _ _ x l.invariant.1 (as_eq _ _ c.eq-b.ensures))

pub returns : goal.returns
returns c =
    let l = c.loop-i in
    let n = c.count_of-n.ensures.0 in
    (below_all _ _ n (omega arith) l.invariant.0, below_all _ _ n (omega arith) l.invariant.1)
