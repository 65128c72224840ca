-- `as_up` meets its contract.
use native.Mathlib.Omega.{arith}
use Rattle.graph.specs.Lookup.{found_edges}
use Rattle.graph.proofs.OpenedReads.{leaf-read, ready-apart}
use Rattle.graph.proofs.EdgeReads.{up-leaf, up-made}
use Rattle.graph.proofs.edges.as_up.Goals as goal

pub returns-then-i-n : goal.returns-then-i-n
unfolding found_edges
returns-then-i-n c = up-leaf _ _ c.count_of-n.ensures.0 c.if-i-n.true

pub returns : goal.returns
unfolding found_edges
returns c =
    up-made c.args.opened.now.book.now c.args.k c.args.i c.count_of-n.ensures.0 (leaf-read _ c.count_of-n.ensures.0 c.as_at-leaf.ensures)
    (ready-apart _ _ c.args.opened.now.ready _ c.requires.k_bound) (omega arith) c.if-i-n.false c.as_at-here.ensures c.is_core.ensures
