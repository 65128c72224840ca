-- `as_edge` meets its contract.
use native.Mathlib.Omega.{arith}
use Rattle.graph.specs.Lookup.{found_edges}
use Rattle.graph.proofs.OpenedReads.{leaf-read, ready-apart}
use Rattle.graph.proofs.IdentityReads.{leaf-named, as-there, as-back}
use Rattle.graph.proofs.edge_by_identity.as_edge.Goals as goal

pub overflow_sub-n : goal.overflow_sub-n
overflow_sub-n c = omega (arith, c.requires.filled.some)

pub returns-then-i-n : goal.returns-then-i-n
unfolding found_edges
returns-then-i-n c =
    let p = c.requires in
    leaf-named c.args.opened.now.book.now c.args.id p.position_value (ready-apart _ _ c.args.opened.now.ready _ p.filled.below) p.filled.count p.shortcut_lt_n p.peer_value c.if-i-n.true

pub overflow_sub-n-2 : goal.overflow_sub-n-2
overflow_sub-n-2 c = omega (arith, c.requires.filled.some)

pub overflow_sub-result : goal.overflow_sub-result
overflow_sub-result c = omega (arith, c.requires.filled.some)

pub overflow_sub-result-then-id : goal.overflow_sub-result-then-id
overflow_sub-result-then-id c = omega (arith, c.requires.shortcut_lt_n)

pub returns-then-id : goal.returns-then-id
unfolding found_edges
returns-then-id c =
    let p = c.requires in
    as-there c.args.opened.now.book.now c.args.id p.position_value (ready-apart _ _ c.args.opened.now.ready _ p.filled.below) p.filled.count p.shortcut_lt_n p.peer_value
    c.if-i-n.false c.as_at-here.ensures (leaf-read _ p.filled.count c.as_at-leaf.ensures) c.if-id.true

pub overflow_sub-result-2 : goal.overflow_sub-result-2
overflow_sub-result-2 c = omega (arith, c.requires.filled.some)

pub overflow_sub-result-3 : goal.overflow_sub-result-3
overflow_sub-result-3 c = omega (arith, c.requires.shortcut_lt_n)

pub returns : goal.returns
unfolding found_edges
returns c =
    let p = c.requires in
    as-back c.args.opened.now.book.now c.args.id p.position_value (ready-apart _ _ c.args.opened.now.ready _ p.filled.below) p.filled.count p.shortcut_lt_n p.peer_value
    c.if-i-n.false c.as_at-here.ensures (leaf-read _ p.filled.count c.as_at-leaf.ensures) c.if-id.false
