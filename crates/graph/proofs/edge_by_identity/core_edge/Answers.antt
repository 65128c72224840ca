-- `core_edge` meets its contract.
use native.Mathlib.Omega.{arith}
use mathlib.Core.Path.{ap, ◌∙◌}
use mathlib.Core.List.{[], ◌∷◌}
use Rattle.graph.specs.Lookup.{found_edges}
use Rattle.graph.proofs.OpenedReads.{leaf-read, ready-apart}
use Rattle.graph.proofs.IdentityLaws.{core-shortcut, core-peer}
use Rattle.graph.proofs.IdentityReads.{core-there, core-one, core-back}
use Rattle.graph.proofs.edge_by_identity.core_edge.Goals as goal

pub returns-then-id-gt0 : goal.returns-then-id-gt0
unfolding found_edges
returns-then-id-gt0 c = core-shortcut _ c.args.id c.requires.position_value c.if-id-gt0.true

pub returns-then-id-gt0-2 : goal.returns-then-id-gt0-2
unfolding found_edges
returns-then-id-gt0-2 c = core-peer _ c.args.id c.requires.position_value c.if-id-gt0-2.true

pub overflow_sub-n : goal.overflow_sub-n
overflow_sub-n c = omega (arith, c.requires.filled.some)

pub edge_of_core-requires : goal.edge_of_core-requires
edge_of_core-requires c = c.requires.filled.some

pub returns-then-id : goal.returns-then-id
unfolding found_edges
returns-then-id c =
    let p = c.requires in
    ap (λ x. x ∷ []) c.edge_of_core.ensures
    ∙ core-there c.args.opened.now.book.now c.args.id p.position_value p.filled.count p.filled.some (omega arith) (omega arith)
    c.as_at-first.ensures (leaf-read _ p.filled.count c.as_at-last.ensures) c.if-id.true

pub returns-then-n-eq1 : goal.returns-then-n-eq1
unfolding found_edges
returns-then-n-eq1 c =
    let p = c.requires in
    core-one c.args.opened.now.book.now c.args.id p.position_value p.filled.count p.filled.some (omega arith) (omega arith)
    c.as_at-first.ensures (leaf-read _ p.filled.count c.as_at-last.ensures) c.if-id.false c.if-n-eq1.true

pub edge_of_core-requires-2 : goal.edge_of_core-requires-2
edge_of_core-requires-2 c = c.requires.filled.some

pub returns : goal.returns
unfolding found_edges
returns c =
    let p = c.requires in
    ap (λ x. x ∷ []) c.edge_of_core-2.ensures
    ∙ core-back c.args.opened.now.book.now c.args.id p.position_value p.filled.count p.filled.some (omega arith) (omega arith)
    c.as_at-first.ensures (leaf-read _ p.filled.count c.as_at-last.ensures) c.if-id.false (ready-apart _ _ c.args.opened.now.ready _ p.filled.below) c.if-n-eq1.false
