-- Past the segments, in a segment with no entry, and in one that an earlier one equals, nothing is stored.
use mathlib.Core.Path.{sym, ◌∙◌}
use native.Mathlib.Omega.{arith}
use Rattle.graph.specs.Lookup.{found_edges}
use Rattle.graph.proofs.SearchBounds.{counted}
use Rattle.graph.proofs.IdentityPlaces.{identified-past, identified-empty, identified-first, identified-repeat}
use Rattle.graph.proofs.chains.edge_of.Goals as goal

pub overflow_add-sizes : goal.overflow_add-sizes
overflow_add-sizes c =
    let z = counted _ c.args.opened.now.ready.ok _ c.sizes-sizes.ensures in
    omega arith

pub returns-then-sizes-from : goal.returns-then-sizes-from
unfolding found_edges
returns-then-sizes-from c =
    let z = counted _ c.args.opened.now.ready.ok _ c.sizes-sizes.ensures in
    sym (identified-past _ _ (omega arith))

pub count_of-requires : goal.count_of-requires
count_of-requires c =
    let z = counted _ c.args.opened.now.ready.ok _ c.sizes-sizes.ensures in omega arith

pub returns-then-count_of-eq0 : goal.returns-then-count_of-eq0
unfolding found_edges
returns-then-count_of-eq0 c =
    let z = counted _ c.args.opened.now.ready.ok _ c.sizes-sizes.ensures in
    sym (identified-empty _ _ (omega arith) (sym c.count_of.ensures.0 ∙ c.if-count_of-eq0.true))

pub is_first-requires : goal.is_first-requires
is_first-requires c =
    let z = counted _ c.args.opened.now.ready.ok _ c.sizes-sizes.ensures in record { k_bound = omega arith; nonzero = omega (arith, c.count_of.ensures.0, c.if-count_of-eq0.false) }

pub returns-then-not-is_first : goal.returns-then-not-is_first
unfolding found_edges
returns-then-not-is_first c =
    let z = counted _ c.args.opened.now.ready.ok _ c.sizes-sizes.ensures in
    sym (identified-repeat _ _ (omega arith) (sym c.is_first.ensures ∙ c.if-not-is_first.true))

pub stored_edge-requires : goal.stored_edge-requires
stored_edge-requires c =
    let z = counted _ c.args.opened.now.ready.ok _ c.sizes-sizes.ensures in omega arith

pub returns : goal.returns
returns c =
    let z = counted _ c.args.opened.now.ready.ok _ c.sizes-sizes.ensures in
    c.stored_edge.ensures ∙ sym (identified-first _ _ (omega arith) (sym c.is_first.ensures ∙ c.if-not-is_first.false))
