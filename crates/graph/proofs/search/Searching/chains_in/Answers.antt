-- A segment with no entries gives nothing; then by its kind, and by whether its leaf is the source.
use native.Mathlib.Omega.{arith}
use mathlib.Core.Path.{refl}
use Rattle.graph.proofs.PushedTurns.{pushes-as, pushes-none}
use Rattle.graph.proofs.SearchTurns.{core_at, in-empty, in-core, in_leaf, in-other}
use Rattle.graph.proofs.VertexTests.{as_eq}
use Rattle.graph.proofs.search.Searching.chains_in.Goals as goal

pub returns-then-count-eq0 : goal.returns-then-count-eq0
returns-then-count-eq0 c = pushes-none (omega arith) (in-empty _ _ _ _ _ c.count_of-count.ensures.0 c.if-count-eq0.true)

pub core_leaving-found-requires : goal.core_leaving-found-requires
core_leaving-found-requires c =
    let p = c.requires in record { k_bound = p.k_bound; k_value = core_at _ _ (omega arith) }

pub returns-then-k-self : goal.returns-then-k-self
returns-then-k-self c =
    let p = c.requires in
    pushes-as c.chains_of.ensures
    (in-core _ _ _ _ _ c.count_of-count.ensures.0 c.if-count-eq0.false _ (omega arith) c.core_leaving-found.ensures)

pub returns-then-eq : goal.returns-then-eq
returns-then-eq c =
    let p = c.requires in
    pushes-as c.leaf_chains.ensures
    (in_leaf _ _ _ _ _ c.count_of-count.ensures.0 c.if-count-eq0.false (omega arith) _ c.leaf_as-leaf.ensures _ (as_eq _ _ c.eq.ensures) _ refl c.if-eq.true)

pub returns : goal.returns
returns c =
    let p = c.requires in
    pushes-as c.chains_of-2.ensures
    (in-other _ _ _ _ _ c.count_of-count.ensures.0 c.if-count-eq0.false (omega arith) _ c.leaf_as-leaf.ensures _ (as_eq _ _ c.eq.ensures) _ c.if-eq.false c.between-found.ensures)
