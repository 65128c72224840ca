-- `compare` meets its contract.
use native.Mathlib.Omega.{arith}
use mathlib.Core.Path.{sym, subst}
use Rattle.path.specs.Slots.{OfBook}
use Rattle.path.proofs.Seeking.{compared-count, compared-other, compared_same}
use Rattle.path.proofs.route_list.compare.Goals as goal

pub walk-held-requires : goal.walk-held-requires
walk-held-requires c = record { of_book = subst (OfBook _) (sym c.record_in-given.ensures) c.requires.of_book; max_edges_in_bounds = (omega arith, omega arith) }

pub returns-then-held-route : goal.returns-then-held-route
returns-then-held-route c = compared-count _ _ _ _ _ _ _ _ c.walk-held.ensures _ _ c.record_in-given.ensures c.if-held-route.true

pub invariant_of-others : goal.invariant_of-others
invariant_of-others c = record { in_bounds = omega (arith, c.walk-held.ensures.few) }

pub returns-then-not-same : goal.returns-then-not-same
returns-then-not-same c = compared-other _ _ _ _ _ _ _ _ c.walk-held.ensures _ _ c.record_in-given.ensures c.if-held-route.false _ c.same.ensures c.if-not-same.true

pub returns : goal.returns
returns c = compared_same _ _ _ _ _ _ _ _ c.walk-held.ensures _ _ c.record_in-given.ensures c.if-held-route.false _ c.same.ensures c.if-not-same.false
