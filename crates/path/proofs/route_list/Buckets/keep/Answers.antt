-- `keep` meets its contract.
use native.Mathlib.Omega.{arith}
use Rattle.std.proofs.Common.{rules}
use mathlib.Core.Path.{sym, ap, ◌∙◌, subst}
use lib.ListN.{length}
use Rattle.path.specs.Slots.{OfBook}
use Rattle.path.proofs.Keeping.{no-loop-path, no-bare-path, has-path, record-size, kept-none, kept_step}
use Rattle.path.proofs.route_list.Buckets.keep.Goals as goal

pub walk-shown-requires : goal.walk-shown-requires
walk-shown-requires g c = record { of_book = subst (OfBook _) (sym c.record_in-given.ensures) c.requires.of_book; max_edges_in_bounds = (omega arith, omega arith) }

pub is_loop-requires : goal.is_loop-requires
is_loop-requires g c = record { count_in_bounds = omega (arith, c.walk-shown.ensures.few); count_bound = omega (arith, c.walk-shown.ensures.few) }

pub returns-then-is_loop : goal.returns-then-is_loop
returns-then-is_loop g c = kept-none _ _ _ _ _ _ _ c.requires.holds c.args.k _ c.record_in-given.ensures (no-loop-path _ _ _ _ _ c.walk-shown.ensures _ c.is_loop.ensures c.if-is_loop.true)

pub returns-then-shown-eq0 : goal.returns-then-shown-eq0
returns-then-shown-eq0 g c = kept-none _ _ _ _ _ _ _ c.requires.holds c.args.k _ c.record_in-given.ensures (no-bare-path _ _ _ _ _ c.walk-shown.ensures _ c.is_loop.ensures c.if-is_loop.false c.if-shown-eq0.true)

pub invariant_of-route : goal.invariant_of-route
invariant_of-route g c = record { in_bounds = omega (arith, c.walk-shown.ensures.few) }

pub hold-requires : goal.hold-requires
hold-requires g c = let p = c.requires.in_bounds in (search rules, ((ap length c.record_in-given.ensures ∙ record-size _ _ p.0, omega (arith, p.0, p.1), omega (arith, p.1, p.2)), (subst (OfBook _) (sym c.record_in-given.ensures) c.requires.of_book, (c.walk-shown.ensures, c.requires.holds))))

pub returns : goal.returns
returns g c =
    kept_step _ _ _ _ _ _ _ c.requires.holds c.args.k _ _ _ _ _ _ c.record_in-given.ensures
    (has-path _ _ _ _ _ c.walk-shown.ensures _ c.is_loop.ensures c.if-is_loop.false c.if-shown-eq0.false) c.hold.ensures
