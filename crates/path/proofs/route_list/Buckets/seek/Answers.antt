-- `seek` meets its contract. The invariant of its loop: no slot from `at` on holds the route.
use native.Mathlib.Omega.{arith}
use Rattle.std.proofs.Common.{rules}
use Rattle.path.proofs.Seeking.{absent, passed_first, passed-less, passed-next, sought-here, sought-none}
use Rattle.path.proofs.route_list.Buckets.seek.Goals as goal

pub loop-at-init : goal.loop-at-init
loop-at-init g c = passed_first _ _ _ _ _ _ _ c.requires.told c.requires.chained _ _ c.bucket.ensures.0 c.bucket.ensures.1 c.from-at.ensures

pub look-requires : goal.look-requires
look-requires g c = (search rules, ((c.requires.in_bounds.0, c.requires.in_bounds.1, omega (arith, c.loop-at.invariant.within, c.loop-at-test.true)), (c.requires.all_of_book, c.requires.told)))

pub returns-in-Some : goal.returns-in-Some
returns-in-Some g c = sought-here _ _ _ _ _ _ _ c.requires.told c.requires.chained _ c.loop-at-test.true c.loop-at.invariant _ c.look.ensures _ c.in-Some.is

pub loop-at-smaller : goal.loop-at-smaller
loop-at-smaller g c = rw c.from-at-in-loop-at.ensures (passed-less _ _ _ _ _ _ _ c.requires.told c.requires.chained _ c.loop-at-test.true c.loop-at.invariant)

pub loop-at-preserved : goal.loop-at-preserved
loop-at-preserved g c = rw c.from-at-in-loop-at.ensures (passed-next _ _ _ _ _ _ _ c.requires.told c.requires.chained _ c.loop-at-test.true c.loop-at.invariant (c.look.ensures.other (absent _ c.in_default.not-Some)))

pub returns : goal.returns
returns g c = sought-none _ _ _ _ _ _ _ c.loop-at.invariant (omega (arith, c.loop-at-test.false))
