-- `keep_all` meets its contract. The invariant of its loop: the front holds the routes of the first k records.
use native.Mathlib.Omega.{arith}
use Rattle.std.proofs.Common.{rules}
use mathlib.Core.Path.{refl}
use Rattle.path.proofs.Buckets.{chained-empty}
use Rattle.path.proofs.Keeping.{turned_none, turned-holds, turned_more, turned-all}
use Rattle.path.proofs.route_list.keep_all.Goals as goal

pub loop-k-init : goal.loop-k-init
loop-k-init g c = (turned_none _ _ _ _ _ _ _ c.requires.all_of_book (chained-empty _ _ _), omega arith, refl)

pub keep-requires : goal.keep-requires
keep-requires g c = (search rules, (let v = c.loop-k.invariant in (omega (arith, v.2), v.1, omega arith), (let v = c.loop-k.invariant in v.0.slots _ c.loop-k-test.true, let v = c.loop-k.invariant in turned-holds _ _ _ _ _ _ _ _ _ _ v.0 v.1 c.loop-k-test.true)))

pub loop-k-preserved : goal.loop-k-preserved
loop-k-preserved g c =
    let v = c.loop-k.invariant in (
      turned_more _ _ _ _ _ _ _ _ _ _ v.0 v.1 c.loop-k-test.true _ _ _ _ _ c.keep.ensures,
      omega (arith, v.1, c.keep.ensures.most),
      omega (arith, v.2),
    )

pub returns : goal.returns
returns g c =
    let v = c.loop-k.invariant in
    turned-all _ _ _ _ _ _ _ _ _ _ v.0 v.1 (omega (arith, c.loop-k-test.false))
