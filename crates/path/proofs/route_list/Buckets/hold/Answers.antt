-- `hold` meets its contract.
use native.Mathlib.Omega.{arith}
use Rattle.std.proofs.Common.{rules}
use Rattle.path.proofs.Seeking.{absent}
use Rattle.path.proofs.Keeping.{told_is, chained-is, kept-adds, kept-takes, kept-stays}
use Rattle.path.proofs.Buckets.{chained_more}
use Rattle.path.proofs.route_list.Buckets.hold.Goals as goal

pub seek-requires : goal.seek-requires
seek-requires g c = (search rules, ((omega arith, c.requires.in_bounds.2), (c.requires.holds.slots, (told_is _ _ _ _ _ _ _ c.requires.holds _ _ _ _ c.requires.shows c.requires.in_bounds.0 c.requires.of_book _ c.both_marks.ensures (omega (arith, c.requires.in_bounds.2, c.args.self.now.sized.0)), chained-is _ _ _ _ _ _ _ c.requires.holds _ _ _ _ c.requires.shows c.requires.in_bounds.0 c.requires.of_book _ c.both_marks.ensures (omega (arith, c.requires.in_bounds.2, c.args.self.now.sized.0))))))

pub returns-in_default : goal.returns-in_default
returns-in_default g c =
    kept-adds _ _ _ _ _ _ _ c.requires.holds _ _ _ _ c.requires.shows c.requires.in_bounds.0 c.requires.of_book _ c.both_marks.ensures (omega (arith, c.requires.in_bounds.2, c.args.self.now.sized.0))
    _ c.seek.ensures (absent _ c.in_default.not-Some) c.requires.in_bounds.1 _ _ _ c.put_record.ensures
    (chained_more _ _ _ _ _ (chained-is _ _ _ _ _ _ _ c.requires.holds _ _ _ _ c.requires.shows c.requires.in_bounds.0 c.requires.of_book _ c.both_marks.ensures (omega (arith, c.requires.in_bounds.2, c.args.self.now.sized.0))) c.bucket-h.ensures.0 c.bucket-h.ensures.1 (omega (arith, c.requires.in_bounds.2, c.args.self.now.sized.1)))

pub put_record-requires-then-held-expiry : goal.put_record-requires-then-held-expiry
put_record-requires-then-held-expiry g c = (c.requires.in_bounds.0, omega (arith, c.requires.in_bounds.1, (c.seek.ensures.some _ c.in-Some.is).0))

pub returns-then-held-expiry : goal.returns-then-held-expiry
returns-then-held-expiry g c = kept-takes _ _ _ _ _ _ _ c.requires.holds _ _ _ _ c.requires.shows c.requires.in_bounds.0 c.requires.of_book _ c.both_marks.ensures (omega (arith, c.requires.in_bounds.2, c.args.self.now.sized.0)) _ c.seek.ensures _ c.in-Some.is c.if-held-expiry.true c.requires.in_bounds.1 _ c.put_record-then-held-expiry.ensures

pub returns-else-held-expiry : goal.returns-else-held-expiry
returns-else-held-expiry g c = kept-stays _ _ _ _ _ _ _ c.requires.holds _ _ _ _ c.requires.shows c.requires.in_bounds.0 c.requires.of_book _ c.both_marks.ensures (omega (arith, c.requires.in_bounds.2, c.args.self.now.sized.0)) _ c.seek.ensures _ c.in-Some.is c.if-held-expiry.false
