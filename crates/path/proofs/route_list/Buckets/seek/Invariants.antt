-- `seek` meets its contract. The invariant of its loop: no slot from `at` on holds the route.
use lib.ListN.{length}
use Rattle.path.specs.Slots.{shown_in}
use Rattle.path.proofs.Seeking.{Passed}
use Rattle.path.proofs.route_list.Buckets.seek.Given as goal

abbrev pub invariant-loop-at : goal.invariant-loop-at
invariant-loop-at g l = Passed l.opened.book.now (shown_in l.route.ases.now l.route.ids.now l.route.count) l.out l.self.marks l.self.kept (length l.self.heads) l.at

abbrev pub decreases-loop-at : goal.decreases-loop-at
decreases-loop-at g l = l.at
