-- `keep_all` meets its contract. The invariant of its loop: the front holds the routes of the first k records.
use Prim.Native.Nat.{◌≤◌}
use mathlib.Core.Path.{◌≡◌}
use lib.ListN.{length}
use Rattle.path.proofs.Keeping.{Turned}
use Rattle.path.proofs.route_list.keep_all.Given as goal

abbrev pub invariant-loop-k : goal.invariant-loop-k
invariant-loop-k g l =
    let t = l.buckets in
    Turned l.opened.book.now l.initial.out l.keys l.n l.out t.marks t.next t.heads t.kept l.k × (t.kept ≤ l.k) × (length l.out ≡ length l.initial.out)
