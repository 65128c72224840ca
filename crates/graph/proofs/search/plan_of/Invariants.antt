-- The loop: the positions from k on are planned.
use Prim.Native.Nat.{◌+◌, ◌-◌, ◌≤◌}
use mathlib.Core.Path.{◌≡◌}
use lib.ListN.{length}
use Rattle.spec.specs.Limits.{max_segments}
use Rattle.graph.specs.Scan.{first_with}
use Rattle.graph.specs.Prepared.{arrives, Planned}
use Rattle.graph.proofs.search.plan_of.Given as goal

abbrev pub invariant-loop-k : goal.invariant-loop-k
invariant-loop-k l = (l.k ≤ l.count) × (length l.begins ≡ max_segments) × (length l.nexts ≡ max_segments + 1) × (l.next ≡ first_with (arrives l.opened.book.now l.q.dst) l.k (l.count - l.k)) × Planned l.opened.book.now l.q.src l.q.dst l.count l.k l.begins l.nexts

abbrev pub decreases-loop-k : goal.decreases-loop-k
decreases-loop-k l = l.k
