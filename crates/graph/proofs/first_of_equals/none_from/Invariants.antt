-- The loop: no equal stands below j.
use Prim.Native.Nat.{◌-◌}
use Rattle.graph.specs.FirstOfEquals.{NoneBelow}
use Rattle.graph.proofs.first_of_equals.none_from.Given as goal

abbrev pub invariant-loop-j : goal.invariant-loop-j
invariant-loop-j l = NoneBelow l.opened.book.now l.k l.j

abbrev pub decreases-loop-j : goal.decreases-loop-j
decreases-loop-j l = l.end - l.j
