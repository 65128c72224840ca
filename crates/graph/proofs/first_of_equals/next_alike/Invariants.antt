-- The loop: no equal stands below j.
use Rattle.graph.specs.FirstOfEquals.{NoneBelow}
use Rattle.graph.proofs.first_of_equals.next_alike.Given as goal

abbrev pub invariant-loop-j : goal.invariant-loop-j
invariant-loop-j l = NoneBelow l.opened.book.now l.end l.j
