-- `is_chain` meets its contract. The loop's invariant: the answer is that from edge x on, from where the edges before it have come.
use mathlib.Core.Path.{◌≡◌}
use Rattle.graph.specs.RecordWalk.{Bounded, completed}
use Rattle.graph.proofs.chains.is_chain.Given as goal

abbrev pub invariant-loop-x : goal.invariant-loop-x
invariant-loop-x l = Bounded l.x l.reached × (completed l.opened.book.now l.dst l.given l.count l.initial.reached 0 ≡ completed l.opened.book.now l.dst l.given l.count l.reached l.x)
