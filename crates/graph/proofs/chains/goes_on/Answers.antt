-- Not from the goal, and from where the reached has come.
use mathlib.Core.Path.{ap}
use mathlib.Core.Bool.{not}
use Rattle.std.proofs.Common.{rules}
use Rattle.spec.specs.declared.Vertex.TheVariants.{AS}
use Rattle.graph.specs.RecordWalk.{goes_on}
use Rattle.graph.proofs.RecordWalkTurns.{fails, passes}
use Rattle.graph.proofs.VertexTests.{vertex_eq}
use Rattle.graph.proofs.chains.goes_on.Goals as goal

pub returns-then-eq : goal.returns-then-eq
unfolding goes_on
returns-then-eq c = fails _ (ap not (vertex_eq c.args.reached.at (AS c.args.dst) {u = c.eq.result} (search rules) (search rules))) (ap not c.if-eq.true)

pub returns : goal.returns
unfolding goes_on
returns c =
    passes (ap not (vertex_eq c.args.reached.at (AS c.args.dst) {u = c.eq.result} (search rules) (search rules))) (ap not c.if-eq.false)
    (vertex_eq c.args.e.src c.args.reached.at {u = c.eq-2.result} (search rules) (search rules))
