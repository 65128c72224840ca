-- The goal, the kinds, the record.
use Rattle.std.proofs.Common.{rules}
use mathlib.Core.Bool.{not}
use Rattle.spec.specs.declared.Vertex.TheVariants.{AS}
use mathlib.Core.Path.{ap, ◌∙◌}
use Rattle.spec.specs.Basics.{same_list}
use Rattle.records.specs.Octets.{record_octets}
use Rattle.graph.specs.RecordWalk.{has_arrived}
use Rattle.graph.proofs.RecordWalkTurns.{fails, passes}
use Rattle.graph.proofs.VertexTests.{vertex_ne}
use Rattle.graph.proofs.chains.arrives.Goals as goal

pub returns-then-ne : goal.returns-then-ne
unfolding has_arrived
returns-then-ne c = fails _ (vertex_ne c.args.reached.at (AS c.args.dst) {u = c.ne.result} (search rules) (search rules)) (ap not c.if-ne.true)

pub returns-then-not-kinds_allowed : goal.returns-then-not-kinds_allowed
unfolding has_arrived
returns-then-not-kinds_allowed c = passes (vertex_ne c.args.reached.at (AS c.args.dst) {u = c.ne.result} (search rules) (search rules)) (ap not c.if-ne.false) (fails _ c.kinds_allowed.ensures c.if-not-kinds_allowed.true)

pub own_solution-requires : goal.own_solution-requires
own_solution-requires c = c.requires.count_le_max_edges

pub same_record-requires : goal.same_record-requires
same_record-requires c = c.requires.given_len

pub returns : goal.returns
unfolding has_arrived
returns c =
    passes (vertex_ne c.args.reached.at (AS c.args.dst) {u = c.ne.result} (search rules) (search rules)) (ap not c.if-ne.false)
    (passes c.kinds_allowed.ensures c.if-not-kinds_allowed.false
    (c.same_record.ensures ∙ ap (λ s. same_list c.args.given.now (record_octets s)) c.own_solution.ensures))
