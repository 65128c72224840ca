-- The second edge arrives, or third edges are looked for.
use Rattle.std.proofs.Common.{rules}
use Rattle.spec.specs.declared.Vertex.TheVariants.{AS}
use mathlib.Core.Logic.{inr}
use Rattle.graph.proofs.PushedTurns.{pushes-as}
use Rattle.graph.proofs.SearchTurns.{no-link-end, across-arrived, across-onward}
use Rattle.graph.proofs.VertexTests.{vertex_eq}
use Rattle.graph.proofs.search.Searching.across_with.Goals as goal

pub returns-then-eq : goal.returns-then-eq
returns-then-eq c = pushes-as c.push_two.ensures (across-arrived _ _ _ _ _ (vertex_eq c.args.f.dst (AS c.args.self.now.q.dst) {u = c.eq.result} (search rules) (search rules)) c.if-eq.true)

pub returns-in_default : goal.returns-in_default
returns-in_default c = no-link-end _ c.requires.f_value c.in_default.is

pub last_edges-requires : goal.last_edges-requires
last_edges-requires c = record { fact = inr c.in-AS.is; room = c.requires.room }

pub returns : goal.returns
returns c = let p = c.args.self.now.prepared in
    pushes-as c.last_edges.ensures (across-onward _ _ _ _ _ _ _ p.cores p.count p.within (vertex_eq c.args.f.dst (AS c.args.self.now.q.dst) {u = c.eq.result} (search rules) (search rules)) c.if-eq.false)
