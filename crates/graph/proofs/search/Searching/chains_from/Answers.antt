-- The edge arrives, or second edges are looked for: after a core edge or a link only in non-core segments.
use Rattle.std.proofs.Common.{rules}
use Rattle.spec.specs.declared.Vertex.TheVariants.{AS}
use native.Mathlib.Omega.{arith}
use mathlib.Core.Path.{refl}
use mathlib.Core.Logic.{inl, inr}
use Rattle.graph.proofs.PushedTurns.{pushes-as, pushes-both}
use Rattle.graph.proofs.SearchTurns.{chains-arrived, chains-core, chains-link, chains-other}
use Rattle.graph.proofs.VertexTests.{vertex_eq}
use Rattle.graph.proofs.search.Searching.chains_from.Goals as goal

pub returns-then-eq : goal.returns-then-eq
returns-then-eq c = pushes-as c.push_one.ensures (chains-arrived _ _ _ _ (vertex_eq c.args.e.dst (AS c.args.self.now.q.dst) {u = c.eq.result} (search rules) (search rules)) c.if-eq.true)

pub last_edges-requires : goal.last_edges-requires
last_edges-requires c = let p = c.requires in record { fact = inl refl; room = p.room }

pub returns-in_default : goal.returns-in_default
returns-in_default c = let p = c.args.self.now.prepared in
    pushes-as c.last_edges.ensures (chains-link _ _ _ _ _ _ p.cores p.count p.within (vertex_eq c.args.e.dst (AS c.args.self.now.q.dst) {u = c.eq.result} (search rules) (search rules)) c.if-eq.false c.in_default.is)

pub last_edges-requires-then-e : goal.last_edges-requires-then-e
last_edges-requires-then-e c = let p = c.requires in record { fact = inr c.in-AS.is; room = p.room }

pub returns-then-e : goal.returns-then-e
returns-then-e c = let p = c.args.self.now.prepared in
    pushes-as c.last_edges-then-e.ensures (chains-core _ _ _ _ _ _ p.cores p.count p.within (vertex_eq c.args.e.dst (AS c.args.self.now.q.dst) {u = c.eq.result} (search rules) (search rules)) c.if-eq.false c.if-e.true)

pub last_edges-requires-2 : goal.last_edges-requires-2
last_edges-requires-2 c = let p = c.requires in record { fact = inr c.in-AS.is; room = record { room = omega arith; most = omega arith } }

pub returns : goal.returns
returns c = let p = c.args.self.now.prepared in
    pushes-both c.across-m.ensures c.last_edges-2.ensures (omega arith)
    (chains-other _ _ _ _ _ _ p.cores p.count p.within (vertex_eq c.args.e.dst (AS c.args.self.now.q.dst) {u = c.eq.result} (search rules) (search rules)) c.if-eq.false)
