-- `find_as` meets its contract. The loop's invariant: no entry below i has the AS.
use native.Mathlib.Omega.{arith}
use mathlib.Core.Path.{◌≡◌, ◌∙◌}
use Rattle.graph.specs.Leaving.{entry_with}
use Rattle.graph.proofs.LookupScan.{scan-start, scan-stop, scan-turn, scan-end}
use Rattle.graph.proofs.OpenedReads.{entry-test}
use Rattle.graph.proofs.VertexTests.{as_eq}
use Rattle.graph.proofs.opened.Opened.find_as.Goals as goal

pub loop-i-init : goal.loop-i-init
loop-i-init c = scan-start _ _

pub returns-then-eq : goal.returns-then-eq
unfolding entry_with
returns-then-eq c =
    (scan-stop _ _ _ c.loop-i.invariant (omega arith) (entry-test _ _ _ c.as_at.ensures (as_eq _ _ c.eq.ensures) c.if-eq.true), c.loop-i-test.true)

pub loop-i-preserved : goal.loop-i-preserved
loop-i-preserved c =
    scan-turn _ _ _ c.loop-i.invariant (omega arith) (entry-test _ _ _ c.as_at.ensures (as_eq _ _ c.eq.ensures) c.if-eq.false)

pub returns : goal.returns
unfolding entry_with
returns c = let e : c.args.n ≡ c.loop-i.i = omega arith in e ∙ scan-end _ _ _ c.loop-i.invariant (omega arith)
