-- The loop: what is pushed so far, and what the positions from k on give.
use native.Mathlib.Omega.{arith}
use mathlib.Core.Path.{refl, ap}
use lib.ListN.{length}
use Rattle.graph.proofs.PushedTurns.{going-begin, going_end, going-full, turn-push, turn-pass}
use Rattle.graph.proofs.SearchTurns.{over-start, start_first, start-core}
use Rattle.graph.proofs.SearchLaws.{over-turn, over_skip, over-end}
use Rattle.graph.proofs.search.Searching.across.Goals as goal
use Rattle.graph.proofs.search.Searching.across.Goals.{then-self-from, else-self-from}

pub loop-k-init : goal.loop-k-init
loop-k-init c = (refl, going-begin (omega arith) (over-start _ _ _))

pub returns-then-self-n : goal.returns-then-self-n
returns-then-self-n c = going-full c.loop-k.invariant.1 (omega arith)

pub loop-k-preserved : goal.loop-k-preserved
loop-k-preserved c =
    let p = c.args.self.now.prepared in
    let l = c.loop-k in (
      elim c.if-self-from.branch [ then-self-from w ↦ omega (arith, ap length w.out-is) | else-self-from w ↦ omega (arith, ap length w.out-is) ],
      elim c.if-self-from.branch [
        | then-self-from w ↦
            turn-push l.invariant.1 (over-turn _ _ _ _ (omega arith) (start_first _ _ _ (p.planned.begin l.k (omega arith) (omega arith)) (rw c.from.ensures at w.if-self-from.true)))
            w.across_in-n.ensures w.n-is w.out-is
        | else-self-from w ↦
            turn-pass l.invariant.1 (over_skip _ _ _ _ (omega arith) (λ t. start-core _ _ _ (p.planned.begin l.k (omega arith) (omega arith)) (omega arith) (rw c.from.ensures at w.if-self-from.false) t)) w.n-is w.out-is
      ],
    )

pub returns : goal.returns
returns c = going_end c.loop-k.invariant.1 (over-end _ _ _ _ (omega arith))
