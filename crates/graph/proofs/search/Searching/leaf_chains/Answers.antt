-- The loop: what is pushed so far, and what the entries from i on give.
use native.Mathlib.Omega.{arith}
use mathlib.Core.Path.{refl}
use Rattle.graph.proofs.PushedTurns.{going-begin, going-push, going_end, going-full}
use Rattle.graph.proofs.SearchTurns.{each_start, ups-turn, each-end}
use Rattle.graph.proofs.search.Searching.leaf_chains.Goals as goal

pub loop-i-init : goal.loop-i-init
loop-i-init c = (refl, going-begin (omega arith) (each_start _ _ _ _ refl))

pub returns-then-self-n : goal.returns-then-self-n
returns-then-self-n c = going-full c.loop-i.invariant.1 (omega arith)

pub loop-i-preserved : goal.loop-i-preserved
loop-i-preserved c =
    let l = c.loop-i in
    (omega arith, going-push (going-push l.invariant.1 (ups-turn _ _ _ _ _ (omega arith) c.as_up-found.ensures) c.chains_of-n.ensures) refl c.peer_chains-n.ensures)

pub returns : goal.returns
returns c = going_end c.loop-i.invariant.1 (each-end _ _ _ _ (omega arith))
