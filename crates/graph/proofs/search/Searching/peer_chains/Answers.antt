-- The loop: what is pushed so far, and what the peers from p on give.
use native.Mathlib.Omega.{arith}
use mathlib.Core.Path.{refl}
use Rattle.graph.proofs.PushedTurns.{going-begin, going-push, going_end, going-full}
use Rattle.graph.proofs.SearchTurns.{each_start, each-found, each-end}
use Rattle.graph.proofs.search.Searching.peer_chains.Goals as goal

pub loop-p-init : goal.loop-p-init
loop-p-init c =
    let p = c.requires in
    (refl, c.peer_count-count.ensures, going-begin (omega arith) (each_start _ _ _ _ c.peer_count-count.ensures))

pub returns-then-self-n : goal.returns-then-self-n
returns-then-self-n c = going-full c.loop-p.invariant.2 (omega arith)

pub loop-p-preserved : goal.loop-p-preserved
loop-p-preserved c =
    let l = c.loop-p in
    (omega arith, l.invariant.1, going-push l.invariant.2 (each-found _ _ _ _ _ (omega arith) c.peer_up-found.ensures) c.chains_of-n.ensures)

pub returns : goal.returns
returns c = going_end c.loop-p.invariant.2 (each-end _ _ _ _ (omega arith))
