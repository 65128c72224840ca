-- Found where the entry of the link's AS has a peer with the link.
use mathlib.Core.Path.{refl}
use native.Mathlib.Omega.{arith}
use Rattle.graph.proofs.EdgeFoundLaws.{link-joined, link-missing, link-none}
use Rattle.graph.proofs.edges.link_edge_found.Goals as goal

pub returns-in_err-i : goal.returns-in_err-i
returns-in_err-i c =
    λ v w p. link-none c.args.opened.now.book.now c.args.k c.requires.k_value c.requires.filled.count c.args.link (rw c.in_err-i.was at c.find_as.ensures) _ (omega arith) c.from_residual.ensures v w

pub returns-then-q-eq0 : goal.returns-then-q-eq0
returns-then-q-eq0 c =
    let f = rw c.in_ok-i.was at c.find_as.ensures in
    λ v w p. link-missing c.args.opened.now.book.now c.args.k c.requires.k_value c.requires.filled.count c.args.link f.0 c.find_peer-q.ensures (omega arith) _ refl v w

pub returns : goal.returns
returns c =
    let f = rw c.in_ok-i.was at c.find_as.ensures in
    link-joined c.args.opened.now.book.now c.args.k c.requires.k_value c.requires.filled.count c.args.link f.0 f.1 c.find_peer-q.ensures (omega arith)
