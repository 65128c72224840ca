-- Found where an entry below the leaf has the AS.
use native.Mathlib.Omega.{arith}
use Rattle.graph.proofs.EdgeFoundLaws.{as-none, as-joined}
use Rattle.graph.proofs.edges.as_edge_found.Goals as goal

pub returns-in_err-i : goal.returns-in_err-i
returns-in_err-i c =
    λ v w p. as-none c.args.opened.now.book.now c.args.k c.requires.k_value c.requires.filled.count c.args.a (rw c.in_err-i.was at c.find_as.ensures) (omega arith) _ c.from_residual.ensures v w

pub returns : goal.returns
returns c =
    let f = rw c.in_ok-i.was at c.find_as.ensures in
    as-joined c.args.opened.now.book.now c.args.k c.requires.k_value c.requires.filled.count c.args.a f.0 f.1 c.args.construction
