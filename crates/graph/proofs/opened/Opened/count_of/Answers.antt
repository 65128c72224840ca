-- `count_of` meets its contract.
use native.Mathlib.Omega.{arith}
use Rattle.graph.proofs.OpenedReads.{count-place, count_low_lem, count_most}
use Rattle.graph.proofs.opened.Opened.count_of.Goals as goal

pub bounds-self-from : goal.bounds-self-from
bounds-self-from c = omega (arith, count-place _ c.args.self.now.ready.ok _ c.requires, c.from.ensures)

pub returns : goal.returns
returns c =
    let a = c.args.self.now.ready.ok in
    rw c.from.ensures (count_low_lem _ a _ c.requires, omega (arith, count_low_lem _ a _ c.requires, count_most _ a _ c.requires))
