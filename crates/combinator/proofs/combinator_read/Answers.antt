-- `combinator_read` meets its contract.
use native.Mathlib.Omega.{arith}
use Rattle.spec.proofs.WireLaws.{reversible}
use Rattle.combinator.specs.Exports.{read_returned}
use Rattle.combinator.proofs.Returning.{wire-low, wire-number}
use Rattle.combinator.proofs.combinator_read.Goals as goal

pub counted-requires : goal.counted-requires
counted-requires c = wire-low _ _ _ c.read.ensures (λ n q. omega (arith, ((reversible _ (λ i. (c.type_inv.wire i).fits)).record-count n _ q).1))

pub returns : goal.returns
unfolding read_returned
returns c = wire-number _ _ _ c.read.ensures _ (search (arith, c.counted.ensures))
