-- `combinator_write` meets its contract.
use native.Mathlib.Omega.{arith}
use Rattle.spec.proofs.WireLaws.{reversible}
use Rattle.combinator.specs.Exports.{write_returned}
use Rattle.combinator.proofs.Returning.{wire-low, wire-number}
use Rattle.combinator.proofs.combinator_write.Goals as goal

pub counted-requires : goal.counted-requires
counted-requires c = wire-low _ _ _ c.write.ensures (λ n q. omega (arith, ((reversible _ (λ i. (c.type_inv.path i).fits)).wire-count n _ q).1))

pub returns : goal.returns
unfolding write_returned
returns c = wire-number _ _ _ c.write.ensures _ (search (arith, c.counted.ensures))
