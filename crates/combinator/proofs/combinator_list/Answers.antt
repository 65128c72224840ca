-- `combinator_list` meets its contract.
use native.Mathlib.Omega.{arith}
use Rattle.combinator.proofs.Returning.{list-low, list-number}
use Rattle.combinator.proofs.combinator_list.Goals as goal

pub counted-requires : goal.counted-requires
counted-requires c = list-low _ _ _ _ _ _ c.list.ensures

pub returns : goal.returns
returns c = list-number _ _ _ _ _ _ c.list.ensures _ (search (arith, c.counted.ensures))
