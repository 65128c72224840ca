-- `combinator_routes` meets its contract.
use native.Mathlib.Omega.{arith}
use Rattle.combinator.proofs.Returning.{routes-low, routes-number}
use Rattle.combinator.proofs.combinator_routes.Goals as goal

pub counted-requires : goal.counted-requires
counted-requires c = routes-low _ _ _ _ _ _ c.routes.ensures

pub returns : goal.returns
returns c = routes-number _ _ _ _ _ _ c.routes.ensures _ (search (arith, c.counted.ensures))
