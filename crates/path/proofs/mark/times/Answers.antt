-- `times` meets its contract.
use native.Mathlib.Omega.{arith}
use mathlib.Core.Path.{refl}
use Rattle.path.proofs.Weighing.{product-most}
use Rattle.path.proofs.mark.times.Goals as goal

pub overflow_mul-result : goal.overflow_mul-result
overflow_mul-result c = rw c.from.ensures (omega (arith, product-most c.args.x c.args.key c.ranges.key.fits))

pub returns : goal.returns
returns c = rw c.from.ensures (refl, product-most _ _ c.ranges.key.fits)
