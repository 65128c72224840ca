-- `weigh` meets its contract.
use native.Mathlib.Omega.{arith}
use Rattle.path.proofs.Weighing.{two-fit, three-fit, four-fit, weighed-is}
use Rattle.path.proofs.mark.weigh.Goals as goal

pub overflow_add-result : goal.overflow_add-result
overflow_add-result c = record { fits = two-fit _ c.ranges.local.fits c.times-isd.ensures.1 c.times-high.ensures.1 }

pub overflow_add-result-2 : goal.overflow_add-result-2
overflow_add-result-2 c = record { fits = three-fit _ c.ranges.local.fits c.times-isd.ensures.1 c.times-high.ensures.1 c.times-low.ensures.1 }

pub overflow_add-result-3 : goal.overflow_add-result-3
overflow_add-result-3 c =
    record { fits = four-fit _ c.ranges.local.fits c.times-isd.ensures.1 c.times-high.ensures.1 c.times-low.ensures.1 (omega (arith, c.from.ensures, c.ranges.id.fits)) c.times-id.ensures.1 }

pub returns : goal.returns
returns c = weighed-is _ _ _ c.times-isd.ensures.0 c.times-high.ensures.0 c.times-low.ensures.0 c.from.ensures c.times-id.ensures.0
