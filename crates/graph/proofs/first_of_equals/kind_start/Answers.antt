-- `kind_start` meets its contract.
use native.Mathlib.Omega.{arith}
use mathlib.Core.Path.{◌∙◌}
use Rattle.segment.proofs.Fields.{cores-read}
use Rattle.graph.proofs.FirstOfEqualsLaws.{none-start, kinds-differ}
use Rattle.graph.proofs.first_of_equals.kind_start.Goals as goal

pub returns-then-from-cores : goal.returns-then-from-cores
returns-then-from-cores c = none-start

pub returns : goal.returns
returns c = kinds-differ _ _ _ (c.from-cores.ensures ∙ cores-read _ c.sizes.ensures) (omega (arith, c.from.ensures))
