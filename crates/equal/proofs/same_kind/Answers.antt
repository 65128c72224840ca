-- `same_kind` meets its contract.
use mathlib.Core.Path.{ap₂, ◌∙◌}
use mathlib.Core.Bool.{beq}
use lib.Dec.{ltb}
use Rattle.segment.proofs.Fields.{cores-read}
use Rattle.equal.proofs.Sameness.{bools-same}
use Rattle.equal.proofs.same_kind.Goals as goal

pub returns : goal.returns
returns c =
    let e = cores-read _ c.sizes-cores.ensures in
    ap₂ beq (ap₂ ltb c.from.ensures e) (ap₂ ltb c.from-2.ensures e) ∙ bools-same _ _
