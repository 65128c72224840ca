-- `combinator_assemble` meets its contract.
use mathlib.Core.Path.{refl, ap, ◌∙◌}
use Prim.Native.Nat.{◌+◌}
use Rattle.std.specs.Prelude.{Ok}
use Rattle.spec.specs.Answers.{refusals}
use Rattle.combinator.proofs.Returning.{path-number}
use Rattle.combinator.proofs.combinator_assemble.Goals as goal

pub returns-in-Ok-Path : goal.returns-in-Ok-Path
returns-in-Ok-Path c = path-number _ _ _ _ _ _ _ c.assemble.ensures _ _ (c.in-Ok-Path.is ∙ ap Ok c.in-Ok-Path.field-0-is) refl

pub returns-in-Ok-Loop : goal.returns-in-Ok-Loop
returns-in-Ok-Loop c = path-number _ _ _ _ _ _ _ c.assemble.ensures _ _ (c.in-Ok-Loop.is ∙ ap Ok c.in-Ok-Loop.field-0-is) refl

pub returns-in-Ok-Bare : goal.returns-in-Ok-Bare
returns-in-Ok-Bare c = path-number _ _ _ _ _ _ _ c.assemble.ensures _ _ (c.in-Ok-Bare.is ∙ ap Ok c.in-Ok-Bare.field-0-is) refl

pub returns-in-Err : goal.returns-in-Err
returns-in-Err c = path-number _ _ _ _ _ _ _ c.assemble.ensures _ _ c.in-Err.is (ap (λ n. refusals + n) c.number.ensures.0)
