-- `write` meets its contract.
use mathlib.Core.Path.{sym, ◌∙◌}
use Rattle.spec.specs.Wire.{writing}
use Rattle.wire.proofs.Taking.{taken, refused-answer, count-answer}
use Rattle.wire.proofs.Carrying.{wire-most}
use Rattle.wire.proofs.write.Goals as goal

pub returns-in-Err : goal.returns-in-Err
unfolding writing
returns-in-Err c = refused-answer _ _ _ _ _ _ (sym c.test_record.ensures ∙ c.in-Err.is) c.zero.ensures

pub invariant_of-put : goal.invariant_of-put
invariant_of-put c = record { bytes = λ i. (c.type_inv.path i).fits; taken = (taken _ _ _ (sym c.test_record.ensures ∙ c.in_default.is)).1 }

pub put-end-requires : goal.put-end-requires
put-end-requires c = (taken _ _ _ (sym c.test_record.ensures ∙ c.in_default.is)).0

pub returns : goal.returns
unfolding writing
returns c = count-answer _ _ _ _ _ (sym c.test_record.ensures ∙ c.in_default.is) _ _ (wire-most _ (λ i. (c.type_inv.path i).fits) (taken _ _ _ (sym c.test_record.ensures ∙ c.in_default.is)).1) c.put-end.ensures.0 c.put-end.ensures.1 c.zero-2.ensures
