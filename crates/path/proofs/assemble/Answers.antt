-- `assemble` meets its contract.
use mathlib.Core.Path.{sym}
use Rattle.path.proofs.Answering.{zeroed-refusal, kept-answer}
use Rattle.path.proofs.assemble.Goals as goal

pub returns-then-is_err : goal.returns-then-is_err
returns-then-is_err c = zeroed-refusal _ _ _ (sym c.if-is_err.ensures.value) _ c.zero.ensures c.assembled-answer.ensures

pub returns-else-is_err : goal.returns-else-is_err
returns-else-is_err c = kept-answer _ _ _ (sym c.if-is_err.ensures.value) c.assembled-answer.ensures
