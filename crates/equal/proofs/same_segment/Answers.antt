-- `same_segment` meets its contract.
use mathlib.Core.Path.{sym, ◌∙◌}
use Rattle.equal.proofs.Sameness.{other-id}
use Rattle.equal.proofs.same_segment.Goals as goal

pub returns-then-id : goal.returns-then-id
returns-then-id c = sym (other-id _ _ _ c.id.ensures c.id-2.ensures c.if-id.true)

pub same_rest-requires : goal.same_rest-requires
same_rest-requires c = sym c.id.ensures ∙ c.if-id.false ∙ c.id-2.ensures
