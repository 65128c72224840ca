-- `same_parts` meets its contract.
use mathlib.Core.Path.{◌∙◌}
use Rattle.equal.proofs.Sameness.{parts-same}
use Rattle.equal.proofs.same_parts.Goals as goal

pub returns : goal.returns
returns c = c.eq.ensures ∙ parts-same _ _ _ _ _ _ _ _ _ c.min-p.ensures c.min-u.ensures c.min-q.ensures c.min-v.ensures
