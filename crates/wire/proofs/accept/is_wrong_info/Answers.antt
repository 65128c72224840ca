-- `is_wrong_info` meets its contract.
use mathlib.Core.Path.{◌∙◌}
use borrow.Author.Tests.{eq-eqb}
use Rattle.wire.proofs.Testing.{wrong-flags, wrong-many, wrong-none}
use Rattle.wire.proofs.accept.is_wrong_info.Goals as goal

pub returns-then-path-at-gt3 : goal.returns-then-path-at-gt3
returns-then-path-at-gt3 c = wrong-flags _ _ c.if-path-at-gt3.true

pub returns-then-hops-eq0 : goal.returns-then-hops-eq0
returns-then-hops-eq0 c = eq-eqb _ _ c.if-hops-eq0.true ∙ wrong-none _ _ _ c.if-path-at-gt3.false c.from-hops.ensures c.if-hops-eq0.true

pub returns-else-hops-eq0 : goal.returns-else-hops-eq0
returns-else-hops-eq0 c = wrong-many _ _ _ c.if-path-at-gt3.false c.from-hops.ensures c.if-hops-eq0.false
