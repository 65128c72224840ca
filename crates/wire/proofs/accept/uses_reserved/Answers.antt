-- `uses_reserved` meets its contract.
use mathlib.Core.Path.{◌∙◌}
use borrow.Author.Tests.{lt-ltb}
use Rattle.wire.proofs.Testing.{reserved-flags, reserved-byte}
use Rattle.wire.proofs.accept.uses_reserved.Goals as goal

pub returns-then-wire-at-gt3 : goal.returns-then-wire-at-gt3
returns-then-wire-at-gt3 c = lt-ltb _ _ c.if-wire-at-gt3.true ∙ reserved-flags _ _ c.if-wire-at-gt3.true

pub returns-else-wire-at-gt3 : goal.returns-else-wire-at-gt3
returns-else-wire-at-gt3 c = reserved-byte _ _ c.if-wire-at-gt3.false
