-- `glyph` meets its contract.
use native.Mathlib.Omega.{arith}
use Rattle.printed.proofs.Numbers.{glyph-low, glyph-high}
use Rattle.printed.proofs.text.glyph.Goals as goal

pub returns-then-d-lt10 : goal.returns-then-d-lt10
returns-then-d-lt10 c = glyph-low _ c.if-d-lt10.true

pub returns : goal.returns
returns c = omega (arith, glyph-high c.args.d c.if-d-lt10.false)
