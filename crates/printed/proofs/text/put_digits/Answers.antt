-- `put_digits` meets its contract. The invariant of its loop: the digits that are left, written before those that stand, are all.
use Prim.Native.Nat.{◌+◌, ◌-◌, ◌/◌}
use native.Mathlib.Nat.{mod-lt}
use mathlib.Core.List.{[], ◌∷◌}
use native.Mathlib.Omega.{arith}
use mathlib.Core.Path.{refl, sym, ap, ◌∙◌}
use Rattle.output.specs.Write.{written}
use Rattle.printed.specs.Digits.{digits}
use Rattle.printed.proofs.Numbers.{digits-turn, digits-none}
use Rattle.printed.proofs.text.put_digits.Goals as goal

pub loop-i-init : goal.loop-i-init
loop-i-init c = (refl, omega arith, refl)

pub glyph-requires : goal.glyph-requires
glyph-requires c = omega (arith, mod-lt c.loop-i.rest c.requires.base_nonzero.0)

pub loop-i-preserved : goal.loop-i-preserved
loop-i-preserved c = (
  ap (λ l. written l c.args.at (digits c.args.base (c.loop-i.i - 1) (c.loop-i.rest / c.args.base)))
      (c.put_byte.ensures ∙ ap (λ x. written c.loop-i.out (c.args.at + (c.loop-i.i - 1)) (x ∷ [])) c.glyph.ensures)
      ∙ digits-turn c.loop-i.out c.args.at c.args.base c.loop-i.i c.loop-i.rest c.loop-i-test.true
      ∙ c.loop-i.invariant.0,
  omega arith,
  omega arith,
)

pub shape_of-out : goal.shape_of-out
shape_of-out c = c.loop-i.invariant.2

pub returns : goal.returns
returns c = sym (digits-none _ _ _ _ _ c.loop-i-test.false) ∙ c.loop-i.invariant.0
