-- `are_wrong_lengths` meets its contract.
use borrow.Author.Tests.{lt-ltb, le-ltb, eq-eqb, ne_eqb}
use mathlib.Core.Path.{◌∙◌}
use Rattle.spec.specs.Wire.{wrong_lengths}
use Rattle.wire.proofs.Testing.{this, later, gap_of, no-gap-of}
use Rattle.wire.proofs.accept.are_wrong_lengths.Goals as goal

pub returns-then-first-eq0 : goal.returns-then-first-eq0
unfolding wrong_lengths
returns-then-first-eq0 c = this _ (eq-eqb _ _ c.if-first-eq0.true)

pub returns-then-first-gt-ENTRIES : goal.returns-then-first-gt-ENTRIES
unfolding wrong_lengths
returns-then-first-gt-ENTRIES c = later (ne_eqb _ _ c.if-first-eq0.false) (this _ (lt-ltb _ _ c.if-first-gt-ENTRIES.true))

pub returns-then-second-gt-ENTRIES : goal.returns-then-second-gt-ENTRIES
unfolding wrong_lengths
returns-then-second-gt-ENTRIES c = later (ne_eqb _ _ c.if-first-eq0.false) (later (le-ltb _ _ c.if-first-gt-ENTRIES.false) (this _ (lt-ltb _ _ c.if-second-gt-ENTRIES.true)))

pub returns-then-third-gt-ENTRIES : goal.returns-then-third-gt-ENTRIES
unfolding wrong_lengths
returns-then-third-gt-ENTRIES c = later (ne_eqb _ _ c.if-first-eq0.false) (later (le-ltb _ _ c.if-first-gt-ENTRIES.false) (later (le-ltb _ _ c.if-second-gt-ENTRIES.false) (this _ (lt-ltb _ _ c.if-third-gt-ENTRIES.true))))

pub returns-then-second-eq0 : goal.returns-then-second-eq0
unfolding wrong_lengths
returns-then-second-eq0 c = later (ne_eqb _ _ c.if-first-eq0.false) (later (le-ltb _ _ c.if-first-gt-ENTRIES.false) (later (le-ltb _ _ c.if-second-gt-ENTRIES.false) (later (le-ltb _ _ c.if-third-gt-ENTRIES.false) (gap_of c.args.second c.args.third c.if-second-eq0.true))))

pub returns-else-second-eq0 : goal.returns-else-second-eq0
unfolding wrong_lengths
returns-else-second-eq0 c = ne_eqb _ _ c.if-second-eq0.false ∙ later (ne_eqb _ _ c.if-first-eq0.false) (later (le-ltb _ _ c.if-first-gt-ENTRIES.false) (later (le-ltb _ _ c.if-second-gt-ENTRIES.false) (later (le-ltb _ _ c.if-third-gt-ENTRIES.false) (no-gap-of c.args.second c.args.third c.if-second-eq0.false))))
