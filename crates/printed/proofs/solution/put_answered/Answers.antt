-- `put_answered` meets its contract.
use mathlib.Core.Path.{ap, ◌∙◌}
use Rattle.std.specs.Prelude.{Ok}
use Rattle.spec.specs.Printed.{ascii, newline}
use Rattle.printed.proofs.Solutions.{wrote-path, wrote-loop, wrote-bare, wrote-refused}
use Rattle.printed.proofs.solution.put_answered.Goals as goal

pub returns-in-Path : goal.returns-in-Path
returns-in-Path c = wrote-path _ _ _ _ (c.in-Ok.is ∙ ap Ok c.in-Path.is) c.put_start-at.ensures.0 c.put_path.ensures

pub returns-in-Loop : goal.returns-in-Loop
unfolding ascii newline
returns-in-Loop c = wrote-loop _ _ _ _ (c.in-Ok.is ∙ ap Ok c.in-Loop.is) c.put_start-at.ensures.0 c.put_word.ensures

pub returns-in-Bare : goal.returns-in-Bare
unfolding ascii newline
returns-in-Bare c = wrote-bare _ _ _ _ (c.in-Ok.is ∙ ap Ok c.in-Bare.is) c.put_start-at.ensures.0 c.put_word-in-Bare.ensures

pub returns-in_default : goal.returns-in_default
returns-in_default c = wrote-refused _ _ _ _ _ _ c.in_default.is
