-- `output::put16` meets its contract.
use mathlib.Core.Path.{ap, ◌∙◌}
use Rattle.std.proofs.Common.{rules}
use Rattle.std.specs.Int.{w16, to_be_bytes}
use Rattle.output.proofs.Copied.{put2}
use Rattle.output.proofs.put16.Goals as goal

pub returns : goal.returns
returns c = put2 _ _ _ _ _ c.put_bytes.ensures (c.to_be_bytes.ensures ∙ ap (to_be_bytes w16) (search rules))
