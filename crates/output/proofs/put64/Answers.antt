-- `output::put64` meets its contract.
use mathlib.Core.Path.{ap, ◌∙◌}
use Rattle.std.proofs.Common.{rules}
use Rattle.std.specs.Int.{w64, to_be_bytes}
use Rattle.output.proofs.Copied.{put8}
use Rattle.output.proofs.put64.Goals as goal

pub returns : goal.returns
returns c = put8 _ _ _ _ _ c.put_bytes.ensures (c.to_be_bytes.ensures ∙ ap (to_be_bytes w64) (search rules))
