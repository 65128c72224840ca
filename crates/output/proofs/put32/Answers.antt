-- `output::put32` meets its contract.
use mathlib.Core.Path.{ap, ◌∙◌}
use Rattle.std.proofs.Common.{rules}
use Rattle.std.specs.Int.{w32, to_be_bytes}
use Rattle.output.proofs.Copied.{put4}
use Rattle.output.proofs.put32.Goals as goal

pub returns : goal.returns
returns c = put4 _ _ _ _ _ c.put_bytes.ensures (c.to_be_bytes.ensures ∙ ap (to_be_bytes w32) (search rules))
