-- `info_octets` meets its contract.
use mathlib.Core.Path.{ap, ◌∙◌}
use Rattle.std.proofs.Common.{rules}
use Rattle.std.specs.Int.{w32, to_be_bytes}
use Rattle.records.proofs.Octets.{info-is}
use Rattle.records.proofs.path_record.info_octets.Goals as goal

pub returns : goal.returns
returns c = info-is _ c.bit.ensures.0 c.bit-2.ensures.0 c.to_be_bytes.ensures (c.to_be_bytes-2.ensures ∙ ap (to_be_bytes w32) (search rules))
