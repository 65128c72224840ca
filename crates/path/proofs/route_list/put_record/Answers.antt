-- `put_record` meets its contract.
use mathlib.Core.Path.{ap, ◌∙◌}
use Rattle.output.specs.Write.{written}
use Rattle.path.proofs.Buffers.{copy-whole}
use Rattle.path.proofs.route_list.put_record.Goals as goal

pub returns : goal.returns
returns c = c.copy.ensures ∙ ap (written _ _) (copy-whole _ c.requires.0)
