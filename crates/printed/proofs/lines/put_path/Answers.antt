-- `put_path` meets its contract.
use Rattle.path.proofs.Writes.{wrote-join, wrote_as}
use Rattle.printed.proofs.Rows.{path-as}
use Rattle.printed.proofs.lines.put_path.Goals as goal

pub returns : goal.returns
returns c =
    wrote_as (path-as _ _ c.path_head-head.ensures)
    (wrote-join (wrote-join c.fields_line-next.ensures.0 c.put_infos-then.ensures.0) c.put_interfaces.ensures.0)
