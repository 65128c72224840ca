-- `put_head` meets its contract.
use mathlib.Core.Path.{ap, ◌∙◌}
use Rattle.output.proofs.Copied.{be_bytes2, be_bytes4}
use Rattle.builder.specs.Layout.{appended, head_octets}
use Rattle.builder.proofs.Appending.{next}
use Rattle.builder.proofs.put_head.Goals as goal

pub returns : goal.returns
unfolding head_octets
returns c =
    let p = c.append-id.ensures ∙ ap (appended _ _) (c.to_be_bytes.ensures ∙ be_bytes4 _) in
    let q = next _ _ _ _ _ _ p c.append-entries.ensures (c.to_be_bytes-2.ensures ∙ be_bytes2 _) in
    let r = next _ _ _ _ _ _ q c.append-body.ensures (c.to_be_bytes-3.ensures ∙ be_bytes2 _) in
    next _ _ _ _ _ _ r c.append.ensures (c.to_be_bytes-4.ensures ∙ be_bytes2 _)
