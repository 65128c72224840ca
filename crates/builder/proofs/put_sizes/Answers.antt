-- `put_sizes` meets its contract.
use mathlib.Core.Path.{ap, ◌∙◌}
use Rattle.output.proofs.Copied.{be_bytes2, be_bytes4}
use Rattle.builder.specs.Layout.{appended, sizes_octets}
use Rattle.builder.proofs.Appending.{next}
use Rattle.builder.proofs.put_sizes.Goals as goal

pub returns : goal.returns
unfolding sizes_octets
returns c =
    let p = c.append-others.ensures ∙ ap (appended _ _) (c.to_be_bytes.ensures ∙ be_bytes2 _) in
    let q = next _ _ _ _ _ _ p c.append-bodies.ensures (c.to_be_bytes-2.ensures ∙ be_bytes2 _) in
    next _ _ _ _ _ _ q c.append.ensures (c.to_be_bytes-3.ensures ∙ be_bytes4 _)
