-- `put_entry` meets its contract.
use mathlib.Core.Path.{refl, ap, ◌∙◌}
use Rattle.output.proofs.Copied.{be_bytes2, be_bytes4, be_bytes8}
use Rattle.builder.specs.Layout.{appended, entry_octets}
use Rattle.builder.proofs.Appending.{next}
use Rattle.builder.proofs.put_entry.Goals as goal

pub returns : goal.returns
unfolding entry_octets
returns c =
    let p = c.append-mtu.ensures ∙ ap (appended _ _) (c.to_be_bytes.ensures ∙ be_bytes8 _) in
    let q = next _ _ _ _ _ _ p c.append-ingress_mtu.ensures (c.to_be_bytes-2.ensures ∙ be_bytes4 _) in
    let r = next _ _ _ _ _ _ q c.append-ingress.ensures (c.to_be_bytes-3.ensures ∙ be_bytes2 _) in
    let s = next _ _ _ _ _ _ r c.append-egress.ensures (c.to_be_bytes-4.ensures ∙ be_bytes2 _) in
    let t = next _ _ _ _ _ _ s c.append-units.ensures (c.to_be_bytes-5.ensures ∙ be_bytes2 _) in
    let u = next _ _ _ _ _ _ t c.append-key.ensures refl in
    let v = next _ _ _ _ _ _ u c.append-peers.ensures refl in
    next _ _ _ _ _ _ v c.append.ensures refl
