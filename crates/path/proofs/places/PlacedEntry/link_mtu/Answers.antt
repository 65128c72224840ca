-- `link_mtu` meets its contract.
use native.Mathlib.Omega.{arith}
use mathlib.Core.Path.{sym, ◌∙◌}
use Rattle.path.proofs.Standing.{link-mtu-read, ingress-mtu-read}
use Rattle.path.proofs.Showing.{link-peer, link-shortcut, link-regular}
use Rattle.path.proofs.places.PlacedEntry.link_mtu.Goals as goal

pub link_offset-requires : goal.link_offset-requires
link_offset-requires c = record { at_bound = omega arith; peer_nonzero = (c.args.self.now.stands.link (sym c.is_peer_hop.ensures ∙ c.if-is_peer_hop.true)).some }

pub read16-requires : goal.read16-requires
read16-requires c = omega (arith, (c.args.self.now.stands.link (sym c.is_peer_hop.ensures ∙ c.if-is_peer_hop.true)).room, c.link_offset.ensures.0)

pub returns-then-is_peer_hop : goal.returns-then-is_peer_hop
returns-then-is_peer_hop c =
    let q = sym c.is_peer_hop.ensures ∙ c.if-is_peer_hop.true in
    link-peer _ _ _ q _ (c.read16.ensures ∙ (rw c.link_offset.ensures.0 (link-mtu-read _ _ _ _ c.args.self.now.stands q))) (omega arith)

pub returns-then-is_inner_shortcut : goal.returns-then-is_inner_shortcut
returns-then-is_inner_shortcut c = link-shortcut _ _ _ (sym c.is_peer_hop.ensures ∙ c.if-is_peer_hop.false) (sym c.is_inner_shortcut.ensures ∙ c.if-is_inner_shortcut.true)

pub returns : goal.returns
returns c =
    link-regular _ _ _ (sym c.is_peer_hop.ensures ∙ c.if-is_peer_hop.false) (sym c.is_inner_shortcut.ensures ∙ c.if-is_inner_shortcut.false) _ _
    (c.read16-2.ensures ∙ ingress-mtu-read _ _ _ _ c.args.self.now.stands) (omega arith) c.or_max.ensures
