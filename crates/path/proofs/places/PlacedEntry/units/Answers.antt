-- `units` meets its contract.
use native.Mathlib.Omega.{arith}
use mathlib.Core.Path.{sym, ◌∙◌}
use Rattle.path.proofs.Standing.{link-units, own-units}
use Rattle.path.proofs.places.PlacedEntry.units.Goals as goal

pub link_offset-link-requires : goal.link_offset-link-requires
link_offset-link-requires c = record { at_bound = omega arith; peer_nonzero = (c.args.self.now.stands.link (sym c.is_peer_hop.ensures ∙ c.if-is_peer_hop.true)).some }

pub bounds-self-link : goal.bounds-self-link
bounds-self-link c = omega (arith, (c.args.self.now.stands.link (sym c.is_peer_hop.ensures ∙ c.if-is_peer_hop.true)).room, c.link_offset-link.ensures.0)

pub returns-then-is_peer_hop : goal.returns-then-is_peer_hop
returns-then-is_peer_hop c =
    rw c.link_offset-link.ensures.0 (link-units _ _ _ _ c.args.self.now.stands (sym c.is_peer_hop.ensures ∙ c.if-is_peer_hop.true))

pub returns : goal.returns
returns c = own-units _ _ _ _ c.args.self.now.stands (sym c.is_peer_hop.ensures ∙ c.if-is_peer_hop.false)
