-- `ids_offset` meets its contract.
use native.Mathlib.Omega.{arith}
use mathlib.Core.Path.{sym, ◌∙◌}
use Rattle.path.proofs.Standing.{link-ids, own-ids}
use Rattle.path.proofs.places.PlacedEntry.ids_offset.Goals as goal

pub link_offset-requires : goal.link_offset-requires
link_offset-requires c = record { at_bound = omega arith; peer_nonzero = (c.args.self.now.stands.link (sym c.is_peer_hop.ensures ∙ c.if-is_peer_hop.true)).some }

pub returns-then-is_peer_hop : goal.returns-then-is_peer_hop
returns-then-is_peer_hop c = link-ids _ _ _ _ c.args.self.now.stands (sym c.is_peer_hop.ensures ∙ c.if-is_peer_hop.true) _ c.link_offset.ensures.0

pub returns : goal.returns
returns c = own-ids _ _ _ _ c.args.self.now.stands (sym c.is_peer_hop.ensures ∙ c.if-is_peer_hop.false)
