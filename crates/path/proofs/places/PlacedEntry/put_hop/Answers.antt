-- `put_hop` meets its contract.
use native.Mathlib.Omega.{arith}
use mathlib.Core.Path.{sym, ◌∙◌}
use Rattle.path.proofs.Showing.{link-wrote, own-wrote}
use Rattle.path.proofs.places.PlacedEntry.put_hop.Goals as goal

pub link_offset-from-requires : goal.link_offset-from-requires
link_offset-from-requires c = record { at_bound = omega arith; peer_nonzero = (c.args.self.now.stands.link (sym c.is_peer_hop.ensures ∙ c.if-is_peer_hop.true)).some }

pub put_peer_hop-requires : goal.put_peer_hop-requires
put_peer_hop-requires c = (omega (arith, (c.args.self.now.stands.link (sym c.is_peer_hop.ensures ∙ c.if-is_peer_hop.true)).room, c.link_offset-from.ensures.0), omega arith)

pub returns-then-is_peer_hop : goal.returns-then-is_peer_hop
returns-then-is_peer_hop c = (
  link-wrote _ c.all_bytes.ensures _ _ _ c.args.self.now.stands _ _ _ (sym c.is_peer_hop.ensures ∙ c.if-is_peer_hop.true)
      (rw c.link_offset-from.ensures.0 at c.put_peer_hop.ensures),
  omega arith,
)

pub returns : goal.returns
returns c = (
  own-wrote _ c.all_bytes.ensures _ _ _ c.args.self.now.stands _ _ _ (sym c.is_peer_hop.ensures ∙ c.if-is_peer_hop.false)
      c.put_own_hop.ensures,
  omega arith,
)
