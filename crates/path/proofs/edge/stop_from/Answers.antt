-- `stop_from` meets its contract.
use native.Mathlib.Omega.{arith}
use mathlib.Core.Path.{sym, ◌∙◌}
use Rattle.path.proofs.Walking.{stop-peer, stop-own}
use Rattle.path.proofs.edge.stop_from.Goals as goal

pub returns-then-is_peer_hop : goal.returns-then-is_peer_hop
returns-then-is_peer_hop c = (stop-peer _ _ (sym c.is_peer_hop.ensures ∙ c.if-is_peer_hop.true), omega arith)

pub returns : goal.returns
returns c = (stop-own _ _ (sym c.is_peer_hop.ensures ∙ c.if-is_peer_hop.false), omega arith)
