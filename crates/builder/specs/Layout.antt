-- The bytes of a book's parts, in the order in which they stand.
-- Assumes nothing.
use Rattle.std.specs.Prelude.{ℕ, ◌+◌, min, List, [], ◌∷◌, ◌++◌, length}
use Rattle.spec.specs.declared.Sizes.{Sizes}
use Rattle.spec.specs.declared.Head.{Head}
use Rattle.spec.specs.declared.AsEntry.{AsEntry}
use Rattle.spec.specs.declared.PeerEntry.{PeerEntry}
use Rattle.spec.specs.Octets.{octets2, octets4, octets8}
use Rattle.output.specs.Write.{written}

-- xs over the bytes of d from index `at` on, and the next place, at most the end
unfoldable pub appended : List ℕ → ℕ → List ℕ → List ℕ × ℕ
appended d at xs = (written d at xs, min (length d) (at + length xs))

unfoldable pub sizes_octets : Sizes → List ℕ
sizes_octets s = octets2 s.cores ++ octets2 s.others ++ octets4 s.bodies

unfoldable pub head_octets : Head → List ℕ
head_octets h = octets4 h.timestamp ++ octets2 h.id ++ octets2 h.entries ++ octets2 h.body

unfoldable pub entry_octets : AsEntry → List ℕ
entry_octets e =
    octets8 e.local.0
    ++ octets4 e.mtu
    ++ octets2 e.ingress_mtu
    ++ octets2 e.hop.ingress
    ++ octets2 e.hop.egress
    ++ (e.hop.units ∷ [])
    ++ e.hop.mac
    ++ (e.peers ∷ [])

unfoldable pub peer_octets : PeerEntry → List ℕ
peer_octets p =
    octets8 p.peer.0
    ++ octets2 p.interface
    ++ octets2 p.mtu
    ++ (p.hop.units ∷ [])
    ++ octets2 p.hop.ingress
    ++ octets2 p.hop.egress
    ++ p.hop.mac
