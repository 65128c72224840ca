-- A peering link from one side, against peering ends and peers.
-- Assumes nothing.
use Rattle.std.specs.Prelude.{Bool, ◌&&◌, eqb}
use Rattle.spec.specs.declared.PeerEntry.{PeerEntry}
use Rattle.spec.specs.declared.Vertex.{Vertex}
use Rattle.spec.specs.declared.Vertex.TheVariants.{Peering}
use Rattle.spec.specs.Book.{same_as}
use Rattle.graph.specs.declared.vertices.Link.{Link}

abbrev pub end_of : Link → Vertex
end_of l = Peering l.local l.ingress l.peer l.interface

-- a peer of an entry of the link's AS has the link
unfoldable pub same_peer : PeerEntry → Link → Bool
same_peer x l = eqb x.hop.ingress l.ingress && eqb x.interface l.interface && same_as x.peer l.peer
