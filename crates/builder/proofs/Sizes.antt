-- The parts are as long as spec says: a layout that changes there and not here is refused.
-- Assumes nothing.
use native.Mathlib.Omega.{arith}
use mathlib.Core.Path.{◌≡◌}
use lib.ListN.{length, length-append}
use Rattle.spec.specs.declared.Sizes.{Sizes}
use Rattle.spec.specs.declared.Head.{Head}
use Rattle.spec.specs.declared.AsEntry.{AsEntry}
use Rattle.spec.specs.declared.PeerEntry.{PeerEntry}
use Rattle.spec.specs.Limits.{sizes_size, head_size, entry_size, peer_size}
use Rattle.output.proofs.Writing.{octets2-length, octets4-length, octets8-length}
use Rattle.builder.specs.Layout.{sizes_octets, head_octets, entry_octets, peer_octets}

pub sizes-size : (s : Sizes) → length (sizes_octets s) ≡ sizes_size
unfolding sizes_octets
sizes-size s = simp (length-append, octets2-length, octets4-length)

pub head-size : (h : Head) → length (head_octets h) ≡ head_size
unfolding head_octets
head-size h = simp (length-append, octets2-length, octets4-length)

pub entry-size : (e : AsEntry) → length e.hop.mac ≡ 6 → length (entry_octets e) ≡ entry_size
unfolding entry_octets
entry-size e m = simp (length-append, octets2-length, octets4-length, octets8-length) (omega arith)

pub peer-size : (p : PeerEntry) → length p.hop.mac ≡ 6 → length (peer_octets p) ≡ peer_size
unfolding peer_octets
peer-size p m = simp (length-append, octets2-length, octets8-length) (omega arith)
