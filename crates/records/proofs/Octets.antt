-- The bytes of records: of a solution, of a path's head and of an info.
-- Assumes nothing.
use Prim.Native.Nat.{ℕ, ◌+◌, ◌*◌, ◌/◌, ◌%◌, ◌^◌, ◌≤◌, ◌<◌}
use native.Mathlib.Omega.{arith}
use mathlib.Core.Path.{◌≡◌, refl, ap, ap₂, ◌∙◌}
use mathlib.Core.List.{List, [], ◌∷◌, ◌++◌, flat_map}
use lib.ListN.{length, get_or}
use Rattle.std.specs.Int.{to_be_bytes, w16, w32}
use Rattle.spec.specs.declared.Edge.{Edge}
use Rattle.spec.specs.declared.InfoField.{InfoField}
use Rattle.spec.specs.declared.Solution.{Solution}
use Rattle.spec.specs.declared.SolutionEdge.{SolutionEdge}
use Rattle.spec.specs.declared.Path.{Path}
use Rattle.spec.specs.Limits.{max_edges, solution_size}
use Rattle.spec.specs.Basics.{range, padded}
use Rattle.spec.specs.Octets.{Bytes, octets2, octets4, octets8}
use Rattle.spec.specs.Records.{bit, edge_octets, edge_at, edge_offset, no_edge, record_edge, solution_in, solution_of, solution_octets, info_octets, as_octets, path_head_octets}
use Rattle.spec.proofs.BookLaws.{be16-lt}
use Rattle.output.specs.Write.{written}
use Rattle.output.proofs.Writing.{written-pair}
use Rattle.output.proofs.Copied.{be_bytes2, be_bytes4}
use Rattle.records.specs.Octets.{edge_bytes, record_octets}

-- ---- a solution

pub record_is : (s : Solution) (x y z : ℕ) → s.cost < 2 ^ 16
    → x ≡ bit (get_or s.edges 0 no_edge).construction → y ≡ bit (get_or s.edges 1 no_edge).construction → z ≡ bit (get_or s.edges 2 no_edge).construction
    → s.cost / 256 ∷ s.cost % 256 ∷ s.count ∷ 0
    ∷ (get_or s.edges 0 no_edge).position ∷ (get_or s.edges 0 no_edge).shortcut ∷ (get_or s.edges 0 no_edge).peer ∷ x
    ∷ (get_or s.edges 1 no_edge).position ∷ (get_or s.edges 1 no_edge).shortcut ∷ (get_or s.edges 1 no_edge).peer ∷ y
    ∷ (get_or s.edges 2 no_edge).position ∷ (get_or s.edges 2 no_edge).shortcut ∷ (get_or s.edges 2 no_edge).peer ∷ z ∷ []
    ≡ record_octets s
unfolding record_octets edge_bytes edge_octets octets2 range flat_map
record_is s x y z h p q r =
    let e : s.cost / 256 ≡ s.cost / 2 ^ 8 % 2 ^ 8 = omega arith in
    cc

pub record-length : (s : Solution) → length (record_octets s) ≡ solution_size
unfolding record_octets edge_bytes edge_octets octets2 range flat_map
record-length s = refl

-- the solution that a record says, from its parts
pub solution-is : (r : List ℕ) {x n : ℕ} {e f g : SolutionEdge} → x ≡ (solution_in r).cost → n ≡ (solution_in r).count → e ≡ record_edge r 0 → f ≡ record_edge r 1 → g ≡ record_edge r 2
    → record { cost = x; count = n; edges = e ∷ f ∷ g ∷ [] } ≡ solution_in r
unfolding solution_in range
solution-is r {e = e} {f = f} {g = g} p q a b c =
    ap₂ (λ x n. record { cost = x; count = n; edges = e ∷ f ∷ g ∷ [] }) p q
    ∙ ap₂ (λ u v. record { cost = (solution_in r).cost; count = (solution_in r).count; edges = u ∷ v ∷ g ∷ [] }) a b
    ∙ ap (λ w. record { cost = (solution_in r).cost; count = (solution_in r).count; edges = record_edge r 0 ∷ record_edge r 1 ∷ w ∷ [] }) c

-- a record of bytes says numbers that fit in its fields
pub record Within (e : SolutionEdge) : Type 0 where
  pub position : e.position < 2 ^ 8
  pub shortcut : e.shortcut < 2 ^ 8
  pub peer : e.peer < 2 ^ 8

pub edge-within : (r : List ℕ) → Bytes r → (k : ℕ) → Within (record_edge r k)
unfolding record_edge edge_at
edge-within r b k = record { position = b (edge_offset k); shortcut = b (edge_offset k + 1); peer = b (edge_offset k + 2) }

pub cost-within : (r : List ℕ) → Bytes r → (solution_in r).cost < 2 ^ 16
unfolding solution_in
cost-within r b = be16-lt r b 0

pub count-within : (r : List ℕ) → Bytes r → (solution_in r).count < 2 ^ 8
unfolding solution_in
count-within r b = b 2

-- the record of a chain
pub record_of_lem : (c : List Edge) → length c ≤ max_edges → record_octets (solution_of c) ≡ solution_octets c
unfolding record_octets edge_bytes edge_octets octets2 range flat_map solution_of solution_octets padded no_edge edge_at bit
record_of_lem [] h = refl
record_of_lem (e ∷ []) h = refl
record_of_lem (e ∷ f ∷ []) h = refl
record_of_lem (e ∷ f ∷ g ∷ []) h = refl
record_of_lem (e ∷ f ∷ g ∷ i ∷ c) h = absurd (omega arith)

-- ---- an info

pub info-is : (i : InfoField) {x y : ℕ} {a b : List ℕ} → x ≡ bit i.construction → y ≡ bit i.peering → a ≡ to_be_bytes w16 i.id → b ≡ to_be_bytes w32 i.timestamp
    → (x + 2 * y) ∷ i.hops ∷ get_or a 0 0 ∷ get_or a 1 0 ∷ get_or b 0 0 ∷ get_or b 1 0 ∷ get_or b 2 0 ∷ get_or b 3 0 ∷ [] ≡ info_octets i
unfolding info_octets
info-is i p q r s = rw (p, q, r, s, ← be_bytes2, ← be_bytes4) refl

-- ---- a path's head, part by part

pub counts-written : (d : List ℕ) (i h n : ℕ)
    → written (written (written (written d 0 (i ∷ [])) 1 (h ∷ [])) 2 (n ∷ [])) 3 (0 ∷ []) ≡ written d 0 (i ∷ h ∷ n ∷ 0 ∷ [])
counts-written d i h n =
    ap (λ l. written (written l 2 (n ∷ [])) 3 (0 ∷ [])) (written-pair d 0 1 (i ∷ []) (h ∷ []) refl)
    ∙ ap (λ l. written l 3 (0 ∷ [])) (written-pair d 0 2 (i ∷ h ∷ []) (n ∷ []) refl)
    ∙ written-pair d 0 3 (i ∷ h ∷ n ∷ []) (0 ∷ []) refl

pub ends-written : (d : List ℕ) (m e f l : ℕ)
    → written (written (written (written d 4 (octets2 m)) 6 (octets4 e)) 10 (octets8 f)) 18 (octets8 l) ≡ written d 4 (octets2 m ++ octets4 e ++ octets8 f ++ octets8 l)
ends-written d m e f l =
    ap (λ x. written (written x 10 (octets8 f)) 18 (octets8 l)) (written-pair d 4 2 (octets2 m) (octets4 e) (unfold octets2 in refl))
    ∙ ap (λ x. written x 18 (octets8 l)) (written-pair d 4 6 (octets2 m ++ octets4 e) (octets8 f) (unfold octets4 octets2 in refl))
    ∙ written-pair d 4 14 (octets2 m ++ octets4 e ++ octets8 f) (octets8 l) (unfold octets8 octets4 octets2 in refl)

pub head-written : (d : List ℕ) (h : Path)
    → written (written (written (written (written (written (written (written d 0 (h.infos ∷ [])) 1 (h.hops ∷ [])) 2 (h.interfaces ∷ [])) 3 (0 ∷ [])) 4 (octets2 h.mtu)) 6 (octets4 h.expiry)) 10 (octets8 h.first.0)) 18 (octets8 h.last.0)
    ≡ written d 0 (path_head_octets h)
unfolding path_head_octets as_octets
head-written d h =
    rw (counts-written, ends-written) (written-pair d 0 4 (h.infos ∷ h.hops ∷ h.interfaces ∷ 0 ∷ []) (octets2 h.mtu ++ octets4 h.expiry ++ octets8 h.first.0 ++ octets8 h.last.0) refl)
