-- The edges of a segment as the code finds them: between two vertices, and those that leave an AS, entry by entry and at each entry peer by peer.
-- Assumes nothing.
use Rattle.std.specs.Prelude.{ℕ, ◌+◌, ◌-◌, ◌<◌, ◌≡◌, Bool, ◌&&◌, ◌||◌, Option, Some, None, length, ltb, eqb, if◌then◌else◌}
use mathlib.Core.List.{List, [], ◌∷◌, ◌++◌, flat_map}
use Rattle.spec.specs.declared.IsdAsn.{IsdAsn}
use Rattle.spec.specs.declared.Vertex.{Vertex}
use Rattle.spec.specs.declared.Vertex.TheVariants.{AS, Peering}
use Rattle.spec.specs.declared.Edge.{Edge}
use Rattle.spec.specs.Basics.{range}
use Rattle.spec.specs.Book.{same_as, Segment}
use Rattle.spec.specs.Edges.{same_vertex, entry_of, as_of, leaf_as, peer_of, edge_of}
use Rattle.graph.specs.declared.vertices.Link.{Link}
use Rattle.graph.specs.Scan.{first_with, last_with}
use Rattle.graph.specs.Link.{end_of}
use Rattle.graph.specs.Lookup.{between, leaving_of}

-- two ASes are the one and the other
unfoldable pub joins : IsdAsn → IsdAsn → IsdAsn → IsdAsn → Bool
joins first last a c = same_as first a && same_as last c || same_as last a && same_as first c

module _ (seg : Segment) where
  unfoldable pub entry_count : ℕ
  entry_count = length seg.entries

  unfoldable pub peer_count_of : ℕ → ℕ
  peer_count_of i = length (entry_of seg i).peers

  -- the peering end of peer p of entry i
  unfoldable pub link_of : ℕ → ℕ → Vertex
  link_of i p = Peering (as_of seg i) (peer_of seg i p).hop.ingress (peer_of seg i p).peer (peer_of seg i p).interface

  -- ---- what a scan finds

  unfoldable pub is_entry_of : IsdAsn → ℕ → Bool
  is_entry_of a j = same_as (as_of seg j) a

  -- the first of the entries below n that has an AS; n where none has
  unfoldable pub entry_with : IsdAsn → ℕ → ℕ
  entry_with a n = first_with (is_entry_of a) 0 n

  -- as an answer: that entry, or none
  abbrev pub FoundEntry : IsdAsn → ℕ → Option ℕ → Type 0
  FoundEntry a n (Some i) = (i ≡ entry_with a n) × (i < n)
  FoundEntry a n None = n ≡ entry_with a n

  -- an entry has an AS
  unfoldable pub has_as : IsdAsn → Bool
  has_as a = ltb (entry_with a entry_count) entry_count

  unfoldable pub is_link : Vertex → ℕ → ℕ → Bool
  is_link v i p = same_vertex (link_of i p) v

  -- one more than the last peer of entry i that has a peering end; 0 where none has
  unfoldable pub peer_linked : Vertex → ℕ → ℕ
  peer_linked v i = last_with (is_link v i) (peer_count_of i)

  -- ---- between two vertices

  -- an AS edge at entry i, where i is below the leaf
  unfoldable pub as_edge_at : Vertex → Vertex → ℕ → List Edge
  as_edge_at v w i = if ltb i (entry_count - 1) then edge_of seg v w (entry_count - 1 - i) i 0 ∷ [] else []

  -- a peer's edge at entry i, where there are such an entry and such a peer
  unfoldable pub peer_edge_at : Vertex → Vertex → ℕ → ℕ → ℕ → List Edge
  peer_edge_at v w weight i q = if ltb i entry_count && ltb 0 q then edge_of seg v w weight i q ∷ [] else []

  -- the edge down to the leaf over a link, at the entry of its AS
  unfoldable pub down_peer_edge : Vertex → Vertex → Link → List Edge
  down_peer_edge v w l =
      let i : ℕ = entry_with l.local entry_count in
      peer_edge_at v w (entry_count - 1 - i) i (peer_linked (end_of l) i)

  -- ---- a core segment

  unfoldable pub core_edge : IsdAsn → IsdAsn → List Edge
  core_edge a c = if joins (as_of seg 0) (leaf_as seg) a c then edge_of seg (AS a) (AS c) (entry_count - 1) 0 0 ∷ [] else []

  unfoldable pub core_edge_from : Vertex → List Edge
  core_edge_from v =
      if same_vertex (AS (as_of seg 0)) v then edge_of seg (AS (as_of seg 0)) (AS (leaf_as seg)) (entry_count - 1) 0 0 ∷ []
      else if same_vertex (AS (leaf_as seg)) v then edge_of seg (AS (leaf_as seg)) (AS (as_of seg 0)) (entry_count - 1) 0 0 ∷ []
      else []

  -- ---- from the leaf

  unfoldable pub as_up : ℕ → List Edge
  as_up i = as_edge_at (AS (leaf_as seg)) (AS (as_of seg i)) i

  -- the edges of peer p of entry i stand: of the entry's peers that have its peering end it is the last
  unfoldable pub peer_stands : ℕ → ℕ → Bool
  peer_stands i p = eqb (peer_linked (link_of i p) i) (p + 1)

  unfoldable pub peer_up : ℕ → ℕ → List Edge
  peer_up i p = if peer_stands i p then edge_of seg (AS (leaf_as seg)) (link_of i p) (entry_count - i) i (p + 1) ∷ [] else []

  unfoldable pub ups_at : ℕ → List Edge
  ups_at i = as_up i ++ flat_map (peer_up i) (range 0 (peer_count_of i))

  -- ---- all that leave an AS

  unfoldable pub leaving_in : IsdAsn → List Edge
  leaving_in src =
      if eqb entry_count 0 then []
      else if seg.core then leaving_of (AS src) seg
      else if same_as (leaf_as seg) src then flat_map ups_at (range 0 entry_count)
      else between seg (AS src) (AS (leaf_as seg))
