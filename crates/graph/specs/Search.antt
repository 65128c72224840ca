-- The search, chunk by chunk: what each loop of the code adds to the list of chains found so far.
-- Assumes nothing.
use Rattle.std.specs.Prelude.{ℕ, zero, suc, ◌+◌, ◌-◌, Bool, true, false, if◌then◌else◌}
use mathlib.Core.List.{List, [], ◌∷◌, ◌++◌, map, flat_map}
use Rattle.spec.specs.declared.IsdAsn.{IsdAsn}
use Rattle.spec.specs.declared.Vertex.{Vertex}
use Rattle.spec.specs.declared.Vertex.TheVariants.{AS, Peering}
use Rattle.spec.specs.declared.Edge.{Edge}
use Rattle.spec.specs.Limits.{max_edges}
use Rattle.spec.specs.Basics.{filter}
use Rattle.spec.specs.Book.{same_as, Segment, segments, segment_at, segment_count}
use Rattle.spec.specs.Edges.{same_vertex, is_first, stored_edges}
use Rattle.spec.specs.Chains.{allowed_kinds, beginning, walks}
use Rattle.graph.specs.declared.search.Before.{Before}
use Rattle.graph.specs.declared.search.Before.TheVariants.{Link, One, Two}
use Rattle.graph.specs.Lookup.{between, leaving_of}
use Rattle.graph.specs.Leaving.{leaving_in}

-- what the segments of a book give, those at `left` positions from k on, of equals only the first
unfoldable pub over_firsts : {A : Type 0} → (Segment → List A) → List ℕ → ℕ → ℕ → List A
over_firsts f b k zero = []
over_firsts f b k (suc left) =
    (if is_first (segments b) (segment_at b k) then f (segment_at b k) else []) ++ over_firsts f b (k + 1) left

unfoldable pub IsAs : Vertex → Bool
IsAs (AS _) = true
IsAs (Peering _ _ _ _) = false

-- an edge ends at an AS, as all of core segments do
unfoldable pub ends_at_as : Edge → Bool
ends_at_as e = IsAs e.dst

module _ (b : List ℕ) (dst : IsdAsn) where
  -- the chains that begin with an edge
  unfoldable pub chains_from : Edge → List (List Edge)
  chains_from e = filter allowed_kinds (beginning (walks (max_edges - 1) (stored_edges b) (AS dst)) (AS dst) e)

  unfoldable pub pair : Edge → Edge → List Edge
  pair e f = e ∷ f ∷ []

  unfoldable pub triple : Edge → Edge → Edge → List Edge
  triple e f g = e ∷ f ∷ g ∷ []

  -- an edge that does not arrive, one of a segment after it that does
  unfoldable pub pairs_in : Edge → Segment → List (List Edge)
  pairs_in e seg = map (pair e) (between seg e.dst (AS dst))

  -- two edges that do not arrive, one of a non-core segment after them that does
  unfoldable pub triples_in : Edge → Edge → Segment → List (List Edge)
  triples_in e f seg = if seg.core then [] else map (triple e f) (between seg f.dst (AS dst))

  -- after an edge of a non-core segment, an edge of a core segment: it arrives, or a third follows
  unfoldable pub across_with : Edge → Edge → List (List Edge)
  across_with e f =
      let further : List (List Edge) = over_firsts (triples_in e f) b 0 (segment_count b) in
      if same_vertex f.dst (AS dst) then pair e f ∷ [] else further

  -- the chains that begin with an edge that does not arrive, and go on with one of a segment: after a core edge no core edge
  unfoldable pub chains_with : Edge → Segment → List (List Edge)
  chains_with e seg =
      let across : List (List Edge) = flat_map (across_with e) (leaving_of e.dst seg) in
      if seg.core then (if e.core then [] else across) else pairs_in e seg

  -- what a segment adds after one edge, f, or after two
  unfoldable pub last_in : Before → Edge → Edge → Segment → List (List Edge)
  last_in Link e f = chains_with f
  last_in One e f = chains_with f
  last_in Two e f = triples_in e f

  -- the chains that begin with an edge of a segment that leaves the source
  unfoldable pub chains_in : IsdAsn → Segment → List (List Edge)
  chains_in src seg = flat_map chains_from (leaving_in seg src)

  -- all chains, in the order in which the code finds them
  unfoldable pub found_chains : IsdAsn → List (List Edge)
  found_chains src = if same_as src dst then [] else over_firsts (chains_in src) b 0 (segment_count b)
