-- The order of chains, and the ordered list. The fingerprint's digest, SHA-256, is a parameter.
-- Assumes nothing.
use Prim.Native.Nat.{ℕ, compare, Ordering}
use Rattle.std.specs.Prelude.{◌≡◌, ◌⊎◌, Bool, true, false, length, if◌then◌else◌}
use mathlib.Core.List.{List, [], ◌∷◌, ◌++◌, map, flat_map}
use Rattle.spec.specs.declared.IsdAsn.{IsdAsn}
use Rattle.spec.specs.declared.Edge.{Edge}
use Rattle.spec.specs.declared.SolutionEdge.{SolutionEdge}
use Rattle.spec.specs.Basics.{sum}
use Rattle.spec.specs.Octets.{octets2, octets8}
use Rattle.spec.specs.Book.{Entry, Segment, segment_at}
use Rattle.spec.specs.Chains.{IsChain, chains}

-- ---- comparisons, one after the other

-- 5.3: the second decides where the first leaves the two equal
infixr 6 ◌then_by◌
abbrev pub ◌then_by◌ : Ordering → Ordering → Ordering
Ordering.lt then_by next = Ordering.lt
Ordering.eq then_by next = next
Ordering.gt then_by next = Ordering.gt

-- 5.3: the first of the two comes before the second
abbrev pub is_lt : Ordering → Bool
is_lt Ordering.lt = true
is_lt Ordering.eq = false
is_lt Ordering.gt = false

-- 5.3: element by element; of two lists that agree up to the end of one, the shorter first
module _ {A : Type 0} where
  unfoldable pub compare_by : (A → A → Ordering) → List A → List A → Ordering
  compare_by f [] [] = Ordering.eq
  compare_by f [] (y ∷ ys) = Ordering.lt
  compare_by f (x ∷ xs) [] = Ordering.gt
  compare_by f (x ∷ xs) (y ∷ ys) = let rest = compare_by f xs ys in f x y then_by rest

-- ---- the order

-- 5.1: the weight of an edge, and the sum of the weights
unfoldable pub weight_of : Edge → ℕ
weight_of e = e.weight

unfoldable pub cost : List Edge → ℕ
cost c = sum (map weight_of c)

-- 1.8: what the digest is taken of: each entry's AS, ingress, egress, in order
unfoldable pub entry_input : Entry → List ℕ
entry_input x = octets8 x.own.local.0 ++ octets2 x.own.hop.ingress ++ octets2 x.own.hop.egress

unfoldable pub fingerprint_input : Segment → List ℕ
fingerprint_input seg = flat_map entry_input seg.entries

-- 5.2: what the order, and a solution's record, know of an edge
unfoldable pub solution_edge : Edge → SolutionEdge
solution_edge e = record { position = e.position; shortcut = e.shortcut; peer = e.peer; construction = e.construction }

module _ (digest : List ℕ → List ℕ) (b : List ℕ) where
  -- 1.8: of the segment at a position
  unfoldable pub fingerprint : ℕ → List ℕ
  fingerprint position = digest (fingerprint_input (segment_at b position))

  -- 5.2: peer, none before 0, 0 before 1; larger shortcut first; fingerprint
  unfoldable pub compare_edges : SolutionEdge → SolutionEdge → Ordering
  compare_edges e f =
      compare e.peer f.peer
      then_by compare f.shortcut e.shortcut
      then_by compare_by compare (fingerprint e.position) (fingerprint f.position)

  -- 5.3: the last key
  unfoldable pub compare_positions : SolutionEdge → SolutionEdge → Ordering
  compare_positions e f = compare e.position f.position

  -- 5.3: two solutions, each by its cost and edges: cost, edge count, then edge by edge; then positions edge by edge
  unfoldable pub compare_solutions : ℕ → List SolutionEdge → ℕ → List SolutionEdge → Ordering
  compare_solutions m es n fs =
      compare m n
      then_by compare (length es) (length fs)
      then_by compare_by compare_edges es fs
      then_by compare_by compare_positions es fs

  -- 5.3: two chains
  unfoldable pub compare_chains : List Edge → List Edge → Ordering
  compare_chains c d = compare_solutions (cost c) (map solution_edge c) (cost d) (map solution_edge d)

  -- 5.4: a strict order, and a total one on the chains from a source to a destination: of two different chains one is before the other
  pub record StrictOrder (src dst : IsdAsn) : Type 0 where
    pub irreflexive : (c : List Edge) → compare_chains c c ≡ Ordering.lt → ⊥
    pub transitive : (c d e : List Edge) → compare_chains c d ≡ Ordering.lt → compare_chains d e ≡ Ordering.lt → compare_chains c e ≡ Ordering.lt
    pub total : (c d : List Edge) → IsChain b src dst c → IsChain b src dst d → (c ≡ d → ⊥)
        → (compare_chains c d ≡ Ordering.lt) ⊎ (compare_chains d c ≡ Ordering.lt)

  -- 5.5: a chain into a list that is in order
  unfoldable pub insert : List Edge → List (List Edge) → List (List Edge)
  insert c [] = c ∷ []
  insert c (d ∷ ds) =
      let further = insert c ds in
      if is_lt (compare_chains c d) then c ∷ d ∷ ds else d ∷ further

  -- 5.5: one after the other
  unfoldable pub insert_all : List (List Edge) → List (List Edge) → List (List Edge)
  insert_all sorted [] = sorted
  insert_all sorted (c ∷ cs) = insert_all (insert c sorted) cs

  -- 5.5: the solutions, in order
  unfoldable pub solutions : IsdAsn → IsdAsn → List (List Edge)
  solutions src dst = insert_all [] (chains b src dst)
