-- The chains of stored edges from a source to a destination: what a chain is, and the list of all.
-- Assumes nothing.
use Rattle.std.specs.Prelude.{ℕ, zero, suc, ◌≡◌, Bool, true, false, ◌&&◌, not, T, if◌then◌else◌}
use mathlib.Core.List.{List, [], ◌∷◌, map, flat_map, Memᴰ}
use Rattle.spec.specs.declared.IsdAsn.{IsdAsn}
use Rattle.spec.specs.declared.Vertex.{Vertex}
use Rattle.spec.specs.declared.Vertex.TheVariants.{AS}
use Rattle.spec.specs.declared.Edge.{Edge}
use Rattle.spec.specs.Limits.{max_edges}
use Rattle.spec.specs.Basics.{filter}
use Rattle.spec.specs.Book.{same_as}
use Rattle.spec.specs.Edges.{same_vertex, stored_edges}

-- 4.1: one of any kind; two, not both core; three, only non-core, core, non-core
unfoldable pub allowed_kinds : List Edge → Bool
allowed_kinds [] = false
allowed_kinds (a ∷ []) = true
allowed_kinds (a ∷ b ∷ []) = not (a.core && b.core)
allowed_kinds (a ∷ b ∷ c ∷ []) = not a.core && b.core && not c.core
allowed_kinds (a ∷ b ∷ c ∷ d ∷ es) = false

-- ---- what a chain is

-- 4.2: the edges lead end to start from a vertex to the goal, and none but the last arrives at the goal
abbrev pub Leads : Vertex → Vertex → List Edge → Type 0
Leads goal at [] = ⊥
Leads goal at (e ∷ []) = (e.src ≡ at) × (e.dst ≡ goal)
Leads goal at (e ∷ f ∷ es) = (e.src ≡ at) × (e.dst ≡ goal → ⊥) × Leads goal e.dst (f ∷ es)

-- 4.3: what a chain is
pub record IsChain (b : List ℕ) (src dst : IsdAsn) (c : List Edge) : Type 0 where
  pub differ : src ≡ dst → ⊥
  pub stored : (e : Edge) → Memᴰ e c → Memᴰ e (stored_edges b)
  pub kinds : T (allowed_kinds c)
  pub leads : Leads (AS dst) (AS src) c

-- ---- the list of all chains

-- 4.4: the edges that leave a vertex
unfoldable pub leaves : Vertex → Edge → Bool
leaves v e = same_vertex e.src v

unfoldable pub leaving : Vertex → List Edge → List Edge
leaving v edges = filter (leaves v) edges

-- 4.4: what begins with an edge: it alone where it arrives at the goal, else it before each way onward
unfoldable pub beginning : (Vertex → List (List Edge)) → Vertex → Edge → List (List Edge)
beginning onward goal e =
    let longer : List (List Edge) = map (λ es. e ∷ es) (onward e.dst) in
    if same_vertex e.dst goal then (e ∷ []) ∷ [] else longer

-- 4.4: all ways to lead from a vertex to the goal over at most so many of the edges
unfoldable pub walks : ℕ → List Edge → Vertex → Vertex → List (List Edge)
walks zero edges goal at = []
walks (suc most) edges goal at = flat_map (beginning (walks most edges goal) goal) (leaving at edges)

-- 4.4: all chains
unfoldable pub chains : List ℕ → IsdAsn → IsdAsn → List (List Edge)
chains b src dst =
    if same_as src dst then []
    else filter allowed_kinds (walks max_edges (stored_edges b) (AS dst) (AS src))
