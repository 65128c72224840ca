-- `chains` lists just the lists of edges that are chains.
-- Assumes nothing.
use Prim.Native.Nat.{ℕ, zero, suc, ◌≤◌}
use native.Mathlib.Nat.{le_of_suc-le-suc, not-suc-le-zero}
use native.Mathlib.Omega.{arith}
use mathlib.Core.Path.{◌≡◌, refl, sym, subst}
use mathlib.Core.Logic.{⊎_elim}
use mathlib.Core.Bool.{Bool, true, false, false≢true}
use mathlib.Core.List.Memᴰ
use mathlib.Core.List.Memᴰ.{cases_cons, head, not-nil, tail}
use mathlib.Core.List.{List, [], ◌∷◌, map, Memᴰ as Mem}
use lib.ListN.{length}
use lib.Dec.{T}
use Rattle.spec.specs.declared.IsdAsn.{IsdAsn}
use Rattle.spec.specs.declared.Vertex.{Vertex}
use Rattle.spec.specs.declared.Vertex.TheVariants.{AS}
use Rattle.spec.specs.declared.Edge.{Edge}
use Rattle.spec.specs.Limits.{max_edges}
use Rattle.std.specs.Prelude.{if◌then◌else◌}
use Rattle.spec.specs.Basics.{filter}
use Rattle.spec.specs.Book.{same_as}
use Rattle.spec.specs.Edges.{same_vertex, stored_edges}
use Rattle.spec.specs.Chains.{allowed_kinds, Leads, IsChain, leaves, leaving, beginning, walks, chains}
use Rattle.spec.proofs.Membership.{T_true, true-T, not-both, filter-mem, mem-filter, map-mem, mem-map, flat_map-mem, mem-flat_map}
use Rattle.spec.proofs.Vertices.{same_as-eq, same_as-refl, same_vertex-eq, eq-same_vertex}

-- every edge of a list is among the edges
abbrev pub Among : List Edge → List Edge → Type 0
Among edges c = (e : Edge) → Mem e c → Mem e edges

-- a walk: leads to the goal over edges of the list
pub record Walk (edges : List Edge) (goal at : Vertex) (c : List Edge) : Type 0 where
  pub among : Among edges c
  pub leads : Leads goal at c

-- ---- each listed walk is one

among_one : {edges : List Edge} {e : Edge} → Mem e edges → Among edges (e ∷ [])
among_one m f k = ⊎_elim (λ q. Memᴰ.cast q m) (λ l. absurd (not-nil l)) (cases_cons k)

among-cons : {edges : List Edge} {e : Edge} {c : List Edge} → Mem e edges → Among edges c → Among edges (e ∷ c)
among-cons m a f k = ⊎_elim (λ q. Memᴰ.cast q m) (λ l. a f l) (cases_cons k)

leads_one : (goal at : Vertex) (e : Edge) → e.src ≡ at → e.dst ≡ goal → Leads goal at (e ∷ [])
leads_one goal at e p q = (p, q)

leads-cons : (goal at : Vertex) (e : Edge) (c : List Edge) → e.src ≡ at → (e.dst ≡ goal → ⊥) → Leads goal e.dst c → Leads goal at (e ∷ c)
leads-cons goal at e [] p n l = absurd l
leads-cons goal at e (f ∷ c) p n l = (p, n, l)

module _ (edges : List Edge) (goal : Vertex) where
  same-walk : {at : Vertex} {c d : List Edge} → c ≡ d → Walk edges goal at d → Walk edges goal at c
  same-walk {at} q w = subst (λ x. Walk edges goal at x) (sym q) w

  pub walks-sound : (most : ℕ) (at : Vertex) (c : List Edge) → Mem c (walks most edges goal at) → Walk edges goal at c
  unfolding walks leaving leaves beginning
  walks-sound zero at c m = absurd (not-nil m)
  walks-sound (suc most) at c m =
      let w = flat_map-mem (beginning (walks most edges goal) goal) (leaving at edges) m in
      let f = filter-mem (leaves at) edges w.1 in
      go (walks-sound most) w.0 f.0 (same_vertex-eq w.0.src at f.1) (same_vertex w.0.dst goal) refl w.2
    where
      go : ((v : Vertex) (d : List Edge) → Mem d (walks most edges goal v) → Walk edges goal v d)
          → (e : Edge) → Mem e edges → e.src ≡ at → (t : Bool) → same_vertex e.dst goal ≡ t
          → Mem c (if t then (e ∷ []) ∷ [] else map (λ es. e ∷ es) (walks most edges goal e.dst)) → Walk edges goal at c
      go ih e stored p true arrives k =
          let q : c ≡ e ∷ [] = ⊎_elim (λ q. q) (λ l. absurd (not-nil l)) (cases_cons k) in
          same-walk q (record { among = among_one stored; leads = leads_one goal at e p (same_vertex-eq e.dst goal arrives) })
      go ih e stored p false arrives k =
          let w = map-mem (λ es. e ∷ es) (walks most edges goal e.dst) k in
          let i = ih e.dst w.0 w.1 in
          same-walk w.2
          (record {
            among = among-cons stored i.among;
            leads = leads-cons goal at e w.0 p (λ q. not-both (eq-same_vertex e.dst goal q) arrives) i.leads;
          })

  -- ---- and each walk is listed

  pub walks-complete : (most : ℕ) (at : Vertex) (c : List Edge) → length c ≤ most → Walk edges goal at c → Mem c (walks most edges goal at)
  unfolding walks leaving leaves beginning
  walks-complete zero at [] h w = absurd w.leads
  walks-complete zero at (e ∷ c) h w = absurd (not-suc-le-zero h)
  walks-complete (suc most) at [] h w = absurd w.leads
  walks-complete (suc most) at (e ∷ []) h w =
      mem-flat_map (beginning (walks most edges goal) goal)
      (mem-filter (leaves at) edges (w.among e (head refl)) (eq-same_vertex e.src at w.leads.0))
      (arrived (same_vertex e.dst goal) (eq-same_vertex e.dst goal w.leads.1))
    where
      arrived : (t : Bool) → t ≡ true → Mem (e ∷ []) (if t then (e ∷ []) ∷ [] else map (λ es. e ∷ es) (walks most edges goal e.dst))
      arrived true q = head refl
      arrived false q = absurd (false≢true q)
  walks-complete (suc most) at (e ∷ f ∷ c) h w =
      mem-flat_map (beginning (walks most edges goal) goal)
      (mem-filter (leaves at) edges (w.among e (head refl)) (eq-same_vertex e.src at w.leads.0))
      (onward (same_vertex e.dst goal) refl
      (walks-complete most e.dst (f ∷ c) (le_of_suc-le-suc h) (record { among = λ g k. w.among g (tail k); leads = w.leads.2 })))
    where
      onward : (t : Bool) → same_vertex e.dst goal ≡ t → Mem (f ∷ c) (walks most edges goal e.dst)
          → Mem (e ∷ f ∷ c) (if t then (e ∷ []) ∷ [] else map (λ es. e ∷ es) (walks most edges goal e.dst))
      onward true q k = absurd (w.leads.1 (same_vertex-eq e.dst goal q))
      onward false q k = mem-map (λ es. e ∷ es) k

-- ---- chains

-- an allowed list has at most three edges
pub allowed-length : (c : List Edge) → T (allowed_kinds c) → length c ≤ max_edges
unfolding allowed_kinds
allowed-length [] t = absurd t
allowed-length (a ∷ []) t = omega arith
allowed-length (a ∷ b ∷ []) t = omega arith
allowed-length (a ∷ b ∷ c ∷ []) t = omega arith
allowed-length (a ∷ b ∷ c ∷ d ∷ es) t = absurd t

module _ (b : List ℕ) (src dst : IsdAsn) where
  pub chains-sound : (c : List Edge) → Mem c (chains b src dst) → IsChain b src dst c
  unfolding chains
  chains-sound c = go (same_as src dst) refl
    where
      go : (t : Bool) → same_as src dst ≡ t
          → Mem c (if t then [] else filter allowed_kinds (walks max_edges (stored_edges b) (AS dst) (AS src))) → IsChain b src dst c
      go true q m = absurd (not-nil m)
      go false q m =
          let f = filter-mem allowed_kinds (walks max_edges (stored_edges b) (AS dst) (AS src)) m in
          let w = walks-sound (stored_edges b) (AS dst) max_edges (AS src) c f.0 in
          record {
            differ = λ e. not-both (subst (λ x. same_as src x ≡ true) e (same_as-refl src)) q;
            stored = w.among;
            kinds = true-T (allowed_kinds c) f.1;
            leads = w.leads;
          }

  pub chains-complete : (c : List Edge) → IsChain b src dst c → Mem c (chains b src dst)
  unfolding chains
  chains-complete c h = go (same_as src dst) refl
    where
      go : (t : Bool) → same_as src dst ≡ t
          → Mem c (if t then [] else filter allowed_kinds (walks max_edges (stored_edges b) (AS dst) (AS src)))
      go true q = absurd (h.differ (same_as-eq src dst q))
      go false q =
          mem-filter allowed_kinds (walks max_edges (stored_edges b) (AS dst) (AS src))
          (walks-complete (stored_edges b) (AS dst) max_edges (AS src) c (allowed-length c h.kinds) (record { among = h.stored; leads = h.leads }))
          (T_true (allowed_kinds c) h.kinds)
