-- The edges of a record, one after the other.
-- Assumes nothing.
use Rattle.std.proofs.lemmas.List.{map-append}
use Prim.Native.Nat.{ℕ, ◌+◌, ◌*◌, ◌≤◌, ◌<◌, min}
use native.Mathlib.Nat.{le_antisymm, zero-add}
use native.Mathlib.Omega.{arith}
use mathlib.Core.Path.{◌≡◌, refl, sym, ap, ◌∙◌, subst}
use mathlib.Core.List.{List, [], ◌∷◌, ◌++◌, map, flat_map, Memᴰ as Mem}
use lib.ListN.{length, length-map}
use Rattle.spec.specs.declared.Edge.{Edge}
use Rattle.spec.specs.declared.SolutionEdge.{SolutionEdge}
use Rattle.spec.specs.Limits.{max_edges, solution_head_size, edge_size, max_mtu, max_time, path_head_size, info_size}
use Rattle.spec.specs.Basics.{range}
use Rattle.spec.specs.Assembly.{least, mtus_on, expiry_on}
use Rattle.spec.specs.Records.{record_edge}
use Rattle.spec.proofs.Lists.{map-range-last, flat_map-append, flat-one, length-range}
use Rattle.spec.proofs.Membership.{mem-map}
use Rattle.spec.proofs.BookLaws.{mem-range}
use Rattle.path.specs.declared.entry.Walk.{Walk}
use Rattle.path.specs.declared.record.Ends.{Ends}
use Rattle.path.specs.Edges.{edge_by, InBook, edge_in, edges_in, RecordInBook}
use Rattle.path.specs.Places.{Wrote, Appended}
use Rattle.path.specs.Parts.{Hops, Ases, Ids, edge_bytes, EdgeWalked}
use Rattle.path.specs.Whole.{EndsOf, HopsAndIds}
use Rattle.path.proofs.Writes.{wrote_none, wrote-join, wrote_as, appended-none, appended-join, appended-as}
use Rattle.path.proofs.Showing.{least-append, least-one}

module _ (given : List ℕ) where
  edges-length : (n : ℕ) → length (edges_in given n) ≡ n
  unfolding edges_in
  edges-length n = length-map (range 0 n) (edge_in given) ∙ length-range 0 n

  edges-mem : (n x : ℕ) → x < n → Mem (edge_by (record_edge given x)) (edges_in given n)
  unfolding edges_in edge_in
  edges-mem n x h = mem-map (edge_in given) (mem-range 0 n x (omega arith) (omega arith))

  edges_more : (x : ℕ) → edges_in given (x + 1) ≡ edges_in given x ++ (edge_by (record_edge given x) ∷ [])
  unfolding edges_in edge_in
  edges_more x = map-range-last (edge_in given) x

  module _ (b : List ℕ) (n : ℕ) (u : RecordInBook b given n) where
    pub edges_are : length (edges_in given n) ≡ n
    edges_are = edges-length n

    pub few-edges : n ≤ max_edges
    few-edges = omega (arith, u.edges.few, edges-length n)

    pub edge-fits : (x : ℕ) → x < n → solution_head_size + edge_size * x + edge_size ≤ length given
    edge-fits x h = omega (arith, few-edges, u.room)

    pub edge-in-book : (x : ℕ) → x < n → (e : SolutionEdge) → e ≡ record_edge given x → InBook b (edge_by e)
    edge-in-book x h e q = subst (λ s. InBook b (edge_by s)) (sym q) (u.edges.edges (edge_by (record_edge given x)) (edges-mem n x h))

  -- ---- what is written of each edge

  module _ (h : Edge → List ℕ) where
    flat-more : (x : ℕ) (e : SolutionEdge) → e ≡ record_edge given x → flat_map h (edges_in given x) ++ h (edge_by e) ≡ flat_map h (edges_in given (x + 1))
    flat-more x e q =
        ap (λ l. flat_map h (edges_in given x) ++ l) (sym (flat-one h (edge_by e)))
        ∙ sym (flat_map-append h (edges_in given x) (edge_by e ∷ []))
        ∙ ap (λ s. flat_map h (edges_in given x ++ (edge_by s ∷ []))) q
        ∙ ap (flat_map h) (sym (edges_more x))

    pub all_none : (d : List ℕ) (at : ℕ) → Wrote d at (flat_map h (edges_in given 0)) d at
    unfolding flat_map edges_in range
    all_none d at = wrote_none d at

    pub all_more : (x : ℕ) (e : SolutionEdge) → e ≡ record_edge given x → {d : List ℕ} {at : ℕ} {d₁ : List ℕ} {r₁ : ℕ} {d₂ : List ℕ} {r₂ : ℕ}
        → Wrote d at (flat_map h (edges_in given x)) d₁ r₁ → Wrote d₁ r₁ (h (edge_by e)) d₂ r₂ → Wrote d at (flat_map h (edges_in given (x + 1))) d₂ r₂
    all_more x e q v w = wrote_as (flat-more x e q) (wrote-join v w)

    pub all_done : (x n : ℕ) → x ≤ n → n ≤ x → {d : List ℕ} {at : ℕ} {d₁ : List ℕ} {r₁ : ℕ}
        → Wrote d at (flat_map h (edges_in given x)) d₁ r₁ → Wrote d at (flat_map h (edges_in given n)) d₁ r₁
    all_done x n p q w = wrote_as (ap (λ k. flat_map h (edges_in given k)) (le_antisymm p q)) w

    appended-more : (x : ℕ) (e : SolutionEdge) → e ≡ record_edge given x → {d : List ℕ} {at : ℕ} {d₁ : List ℕ} {r₁ : ℕ} {d₂ : List ℕ} {r₂ : ℕ}
        → Appended d at (flat_map h (edges_in given x)) d₁ r₁ → Appended d₁ r₁ (h (edge_by e)) d₂ r₂ → Appended d at (flat_map h (edges_in given (x + 1))) d₂ r₂
    appended-more x e q v w = appended-as (flat-more x e q) (appended-join v w)

    -- ---- the least of all

    least_more : (w x y z : ℕ) (e : SolutionEdge) → e ≡ record_edge given x → y ≡ least w (flat_map h (edges_in given x)) → z ≡ least y (h (edge_by e))
        → z ≡ least w (flat_map h (edges_in given (x + 1)))
    least_more w x y z e q p r =
        r ∙ ap (λ n. least n (h (edge_by e))) p ∙ sym (least-append w (flat_map h (edges_in given x)) (h (edge_by e))) ∙ ap (least w) (flat-more x e q)

  module _ (h : Edge → ℕ) where
    map_more : (x : ℕ) (e : SolutionEdge) → e ≡ record_edge given x → map h (edges_in given x) ++ (h (edge_by e) ∷ []) ≡ map h (edges_in given (x + 1))
    map_more x e q =
        ap (λ s. map h (edges_in given x) ++ (h (edge_by s) ∷ [])) q
        ∙ sym (map-append h (edges_in given x) (edge_by (record_edge given x) ∷ []))
        ∙ ap (map h) (sym (edges_more x))

    soonest-more : (w x y z : ℕ) (e : SolutionEdge) → e ≡ record_edge given x → y ≡ least w (map h (edges_in given x)) → z ≡ min y (h (edge_by e))
        → z ≡ least w (map h (edges_in given (x + 1)))
    soonest-more w x y z e q p r =
        r ∙ ap (λ n. min n (h (edge_by e))) p ∙ sym (least-one (least w (map h (edges_in given x))) (h (edge_by e)))
        ∙ sym (least-append w (map h (edges_in given x)) (h (edge_by e) ∷ [])) ∙ ap (least w) (map_more x e q)

-- ---- the walk over all

-- the first x edges are walked, hops from `start` on
pub record EdgesWalked (b given : List ℕ) (start x : ℕ) (o o' a a' i i' : List ℕ) (ends : Ends) : Type 0 where
  pub hops : Appended o start (flat_map (edge_bytes b Hops) (edges_in given x)) o' ends.hops
  pub ases : Appended a 0 (flat_map (edge_bytes b Ases) (edges_in given x)) a' ends.ases
  pub ids : Appended i 0 (flat_map (edge_bytes b Ids) (edges_in given x)) i' ends.ids
  pub mtu : ends.mtu ≡ least max_mtu (flat_map (mtus_on b) (edges_in given x))
  pub expiry : ends.expiry ≡ least max_time (map (expiry_on b) (edges_in given x))

module _ (b given : List ℕ) (start : ℕ) where
  pub walked_none : (o a i : List ℕ) → EdgesWalked b given start 0 o o a a i i (record { hops = start; ases = 0; ids = 0; mtu = max_mtu; expiry = max_time })
  unfolding flat_map edges_in range least
  walked_none o a i =
      record { hops = appended-none o start; ases = appended-none a 0; ids = appended-none i 0; mtu = refl; expiry = refl }

  pub walked_more : (x : ℕ) (e : SolutionEdge) → e ≡ record_edge given x
      → {o o₁ o₂ a a₁ a₂ i i₁ i₂ : List ℕ} {ends : Ends} → EdgesWalked b given start x o o₁ a a₁ i i₁ ends
      → {w : Walk} → EdgeWalked b (edge_by e) o₁ o₂ a₁ a₂ i₁ i₂ (record { hops = ends.hops; ases = ends.ases; ids = ends.ids; mtu = ends.mtu; units = 255 }) w
      → (end soon : ℕ) → end ≡ expiry_on b (edge_by e) → soon ≡ min ends.expiry end
      → EdgesWalked b given start (x + 1) o o₂ a a₂ i i₂ (record { hops = w.hops; ases = w.ases; ids = w.ids; mtu = w.mtu; expiry = soon })
  walked_more x e q {ends = ends} g {w} v end soon t s =
      record {
        hops = appended-more given (edge_bytes b Hops) x e q g.hops v.hops;
        ases = appended-more given (edge_bytes b Ases) x e q g.ases v.ases;
        ids = appended-more given (edge_bytes b Ids) x e q g.ids v.ids;
        mtu = least_more given (mtus_on b) max_mtu x ends.mtu w.mtu e q g.mtu v.mtu;
        expiry = soonest-more given (expiry_on b) max_time x ends.expiry soon e q g.expiry (s ∙ ap (min ends.expiry) t);
      }

  module _ (x n : ℕ) (p : x ≤ n) (q : n ≤ x) (s : start ≡ path_head_size + info_size * n) where
    all : x ≡ n
    all = le_antisymm p q

    starts : start ≡ path_head_size + info_size * length (edges_in given n)
    starts = s ∙ ap (λ k. path_head_size + info_size * k) (sym (edges-length given n))

    pub walked-ends : {o o' a a' i i' : List ℕ} {ends : Ends} → EdgesWalked b given start x o o' a a' i i' ends → EndsOf b (edges_in given n) a' ends
    walked-ends {o} {o'} {a} {a'} {i} {i'} {ends} g =
        let h : EdgesWalked b given start n o o' a a' i i' ends = subst (λ k. EdgesWalked b given start k o o' a a' i i' ends) all g in
        record {
          hops-end = h.hops.end ∙ ap (λ k. k + length (flat_map (edge_bytes b Hops) (edges_in given n))) starts;
          ases-end = h.ases.end ∙ zero-add (length (flat_map (edge_bytes b Ases) (edges_in given n)));
          ids-end = h.ids.end ∙ zero-add (length (flat_map (edge_bytes b Ids) (edges_in given n)));
          ases = h.ases.front;
          mtu = h.mtu;
          expiry = h.expiry;
        }

    pub walked-hops : {o o' a a' i i' : List ℕ} {ends : Ends} → EdgesWalked b given start x o o' a a' i i' ends → HopsAndIds b (edges_in given n) o' i' ends
    walked-hops {o} {o'} {a} {a'} {i} {i'} {ends} g =
        let h : EdgesWalked b given start n o o' a a' i i' ends = subst (λ k. EdgesWalked b given start k o o' a a' i i' ends) all g in
        record {
          before = o;
          hops = subst (λ k. Appended o k (flat_map (edge_bytes b Hops) (edges_in given n)) o' ends.hops) starts h.hops;
          ids = h.ids.front;
        }
