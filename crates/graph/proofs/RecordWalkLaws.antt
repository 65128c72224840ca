-- The edges that a record names are a chain whose record it is, or there is no such chain.
-- Assumes nothing.
use Rattle.std.proofs.lemmas.Bool.{and_from}
use Prim.Native.Nat.{ℕ, ◌+◌, ◌-◌, ◌*◌, ◌≤◌, ◌<◌}
use native.Mathlib.Omega.{arith}
use mathlib.Core.Path.{◌≡◌, refl, sym, ap, ap₂, ◌∙◌, subst}
use mathlib.Core.Logic.{⊎_elim}
use mathlib.Core.Bool.{Bool, true, false, ◌&&◌, ◌||◌, not, false≢true}
use mathlib.Core.List.Memᴰ
use mathlib.Core.List.Memᴰ.{cases_cons, head, not-nil, tail}
use mathlib.Core.List.{List, [], ◌∷◌, ◌++◌, map, Memᴰ as Mem}
use lib.ListN.{length, replicate, length-map}
use borrow.Author.Tests.{not-true}
use Rattle.spec.specs.declared.IsdAsn.{IsdAsn}
use Rattle.spec.specs.declared.Vertex.{Vertex}
use Rattle.spec.specs.declared.Vertex.TheVariants.{AS}
use Rattle.spec.specs.declared.Edge.{Edge}
use Rattle.spec.specs.declared.SolutionEdge.{SolutionEdge}
use Rattle.spec.specs.Limits.{max_edges, solution_size}
use Rattle.std.specs.Prelude.{if◌then◌else◌, None, Some}
use Rattle.spec.specs.Basics.{any, range, sum, same_list}
use Rattle.spec.specs.Edges.{same_vertex, stored_edges}
use Rattle.spec.specs.Chains.{allowed_kinds, Leads, IsChain, chains}
use Rattle.spec.specs.Order.{cost, weight_of, solution_edge}
use Rattle.spec.specs.Records.{bit, no_edge, record_edge, solution_in, solution_octets}
use Rattle.spec.specs.ByRecord.{edges_in}
use Rattle.spec.proofs.Lists.{length-range}
use Rattle.spec.proofs.Membership.{T_true, true-T, and-true, not-both, filter-mem, mem-filter, map-mem, mem-map, flat_map-mem, mem-flat_map}
use Rattle.spec.proofs.Vertices.{same_vertex-eq, eq-same_vertex}
use Rattle.spec.proofs.ByteLaws.{edges-back}
use Rattle.spec.proofs.LengthLaws.{solution-length}
use Rattle.spec.proofs.ChainLaws.{Among, allowed-length, chains-sound, chains-complete}
use Rattle.spec.proofs.OnceLaws.{any-mem}
use Rattle.spec.proofs.AnswerLaws.{same_list-eq, same_list-refl, record-chain}
use Rattle.graph.specs.declared.chains.Reached.{Reached}
use Rattle.graph.specs.Identity.{has_identity, identified_in}
use Rattle.records.specs.Octets.{record_octets}
use Rattle.graph.specs.Recorded.{is_record_of, recorded_chains, chain_in}
use Rattle.graph.specs.RecordWalk.{ahead, with_identities, begun, goes_on, one_further, kinds_allowed, own_solution, has_arrived, completes, completed}
use Rattle.equal.proofs.Sameness.{false-from}
use Rattle.records.proofs.Octets.{record_of_lem}
use Rattle.graph.proofs.PushedRecords.{solution-is}
use Rattle.graph.proofs.IdentityLaws.{has-identity, own-identity}

-- ---- stored edges by their identities

module _ (b : List ℕ) where
  identified-mem : (id : SolutionEdge) {e : Edge} → Mem e (identified_in b id) → Mem e (stored_edges b) × (solution_edge e ≡ id)
  unfolding identified_in
  identified-mem id {e} m = let w = filter-mem (has_identity id) (stored_edges b) m in (w.0, has-identity id e w.1)

  mem-identified : {e : Edge} → Mem e (stored_edges b) → Mem e (identified_in b (solution_edge e))
  unfolding identified_in
  mem-identified {e} m = mem-filter (has_identity (solution_edge e)) (stored_edges b) m (own-identity e)

  record Named (ids : List SolutionEdge) (c : List Edge) : Type 0 where
    own : map solution_edge c ≡ ids
    among : Among (stored_edges b) c

  named_none : {c : List Edge} → c ≡ [] → Named [] c
  named_none q = record { own = ap (map solution_edge) q; among = λ e m. absurd (not-nil (subst (Mem e) q m)) }

  named-ahead : (id : SolutionEdge) (ids : List SolutionEdge) (e : Edge) {c d : List Edge} → c ≡ e ∷ d → Mem e (stored_edges b) × (solution_edge e ≡ id) → Named ids d
      → Named (id ∷ ids) c
  named-ahead id ids e q m n =
      record {
        own = ap (map solution_edge) q ∙ ap₂ (λ x l. x ∷ l) m.1 n.own;
        among = λ f k. ⊎_elim (λ p. Memᴰ.cast p m.0) (λ l. n.among f l) (cases_cons (subst (Mem f) q k));
      }

  with-sound : (ids : List SolutionEdge) (c : List Edge) → Mem c (with_identities b ids) → Named ids c
  unfolding with_identities ahead
  with-sound [] c m = named_none (⊎_elim (λ q. q) (λ l. absurd (not-nil l)) (cases_cons m))
  with-sound (id ∷ ids) c m =
      let w = flat_map-mem (ahead (with_identities b ids)) (identified_in b id) m in
      let v = map-mem (λ es. w.0 ∷ es) (with_identities b ids) w.2 in
      named-ahead id ids w.0 v.2 (identified-mem id w.1) (with-sound ids v.0 v.1)

  with-complete : (c : List Edge) → Among (stored_edges b) c → Mem c (with_identities b (map solution_edge c))
  unfolding with_identities ahead
  with-complete [] among = head refl
  with-complete (e ∷ c) among =
      mem-flat_map (ahead (with_identities b (map solution_edge c))) (mem-identified (among e (head refl)))
      (mem-map (λ es. e ∷ es) (with-complete c (λ f m. among f (tail m))))

-- ---- how far edges come

passed : Reached → List Edge → Reached
passed w [] = w
passed w (e ∷ es) = passed (one_further w e) es

cost-passed : (w : Reached) (c : List Edge) → (passed w c).cost ≡ w.cost + cost c
unfolding passed one_further cost sum weight_of
cost-passed w [] = omega arith
cost-passed w (e ∷ es) =
    let q : w.cost + e.weight + cost es ≡ w.cost + (e.weight + cost es) = omega arith in
    cost-passed (one_further w e) es ∙ q

two-kinds : (x y : Bool) → kinds_allowed 2 ((0 * 2 + bit x) * 2 + bit y) ≡ not (x && y)
unfolding kinds_allowed bit
two-kinds true true = refl
two-kinds true false = refl
two-kinds false true = refl
two-kinds false false = refl

three-kinds : (x y z : Bool) → kinds_allowed 3 (((0 * 2 + bit x) * 2 + bit y) * 2 + bit z) ≡ (not x && y && not z)
unfolding kinds_allowed bit
three-kinds true true true = refl
three-kinds true true false = refl
three-kinds true false true = refl
three-kinds true false false = refl
three-kinds false true true = refl
three-kinds false true false = refl
three-kinds false false true = refl
three-kinds false false false = refl

kinds-passed : (src : IsdAsn) (c : List Edge) → length c ≤ max_edges → kinds_allowed (length c) (passed (begun src) c).kinds ≡ allowed_kinds c
unfolding allowed_kinds begun one_further passed
kinds-passed src [] h = unfold kinds_allowed in refl
kinds-passed src (e ∷ []) h = unfold kinds_allowed in refl
kinds-passed src (e ∷ f ∷ []) h = two-kinds e.core f.core
kinds-passed src (e ∷ f ∷ g ∷ []) h = three-kinds e.core f.core g.core
kinds-passed src (e ∷ f ∷ g ∷ i ∷ c) h = absurd (omega arith)

-- ---- the tests are those of a chain

module _ (dst : IsdAsn) (r : List ℕ) (n : ℕ) where
  abbrev goal : Vertex
  goal = AS dst

  abbrev fits : Reached → Bool
  fits w = kinds_allowed n w.kinds && same_list r (record_octets (own_solution r n w.cost))

  record Came (w : Reached) (c : List Edge) : Type 0 where
    away : w.at ≡ goal → ⊥
    leads : Leads goal w.at c
    fit : fits (passed w c) ≡ true

  on-from : (w : Reached) (e : Edge) → goes_on dst w e ≡ true → (w.at ≡ goal → ⊥) × (e.src ≡ w.at)
  unfolding goes_on
  on-from w e q =
      let g = and-true (not (same_vertex w.at goal)) (same_vertex e.src w.at) q in
      (λ p. not-both (eq-same_vertex w.at goal p) (not-true _ g.0), same_vertex-eq e.src w.at g.1)

  from_on : (w : Reached) (e : Edge) → (w.at ≡ goal → ⊥) → e.src ≡ w.at → goes_on dst w e ≡ true
  unfolding goes_on
  from_on w e away q = and_from _ _ (ap not (false-from (same_vertex w.at goal) (λ p. away (same_vertex-eq w.at goal p)))) (eq-same_vertex e.src w.at q)

  came : (w : Reached) (e : Edge) (es : List Edge) → completes dst r n w (e ∷ es) ≡ true → Came w (e ∷ es)
  unfolding completes has_arrived one_further passed bit
  came w e [] q =
      let h = and-true (goes_on dst w e) (has_arrived dst r n (one_further w e)) q in
      let k = and-true (same_vertex e.dst goal) (fits (one_further w e)) h.1 in
      let o = on-from w e h.0 in
      record { away = o.0; leads = (o.1, same_vertex-eq e.dst goal k.0); fit = k.1 }
  came w e (f ∷ es) q =
      let h = and-true (goes_on dst w e) (completes dst r n (one_further w e) (f ∷ es)) q in
      let o = on-from w e h.0 in
      let i = came (one_further w e) f es h.1 in
      record { away = o.0; leads = (o.1, i.away, i.leads); fit = i.fit }

  comes : (w : Reached) (c : List Edge) → Came w c → completes dst r n w c ≡ true
  unfolding completes has_arrived one_further passed bit
  comes w [] h = absurd h.leads
  comes w (e ∷ []) h =
      and_from _ _ (from_on w e h.away h.leads.0) (and_from _ _ (eq-same_vertex e.dst goal h.leads.1) h.fit)
  comes w (e ∷ f ∷ es) h =
      and_from _ _ (from_on w e h.away h.leads.0) (comes (one_further w e) (f ∷ es) (record { away = h.leads.1; leads = h.leads.2; fit = h.fit }))

-- ---- the record

module _ (r : List ℕ) (c : List Edge) where
  of-record : is_record_of r c ≡ true → r ≡ solution_octets c
  unfolding is_record_of
  of-record q = same_list-eq r (solution_octets c) q

  has-record : r ≡ solution_octets c → is_record_of r c ≡ true
  unfolding is_record_of
  has-record q = subst (λ x. same_list r x ≡ true) q (same_list-refl r)

  -- with the edges that it names itself
  module _ (src : IsdAsn) (n : ℕ) (size : n ≡ length c) (few : length c ≤ max_edges) (own : map solution_edge c ≡ map (record_edge r) (range 0 n)) where
    own-cost : (passed (begun src) c).cost ≡ cost c
    unfolding begun
    own-cost = let q : 0 + cost c ≡ cost c = omega arith in cost-passed (begun src) c ∙ q

    own-record : record_octets (own_solution r n (passed (begun src) c).cost) ≡ solution_octets c
    unfolding own_solution
    own-record =
        ap record_octets
        (solution-is c _ _ n _ refl own-cost size (ap₂ (λ l k. l ++ replicate (max_edges - k) no_edge) (sym own) size))
        ∙ record_of_lem c few

    kinds-own : kinds_allowed n (passed (begun src) c).kinds ≡ allowed_kinds c
    kinds-own = ap (λ k. kinds_allowed k (passed (begun src) c).kinds) size ∙ kinds-passed src c few

    fits-own : (dst : IsdAsn) → fits dst r n (passed (begun src) c) ≡ (allowed_kinds c && is_record_of r c)
    unfolding is_record_of
    fits-own dst = ap₂ (λ x l. x && same_list r l) kinds-own own-record

-- ---- the chains

module _ {A : Type 0} (p : A → Bool) where
  any_some : (xs : List A) → any p xs ≡ true → (x : A) × Mem x xs × (p x ≡ true)
  unfolding any
  any_some [] q = absurd (false≢true q)
  any_some (x ∷ xs) q = go (any_some xs) (p x) refl q
    where
      go : (any p xs ≡ true → (y : A) × Mem y xs × (p y ≡ true)) → (t : Bool) → p x ≡ t → (t || any p xs) ≡ true → (y : A) × Mem y (x ∷ xs) × (p y ≡ true)
      go ih true e h = (x, head refl, e)
      go ih false e h = let w = ih h in (w.0, tail w.1, w.2)

module _ (b : List ℕ) (src dst : IsdAsn) (r : List ℕ) where
  pub recorded-mem : {c : List Edge} → Mem c (recorded_chains b src dst r) → IsChain b src dst c × (r ≡ solution_octets c)
  unfolding recorded_chains
  recorded-mem {c} m =
      let f = filter-mem (is_record_of r) (chains b src dst) m in
      (chains-sound b src dst c f.0, of-record r c f.1)

  pub mem-recorded : (c : List Edge) → IsChain b src dst c → r ≡ solution_octets c → Mem c (recorded_chains b src dst r)
  unfolding recorded_chains
  mem-recorded c h q = mem-filter (is_record_of r) (chains b src dst) (chains-complete b src dst c h) (has-record r c q)

  -- a record is of one chain
  recorded-same : (c d : List Edge) → Mem c (recorded_chains b src dst r) → Mem d (recorded_chains b src dst r) → c ≡ d
  recorded-same c d k l =
      let u = recorded-mem k in
      let v = recorded-mem l in
      record-chain b src dst c d u.0 v.0 (sym u.1 ∙ v.1)

  recorded-none : ((c : List Edge) → IsChain b src dst c → r ≡ solution_octets c → ⊥) → None ≡ chain_in (recorded_chains b src dst r)
  recorded-none none = go (recorded_chains b src dst r) refl
    where
      go : (cs : List (List Edge)) → recorded_chains b src dst r ≡ cs → None ≡ chain_in cs
      go [] q = refl
      go (d ∷ ds) q = let w = recorded-mem (subst (Mem d) (sym q) (head refl)) in absurd (none d w.0 w.1)

  -- no chain's record is of that length
  pub recorded-size : (length r ≡ solution_size → ⊥) → None ≡ chain_in (recorded_chains b src dst r)
  recorded-size d = recorded-none (λ c p q. d (ap length q ∙ solution-length c (allowed-length c p.kinds)))

  module _ {n : ℕ} (m : n ≡ (solution_in r).count) where
    abbrev ids : List SolutionEdge
    ids = map (record_edge r) (range 0 n)

    abbrev tests : List Edge → Bool
    tests = completes dst r n (begun src)

    ids-size : length ids ≡ n
    ids-size = length-map (range 0 n) (record_edge r) ∙ length-range 0 n

    named-own : edges_in r ≡ ids
    unfolding edges_in solution_in
    named-own = ap (λ k. map (record_edge r) (range 0 k)) (sym m)

    own-ids : (c : List Edge) → r ≡ solution_octets c → map solution_edge c ≡ ids
    own-ids c q = sym (edges-back c) ∙ sym (ap edges_in q) ∙ named-own

    own-size : (c : List Edge) → map solution_edge c ≡ ids → n ≡ length c
    own-size c q = sym (sym (length-map c solution_edge) ∙ ap length q ∙ ids-size)

    -- what is named, and passes the tests
    named-chain : n ≤ max_edges → (c : List Edge) → Named b ids c → tests c ≡ true → Mem c (recorded_chains b src dst r)
    unfolding begun
    named-chain h [] k q =
        let size = own-size [] k.own in
        let f : fits dst r n (passed (begun src) []) ≡ true = unfold completes has_arrived passed in (and-true (same_vertex (AS src) (AS dst)) (fits dst r n (begun src)) q).1 in
        let t = and-true (allowed_kinds []) (is_record_of r []) (sym (fits-own r [] src n size (omega arith) k.own dst) ∙ f) in
        not-both t.0 (unfold allowed_kinds in refl)
    named-chain h (e ∷ es) k q =
        let c : List Edge = e ∷ es in
        let size = own-size c k.own in
        let w = came dst r n (begun src) e es q in
        let t = and-true (allowed_kinds c) (is_record_of r c) (sym (fits-own r c src n size (omega arith) k.own dst) ∙ w.fit) in
        mem-recorded c
        (record {
          differ = λ p. w.away (ap AS p);
          stored = k.among;
          kinds = true-T (allowed_kinds c) t.0;
          leads = w.leads;
        })
        (of-record r c t.1)

    -- and a chain whose record it is
    chain-named : (c : List Edge) → IsChain b src dst c → r ≡ solution_octets c → Mem c (with_identities b ids) × (tests c ≡ true)
    unfolding begun
    chain-named c h q =
        let own = own-ids c q in
        let fit = fits-own r c src n (own-size c own) (allowed-length c h.kinds) own dst in (
          subst (λ x. Mem c (with_identities b x)) own (with-complete b c h.stored),
          comes dst r n (begun src) c
              (record {
                away = λ p. h.differ (let e : src ≡ dst = cc in e);
                leads = h.leads;
                fit = fit ∙ and_from _ _ (T_true (allowed_kinds c) h.kinds) (has-record r c q);
              }),
        )

    all : completed b dst r n (begun src) 0 ≡ any tests (with_identities b ids)
    unfolding completed
    all = let e : n - 0 ≡ n = omega arith in ap (λ k. any tests (with_identities b (map (record_edge r) (range 0 k)))) e

    pub walk-recorded : n ≤ max_edges → (t : Bool) → completed b dst r n (begun src) 0 ≡ t → chain_in (recorded_chains b src dst r) ≡ (if t then Some n else None)
    walk-recorded h t q = go t (sym all ∙ q) (recorded_chains b src dst r) refl
      where
        go : (t : Bool) → any tests (with_identities b ids) ≡ t → (cs : List (List Edge)) → recorded_chains b src dst r ≡ cs → chain_in cs ≡ (if t then Some n else None)
        go true e cs q =
            let w = any_some tests (with_identities b ids) e in
            let k = with-sound b ids w.0 w.1 in
            found (own-size w.0 k.own) (named-chain h w.0 k w.2) cs q
          where
            found : {c : List Edge} → n ≡ length c → Mem c (recorded_chains b src dst r) → (cs : List (List Edge)) → recorded_chains b src dst r ≡ cs → chain_in cs ≡ Some n
            found {c} s l [] q = absurd (not-nil (subst (Mem c) q l))
            found {c} s l (d ∷ ds) q = ap Some (ap length (recorded-same d c (subst (Mem d) (sym q) (head refl)) l) ∙ sym s)
        go false e [] q = refl
        go false e (d ∷ ds) q =
            let w = recorded-mem (subst (Mem d) (sym q) (head refl)) in
            let k = chain-named d w.0 w.1 in
            not-both (any-mem tests (with_identities b ids) k.0 k.1) e

    -- no chain has so many edges
    pub recorded-long : max_edges < n → None ≡ chain_in (recorded_chains b src dst r)
    recorded-long h = recorded-none (λ c p q. omega (arith, own-size c (own-ids c q), allowed-length c p.kinds))
