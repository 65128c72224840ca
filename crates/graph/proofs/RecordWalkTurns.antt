-- The chain of a record, step by step: what each test and each edge that is looked up settles.
-- Assumes nothing.
use Prim.Native.Nat.{ℕ, suc, zero, ◌+◌, ◌-◌, ◌*◌, ◌^◌, ◌≤◌, ◌<◌}
use native.Mathlib.Omega.{arith}
use mathlib.Core.Path.{◌≡◌, refl, sym, ap, ◌∙◌}
use mathlib.Core.Bool.{Bool, true, false, ◌&&◌, ◌||◌, not, or-false, and-false, and-or_distrib_left}
use mathlib.Core.List.{List, [], ◌∷◌, ◌++◌, map, flat_map, append-nil}
use lib.ListN.{length, replicate}
use lib.Dec.{eqb}
use borrow.Author.Tests.{eq-eqb, ne_eqb, lt-ltb, le-ltb}
use Rattle.spec.specs.declared.IsdAsn.{IsdAsn}
use Rattle.spec.specs.declared.Edge.{Edge}
use Rattle.spec.specs.declared.SolutionEdge.{SolutionEdge}
use Rattle.spec.specs.declared.Solution.{Solution}
use Rattle.std.specs.Prelude.{Ok, Err, if◌then◌else◌, None, Option, Some}
use Rattle.spec.specs.Book.{Verdict, verdict}
use Rattle.spec.specs.declared.Refusal.{Refusal}
use Rattle.spec.specs.Limits.{max_edges, solution_size}
use Rattle.spec.specs.Basics.{any, range}
use Rattle.spec.specs.Records.{bit, no_edge, record_edge}
use Rattle.graph.specs.declared.chains.Reached.{Reached}
use Rattle.graph.specs.Lookup.{found_edges}
use Rattle.graph.specs.Identity.{identified_in}
use Rattle.records.specs.Octets.{record_octets}
use Rattle.graph.specs.Recorded.{recorded_chains, chain_in, recorded_on, recorded}
use Rattle.graph.specs.RecordWalk.{ahead, with_identities, goes_on, one_further, Bounded, kinds_allowed, own_edge, own_solution, has_arrived, completes, completed}
use Rattle.records.proofs.Octets.{record-length}
use Rattle.graph.proofs.SearchLists.{range-turn}

-- ---- two tests, one after the other

pub fails : {s x : Bool} (y : Bool) → s ≡ x → s ≡ false → false ≡ (x && y)
fails y p q = sym (ap (λ t. t && y) (sym p ∙ q))

pub passes : {s x t y : Bool} → s ≡ x → s ≡ true → t ≡ y → t ≡ (x && y)
passes {y = y} p q r = r ∙ sym (ap (λ t. t && y) (sym p ∙ q))

-- ---- a record and the one that was made of the edges

pub own-size : {own : List ℕ} (s : Solution) → own ≡ record_octets s → length own ≡ solution_size
own-size s e = ap length e ∙ record-length s

own-edges : (r : List ℕ) (n : ℕ) → n ≤ max_edges
    → own_edge r n 0 ∷ own_edge r n 1 ∷ own_edge r n 2 ∷ [] ≡ map (record_edge r) (range 0 n) ++ replicate (max_edges - n) no_edge
unfolding own_edge range
own-edges r zero h = refl
own-edges r (suc zero) h = refl
own-edges r (suc (suc zero)) h = refl
own-edges r (suc (suc (suc zero))) h = refl
own-edges r (suc (suc (suc (suc n)))) h = absurd (omega arith)

module _ (r : List ℕ) (n k : ℕ) {e : SolutionEdge} where
  pub own-used : k < n → e ≡ record_edge r k → e ≡ own_edge r n k
  unfolding own_edge
  own-used h q = q ∙ sym (ap (λ t. if t then record_edge r k else no_edge) (lt-ltb k n h))

  pub own-unused : n ≤ k → e ≡ no_edge → e ≡ own_edge r n k
  unfolding own_edge
  own-unused h q = q ∙ sym (ap (λ t. if t then record_edge r k else no_edge) (le-ltb k n h))

pub own-solution : (r : List ℕ) (n cost : ℕ) → n ≤ max_edges → {x y z : SolutionEdge} → x ≡ own_edge r n 0 → y ≡ own_edge r n 1 → z ≡ own_edge r n 2
    → {s : Solution} → s ≡ record { cost = cost; count = n; edges = x ∷ y ∷ z ∷ [] } → s ≡ own_solution r n cost
unfolding own_solution
own-solution r n cost h p q u e = let o = own-edges r n h in cc

-- ---- kinds

module _ (n k : ℕ) where
  pub one-allowed : n ≡ 1 → true ≡ kinds_allowed n k
  unfolding kinds_allowed
  one-allowed e = sym (ap (λ t. if t then true else if eqb n 2 then not (eqb k 3) else eqb k 2) (eq-eqb n 1 e))

  module _ (d : n ≡ 1 → ⊥) where
    more : kinds_allowed n k ≡ (if eqb n 2 then not (eqb k 3) else eqb k 2)
    unfolding kinds_allowed
    more = ap (λ t. if t then true else if eqb n 2 then not (eqb k 3) else eqb k 2) (ne_eqb n 1 d)

    pub two-allowed : n ≡ 2 → not (eqb k 3) ≡ kinds_allowed n k
    two-allowed e = sym (more ∙ ap (λ t. if t then not (eqb k 3) else eqb k 2) (eq-eqb n 2 e))

    pub three-allowed : (n ≡ 2 → ⊥) → eqb k 2 ≡ kinds_allowed n k
    three-allowed f = sym (more ∙ ap (λ t. if t then not (eqb k 3) else eqb k 2) (ne_eqb n 2 f))

-- ---- how far edges have come

bit-small : (t : Bool) → bit t ≤ 1
unfolding bit
bit-small true = omega arith
bit-small false = omega arith

pub kinds-next : (k : ℕ) (t : Bool) {x : ℕ} → k < 2 ^ (max_edges - 1) → x ≡ bit t → k * 2 + x < 256
kinds-next k t h e = omega (arith, bit-small t)

pub bounded-two : (w : Reached) (x : ℕ) → x < max_edges → Bounded x w → Bounded (max_edges - 1) w
bounded-two w zero h s = let p = s.cost in let q = s.kinds in record { cost = omega arith; kinds = omega arith }
bounded-two w (suc zero) h s = let p = s.cost in let q = s.kinds in record { cost = omega arith; kinds = omega arith }
bounded-two w (suc (suc zero)) h s = s
bounded-two w (suc (suc (suc x))) h s = absurd (omega arith)

pub bounded-further : (w : Reached) (e : Edge) (x : ℕ) → x < max_edges → Bounded x w → {v : Reached} → v ≡ one_further w e → v.cost ≤ w.cost + 255 → Bounded (x + 1) v
unfolding one_further
bounded-further w e x h s {v} q l =
    record {
      cost = let p = s.cost in omega arith;
      kinds = omega (arith, ap (λ (u : Reached). u.kinds) q, bit-small e.core, double x h, s.kinds);
    }
  where
    double : (x : ℕ) → x < max_edges → 2 ^ (x + 1) ≡ 2 * 2 ^ x
    double zero h = refl
    double (suc zero) h = refl
    double (suc (suc zero)) h = refl
    double (suc (suc (suc x))) h = absurd (omega arith)

-- ---- an edge that is looked up

module _ (b : List ℕ) (id : SolutionEdge) (ids : List SolutionEdge) (found : Option Edge) (e : found_edges found ≡ identified_in b id) where
  with-edge : (x : Edge) → found ≡ Some x → with_identities b (id ∷ ids) ≡ ahead (with_identities b ids) x
  unfolding with_identities flat_map found_edges
  with-edge x q = ap (flat_map (ahead (with_identities b ids))) (sym e ∙ ap found_edges q) ∙ append-nil (ahead (with_identities b ids) x)

  with_nothing : found ≡ None → with_identities b (id ∷ ids) ≡ []
  unfolding with_identities flat_map found_edges
  with_nothing q = ap (flat_map (ahead (with_identities b ids))) (sym e ∙ ap found_edges q)

-- the edge goes on, and one of the lists after it does
any-ahead : (dst : IsdAsn) (r : List ℕ) (n : ℕ) (w : Reached) (e : Edge) (cs : List (List Edge))
    → any (completes dst r n w) (ahead cs e) ≡ (goes_on dst w e && any (completes dst r n (one_further w e)) cs)
unfolding any ahead completes
any-ahead dst r n w e [] = sym (and-false (goes_on dst w e))
any-ahead dst r n w e (c ∷ cs) =
    ap (λ t. (goes_on dst w e && completes dst r n (one_further w e) c) || t) (any-ahead dst r n w e cs)
    ∙ sym (and-or_distrib_left (goes_on dst w e) (completes dst r n (one_further w e) c) (any (completes dst r n (one_further w e)) cs))

module _ (b : List ℕ) (dst : IsdAsn) (r : List ℕ) (n : ℕ) (w : Reached) (x : ℕ) where
  -- all edges are passed
  pub all-passed : n ≤ x → completed b dst r n w x ≡ has_arrived dst r n w
  unfolding completed any with_identities completes range
  all-passed h =
      let z : n - x ≡ 0 = omega arith in
      ap (λ k. any (completes dst r n w) (with_identities b (map (record_edge r) (range x k)))) z ∙ or-false (has_arrived dst r n w)

  abbrev later : List SolutionEdge
  later = map (record_edge r) (range (x + 1) (n - (x + 1)))

  module _ (h : x < n) {id : SolutionEdge} (i : id ≡ record_edge r x) (found : Option Edge) (e : found_edges found ≡ identified_in b id) where
    turn : completed b dst r n w x ≡ any (completes dst r n w) (with_identities b (id ∷ later))
    unfolding completed
    turn =
        ap (λ l. any (completes dst r n w) (with_identities b (map (record_edge r) l))) (range-turn x n h)
        ∙ ap (λ d. any (completes dst r n w) (with_identities b (d ∷ later))) (sym i)

    pub edge-gone : found ≡ None → completed b dst r n w x ≡ false
    unfolding any
    edge-gone q = turn ∙ ap (any (completes dst r n w)) (with_nothing b id later found e q)

    module _ {y : Edge} (q : found ≡ Some y) {t : Bool} (o : t ≡ goes_on dst w y) where
      edge-next : completed b dst r n w x ≡ (t && completed b dst r n (one_further w y) (x + 1))
      unfolding completed
      edge-next =
          turn
          ∙ ap (any (completes dst r n w)) (with-edge b id later found e y q)
          ∙ any-ahead dst r n w y (with_identities b later)
          ∙ ap (λ t. t && completed b dst r n (one_further w y) (x + 1)) (sym o)

      pub edge-astray : t ≡ false → completed b dst r n w x ≡ false
      edge-astray p = edge-next ∙ ap (λ t. t && completed b dst r n (one_further w y) (x + 1)) p

      pub edge-passed : t ≡ true → {v : Reached} → v ≡ one_further w y → completed b dst r n w x ≡ completed b dst r n v (x + 1)
      edge-passed p s =
          edge-next ∙ ap (λ t. t && completed b dst r n (one_further w y) (x + 1)) p ∙ ap (λ v. completed b dst r n v (x + 1)) (sym s)

-- ---- with the verdict

module _ (b : List ℕ) (v : Verdict) (p : v ≡ verdict b) (src dst : IsdAsn) (r : List ℕ) where
  by-verdict : recorded_on v (recorded_chains b src dst r) ≡ recorded b src dst r
  unfolding recorded
  by-verdict = ap (λ u. recorded_on u (recorded_chains b src dst r)) p

  pub refused-said : (x : Refusal) → v ≡ Err x → Err x ≡ recorded b src dst r
  refused-said x q = sym (ap (λ u. recorded_on u (recorded_chains b src dst r)) q) ∙ by-verdict

  pub accepted-said : {s : Option ℕ} → v ≡ Ok tt → s ≡ chain_in (recorded_chains b src dst r) → Ok s ≡ recorded b src dst r
  accepted-said q e = ap Ok e ∙ sym (ap (λ u. recorded_on u (recorded_chains b src dst r)) q) ∙ by-verdict
