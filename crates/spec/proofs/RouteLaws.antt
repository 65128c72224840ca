-- The list of routes is what it promises to be.
-- Assumes nothing.
use Prim.Native.Nat.{ℕ, suc, ◌-◌, ◌*◌, ◌≤◌}
use native.Mathlib.Omega.{arith}
use mathlib.Core.Path.{◌≡◌, refl, sym, ap, ◌∙◌}
use mathlib.Core.Logic.{⊎_elim}
use mathlib.Core.Bool.{Bool, true, false, false≢true}
use mathlib.Core.List.Memᴰ.{head, not-nil, tail}
use mathlib.Core.List.{List, [], ◌∷◌, map, flat_map, Memᴰ as Mem}
use lib.ListN.{length, replicate, length-replicate}
use lib.Dec.{ltb}
use borrow.Author.Tests.{le-ltb, ltb-false}
use Rattle.spec.specs.declared.IsdAsn.{IsdAsn}
use Rattle.spec.specs.declared.Edge.{Edge}
use Rattle.spec.specs.declared.Refusal.{Refusal}
use Rattle.spec.specs.declared.Refusal.TheVariants.{Full}
use Rattle.std.specs.Prelude.{Ok, Err, if◌then◌else◌}
use Rattle.spec.specs.Answers.{Listed, refused_list, listing_of, listing_on, listing}
use Rattle.spec.specs.Book.{Verdict, verdict}
use Rattle.spec.specs.declared.Outcome.{Outcome}
use Rattle.spec.specs.declared.Outcome.TheVariants.{Path, Loop, Bare}
use Rattle.spec.specs.Limits.{solution_size}
use Rattle.spec.specs.Basics.{filter, padded}
use Rattle.spec.specs.Order.{solutions}
use Rattle.spec.specs.Assembly.{combined_path, outcome}
use Rattle.spec.specs.Records.{solution_octets, slots}
use Rattle.spec.specs.Printed.{is_path, has_path}
use Rattle.spec.proofs.Membership.{map-mem, filter-mem, mem-filter}
use Rattle.spec.proofs.ChainLaws.{allowed-length}
use Rattle.spec.proofs.OnceLaws.{solutions-sound}
use Rattle.spec.proofs.Bounds.{flat-exact}
use Rattle.spec.proofs.LengthLaws.{padded-length, solution-length, slots-fit}
use Rattle.spec.proofs.AnswerLaws.{assembly-chain, answer-by}
use Rattle.spec.specs.Routes.{hold_all, route_of, lasts_to, with_path, routes, routing_of, routing_on, routing}
use Rattle.spec.specs.RouteDemand.{appearances, Routes}
use Rattle.spec.proofs.HoldingLaws.{all-keys, all-mem, all-few, Good, good, best-most}

-- ---- answers

pub path-only : (o : Outcome) → is_path (Ok o) ≡ true → o ≡ Path
path-only Path q = refl
path-only Loop q = absurd (false≢true q)
path-only Bare q = absurd (false≢true q)

module _ (digest : List ℕ → List ℕ) (b : List ℕ) (src dst : IsdAsn) (bytes : ℕ) where
  abbrev found : List (List Edge)
  found = solutions digest b src dst

  abbrev listed_by : Bool → Listed
  listed_by t = if t then (Err Full, replicate bytes 0) else (Ok (length found), padded bytes (flat_map solution_octets found))

  abbrev routed-by : Bool → Listed
  routed-by t = if t then (Err Full, replicate bytes 0) else (Ok (length (routes b found)), padded bytes (flat_map solution_octets (routes b found)))

  -- refused where and as listing is, whatever the book
  pub routing-refused : (r : Refusal) → (listing digest b src dst bytes).0 ≡ Err r → routing digest b src dst bytes ≡ (Err r, replicate bytes 0)
  unfolding listing routing listing_of routing_of refused_list
  routing-refused r = go (verdict b)
    where
      by : (t : Bool) → (listed_by t).0 ≡ Err r → routed-by t ≡ (Err r, replicate bytes 0)
      by true q = ap (λ x. (x, replicate bytes 0)) q
      by false q = let z : ◌≡◌ {A = ℕ} 0 1 = cc in absurd (omega arith)

      go : (v : Verdict) → (listing_on v bytes found).0 ≡ Err r → routing_on v bytes b found ≡ (Err r, replicate bytes 0)
      go (Err s) q = ap (λ x. (x, replicate bytes 0)) q
      go (Ok tt) q = by (ltb (slots bytes) (length found)) q

  pub routing-counted : (n : ℕ) → (listing digest b src dst bytes).0 ≡ Ok n → (routing digest b src dst bytes).0 ≡ Ok (length (routes b (solutions digest b src dst)))
  unfolding listing routing listing_of routing_of refused_list
  routing-counted n = go (verdict b)
    where
      by : (t : Bool) → (listed_by t).0 ≡ Ok n → (routed-by t).0 ≡ Ok (length (routes b found))
      by true q = let z : ◌≡◌ {A = ℕ} 0 1 = cc in absurd (omega arith)
      by false q = refl

      go : (v : Verdict) → (listing_on v bytes found).0 ≡ Ok n → (routing_on v bytes b found).0 ≡ Ok (length (routes b found))
      go (Err s) q = let z : ◌≡◌ {A = ℕ} 0 1 = cc in absurd (omega arith)
      go (Ok tt) q = by (ltb (slots bytes) (length found)) q

  pub routing-on : verdict b ≡ Ok tt → length (solutions digest b src dst) ≤ slots bytes
      → routing digest b src dst bytes ≡ (Ok (length (routes b (solutions digest b src dst))), padded bytes (flat_map solution_octets (routes b (solutions digest b src dst))))
  unfolding routing routing_of
  routing-on ok h =
      ap (λ v. routing_on v bytes b (solutions digest b src dst)) ok
      ∙ ap (λ t. if t then refused_list bytes Full else (Ok (length (routes b (solutions digest b src dst))), padded bytes (flat_map solution_octets (routes b (solutions digest b src dst)))))
      (le-ltb (slots bytes) (length (solutions digest b src dst)) h)

-- ---- none

filter_none : {A : Type 0} (p : A → Bool) (xs : List A) → ((x : A) → Mem x xs → p x ≡ false) → filter p xs ≡ []
unfolding filter
filter_none p [] h = refl
filter_none p (x ∷ xs) h = ap (λ t. if t then x ∷ filter p xs else filter p xs) (h x (head refl)) ∙ filter_none p xs (λ y m. h y (tail m))

empty : {A : Type 0} (xs : List A) → ((x : A) → Mem x xs → ⊥) → xs ≡ []
empty [] h = refl
empty (x ∷ xs) h = absurd (h x (head refl))

padded-none : (bytes : ℕ) → padded bytes [] ≡ replicate bytes 0
unfolding padded
padded-none bytes = let e : bytes - 0 ≡ bytes = omega arith in ap (λ n. replicate {A = ℕ} n 0) e

no-routes : (b : List ℕ) (found : List (List Edge)) → ((c : List Edge) → Mem c found → has_path b c ≡ false) → routes b found ≡ []
unfolding routes with_path hold_all
no-routes b found h = ap (hold_all (route_of b) (lasts_to b) []) (filter_none (has_path b) found h)

-- ---- the whole

filter-few : {A : Type 0} (p : A → Bool) (xs : List A) → length (filter p xs) ≤ length xs
unfolding filter
filter-few p [] = omega arith
filter-few p (x ∷ xs) = go (p x) (filter-few p xs)
  where
    go : (t : Bool) → length (filter p xs) ≤ length xs → length (if t then x ∷ filter p xs else filter p xs) ≤ suc (length xs)
    go true ih = omega arith
    go false ih = omega arith

module _ (b : List ℕ) (found : List (List Edge)) where
  -- no more than there are solutions
  pub routes-few : length (routes b found) ≤ length found
  unfolding routes with_path
  routes-few = omega (arith, all-few (route_of b) (lasts_to b) [] (filter (has_path b) found), filter-few (has_path b) found)

  pub in-found : (c : List Edge) → Mem c (routes b found) → Mem c found × (has_path b c ≡ true)
  unfolding routes with_path
  in-found c m = ⊎_elim (λ k. absurd (not-nil k)) (λ k. filter-mem (has_path b) found k) (all-mem (route_of b) (lasts_to b) [] (filter (has_path b) found) m)

  good-routes : Good (route_of b) (lasts_to b) (with_path b found) (routes b found)
  unfolding routes
  good-routes = good (route_of b) (lasts_to b) (with_path b found)

  in-paths : (c : List Edge) → Mem c found → has_path b c ≡ true → Mem c (with_path b found)
  unfolding with_path
  in-paths c m q = mem-filter (has_path b) found m q

  places-routes : map (route_of b) (routes b found) ≡ appearances [] (map (route_of b) (with_path b found))
  unfolding routes
  places-routes = all-keys (route_of b) (lasts_to b) [] (with_path b found)

  chain-path : (c : List Edge) → has_path b c ≡ true → outcome (combined_path b c) ≡ Path
  unfolding has_path
  chain-path c q = path-only (outcome (combined_path b c)) q

-- ---- the output: its length, and zeros under a refusal

module _ (digest : List ℕ → List ℕ) (b : List ℕ) (src dst : IsdAsn) (bytes : ℕ) where
  abbrev all : List (List Edge)
  all = solutions digest b src dst

  pub routing-length : length (routing digest b src dst bytes).1 ≡ bytes
  unfolding routing routing_of refused_list
  routing-length = go (verdict b)
    where
      records : length (flat_map solution_octets (routes b all)) ≡ length (routes b all) * solution_size
      records =
          flat-exact solution_octets solution_size (routes b all)
          (λ c m. solution-length c (allowed-length c (solutions-sound digest b src dst c (in-found b all c m).0).kinds))

      by : (t : Bool) → ltb (slots bytes) (length all) ≡ t → length (routed-by digest b src dst bytes t).1 ≡ bytes
      by true q = length-replicate {A = ℕ} bytes 0
      by false q =
          padded-length bytes (flat_map solution_octets (routes b all))
          (omega (arith, records, slots-fit bytes, routes-few b all, ltb-false (slots bytes) (length all) q))

      go : (v : Verdict) → length (routing_on v bytes b all).1 ≡ bytes
      go (Err r) = length-replicate {A = ℕ} bytes 0
      go (Ok tt) = by (ltb (slots bytes) (length all)) refl

  pub routing-zeros : (r : Refusal) → (routing digest b src dst bytes).0 ≡ Err r → (routing digest b src dst bytes).1 ≡ replicate bytes 0
  unfolding routing routing_of refused_list
  routing-zeros r = go (verdict b)
    where
      by : (t : Bool) → (routed-by digest b src dst bytes t).0 ≡ Err r → (routed-by digest b src dst bytes t).1 ≡ replicate bytes 0
      by true q = refl
      by false q = let z : ◌≡◌ {A = ℕ} 0 1 = cc in absurd (omega arith)

      go : (v : Verdict) → (routing_on v bytes b all).0 ≡ Err r → (routing_on v bytes b all).1 ≡ replicate bytes 0
      go (Err s) q = refl
      go (Ok tt) q = by (ltb (slots bytes) (length all)) q

-- For every accepted book, every source and every destination.
pub routes-hold : (digest : List ℕ → List ℕ) (b : List ℕ) → verdict b ≡ Ok tt → (src dst : IsdAsn) → Routes digest b src dst
unfolding flat_map
routes-hold digest b ok src dst =
    record {
      answered = λ bytes h. routing-on digest b src dst bytes ok h;
      refused = λ bytes r q. routing-refused digest b src dst bytes r q;
      counted = λ bytes n q. routing-counted digest b src dst bytes n q;
      listed = λ c m. (in-found b found c m).0;
      path = λ c m bytes room.
          let w = in-found b found c m in
          assembly-chain b src dst bytes ok room c (solutions-sound digest b src dst c w.0) ∙ answer-by b bytes c Path (chain-path b found c w.1);
      apart = (good-routes b found).once;
      covers = λ c m q.
          let k = in-paths b found c m q in
          let w = map-mem (route_of b) (routes b found) ((good-routes b found).covers c k) in
          (w.0, w.1, sym w.2, best-most (route_of b) (lasts_to b) ((good-routes b found).best w.0 w.1) c k w.2);
      longest = λ c d m n q e. best-most (route_of b) (lasts_to b) ((good-routes b found).best c m) d (in-paths b found d n q) e;
      places = places-routes b found;
      best = (good-routes b found).best;
      none = λ h bytes room. routing-on digest b src dst bytes ok room ∙ none_left bytes found h;
      equal = λ e bytes.
          let no : (c : List Edge) → Mem c found → ⊥ = λ c m. (solutions-sound digest b src dst c m).differ e in
          let z : length found ≤ slots bytes = omega (arith, ap length (empty found no)) in
          routing-on digest b src dst bytes ok z ∙ none_left bytes found (λ c m. absurd (no c m));
    }
  where
    found : List (List Edge)
    found = solutions digest b src dst

    none_left : (bytes : ℕ) (cs : List (List Edge)) → ((c : List Edge) → Mem c cs → has_path b c ≡ false)
        → ◌≡◌ {A = Listed} (Ok (length (routes b cs)), padded bytes (flat_map solution_octets (routes b cs))) (Ok 0, replicate bytes 0)
    none_left bytes cs h =
        ap (λ l. (Ok (length l), padded bytes (flat_map solution_octets l))) (no-routes b cs h) ∙ ap (λ l. (Ok 0, l)) (padded-none bytes)
