-- The list of routes over the exported functions.
-- Assumes nothing.
use Prim.Native.Nat.{ℕ, ◌≤◌, ◌<◌}
use native.Mathlib.Nat.{le_refl}
use native.Mathlib.Omega.{arith}
use mathlib.Core.Path.{◌≡◌, refl, sym, ap, ap₂, ◌∙◌, subst}
use mathlib.Core.Bool.{Bool, true, false, false≢true}
use mathlib.Core.List.Memᴰ
use mathlib.Core.List.Memᴰ.{head, tail}
use mathlib.Core.List.{List, [], ◌∷◌, map, Memᴰ as Mem}
use lib.ListN.{length}
use lib.Dec.{eqb}
use borrow.Author.Tests.{eq-eqb, ne_eqb}
use Rattle.sha256.specs.Message.{sha256}
use Rattle.spec.specs.declared.Edge.{Edge}
use Rattle.spec.specs.declared.Path.{Path as PathHead}
use Rattle.std.specs.Prelude.{Ok, Err}
use Rattle.spec.specs.Answers.{ListAnswer, Assembled, refusals, list_number, listing}
use Rattle.spec.specs.declared.Outcome.TheVariants.{Path}
use Rattle.spec.specs.Limits.{path_size}
use Rattle.spec.specs.Basics.{padded, Once}
use Rattle.spec.specs.Octets.{Bytes}
use Rattle.spec.specs.Book.{verdict}
use Rattle.spec.specs.Order.{solutions}
use Rattle.spec.specs.Assembly.{combined_path, outcome}
use Rattle.spec.specs.Records.{path_octets, path_head, path_head_in, interfaces_in}
use Rattle.spec.specs.Printed.{is_path, has_path}
use Rattle.spec.specs.Routes.{route_of, lasts_to, with_path, routes, routing}
use Rattle.spec.specs.RouteDemand.{appearances, Best}
use Rattle.spec.proofs.Membership.{filter-mem}
use Rattle.spec.proofs.OnceLaws.{solutions-sound}
use Rattle.spec.proofs.LengthLaws.{list-refused}
use Rattle.spec.proofs.PrintedLaws.{filter_same}
use Rattle.spec.proofs.ReadBack.{path-read}
use Rattle.spec.proofs.AnswerLaws.{assembly-chain, first_of, answer-by}
use Rattle.spec.proofs.RouteLaws.{path-only, in-found, routing-refused, routing-counted, routes-hold as hold-of}
use Rattle.combinator.specs.Exports.{isd_asn, Returned, numbered_list, numbered_path, list_returned, routes_returned, path_returned}
use Rattle.combinator.specs.Routes.{assembled, assembles, interfaces_of, expiry_of, paths, Routes}
use Rattle.combinator.proofs.Demand3.{zero-path, demand-3}
use Rattle.combinator.proofs.Returning.{count_most}

no-path : (b : List ℕ) (c : List Edge) → (t : Bool) → has_path b c ≡ t → (has_path b c ≡ true → ⊥) → has_path b c ≡ false
no-path b c true e h = absurd (h e)
no-path b c false e h = e

-- ---- whatever the book, the one list is refused where and as the other is

module _ (b : List ℕ) (src dst bytes : ℕ) where
  pub refused-alike : refusals ≤ (list_returned b src dst bytes).0 → routes_returned b src dst bytes ≡ list_returned b src dst bytes
  unfolding list_returned routes_returned numbered_list
  refused-alike h = go (listing sha256 b (isd_asn src) (isd_asn dst) bytes).0 refl
    where
      go : (a : ListAnswer) → (listing sha256 b (isd_asn src) (isd_asn dst) bytes).0 ≡ a
          → numbered_list (routing sha256 b (isd_asn src) (isd_asn dst) bytes) ≡ numbered_list (listing sha256 b (isd_asn src) (isd_asn dst) bytes)
      go (Ok n) q = absurd (omega (arith, ap list_number q, count_most b src dst bytes _ _ refl n q))
      go (Err r) q =
          ap numbered_list
          (routing-refused sha256 b (isd_asn src) (isd_asn dst) bytes r q
          ∙ sym (ap₂ (λ x (l : List ℕ). (x, l)) q (list-refused sha256 b (isd_asn src) (isd_asn dst) bytes r q)))

  pub counted-alike : (list_returned b src dst bytes).0 < refusals → (routes_returned b src dst bytes).0 ≡ length (routes b (solutions sha256 b (isd_asn src) (isd_asn dst)))
  unfolding list_returned routes_returned numbered_list
  counted-alike h = go (listing sha256 b (isd_asn src) (isd_asn dst) bytes).0 refl
    where
      go : (a : ListAnswer) → (listing sha256 b (isd_asn src) (isd_asn dst) bytes).0 ≡ a
          → list_number (routing sha256 b (isd_asn src) (isd_asn dst) bytes).0 ≡ length (routes b (solutions sha256 b (isd_asn src) (isd_asn dst)))
      go (Ok n) q = ap list_number (routing-counted sha256 b (isd_asn src) (isd_asn dst) bytes n q)
      go (Err r) q = absurd (omega (arith, ap list_number q))

-- ---- functions that agree on the elements of a list

map_on : {A B : Type 0} (f g : A → B) (xs : List A) → ((x : A) → Mem x xs → f x ≡ g x) → map f xs ≡ map g xs
map_on f g [] h = refl
map_on f g (x ∷ xs) h = ap₂ (λ y ys. y ∷ ys) (h x (head refl)) (map_on f g xs (λ y m. h y (tail m)))

-- ---- what is returned for a solution's record

module _ (b : List ℕ) (bs : Bytes b) (ok : verdict b ≡ Ok tt) (src dst : ℕ) where
  abbrev found : List (List Edge)
  found = solutions sha256 b (isd_asn src) (isd_asn dst)

  abbrev held : List (List Edge)
  held = routes b (solutions sha256 b (isd_asn src) (isd_asn dst))

  -- tells whether it has a path
  zero_has : (c : List Edge) → Mem c found → (assembled b src dst c).0 ≡ 0 → has_path b c ≡ true
  unfolding path_returned numbered_path has_path
  zero_has c m q =
      let e = assembly-chain b (isd_asn src) (isd_asn dst) path_size ok (le_refl path_size) c (solutions-sound sha256 b (isd_asn src) (isd_asn dst) c m) in
      ap is_path (sym (first_of b path_size c) ∙ sym (ap (λ (x : Assembled). x.0) e) ∙ zero-path _ q)

  module _ (c : List Edge) (m : Mem c found) (h : has_path b c ≡ true) where
    outcome-path : outcome (combined_path b c) ≡ Path
    outcome-path = path-only (outcome (combined_path b c)) (unfold has_path in h)

    -- and is that path
    whole : assembled b src dst c ≡ (0, padded path_size (path_octets (combined_path b c)))
    unfolding path_returned numbered_path
    whole =
        ap numbered_path
        (assembly-chain b (isd_asn src) (isd_asn dst) path_size ok (le_refl path_size) c (solutions-sound sha256 b (isd_asn src) (isd_asn dst) c m)
        ∙ answer-by b path_size c Path outcome-path)

    has-zero : (assembled b src dst c).0 ≡ 0
    has-zero = ap (λ (x : Returned). x.0) whole

    its-route : interfaces_of b src dst c ≡ route_of b c
    unfolding interfaces_of route_of
    its-route = ap (λ (x : Returned). interfaces_in x.1) whole ∙ (path-read b bs c path_size).interfaces

    its-expiry : expiry_of b src dst c ≡ lasts_to b c
    unfolding expiry_of lasts_to path_head
    its-expiry = ap (λ (x : Returned). (path_head_in x.1).expiry) whole ∙ ap (λ (p : PathHead). p.expiry) (path-read b bs c path_size).head

  assembles-has : (c : List Edge) → Mem c found → assembles b src dst c ≡ has_path b c
  unfolding assembles
  assembles-has c m = go (has_path b c) refl
    where
      go : (t : Bool) → has_path b c ≡ t → eqb (assembled b src dst c).0 0 ≡ has_path b c
      go true e = eq-eqb _ 0 (has-zero c m e) ∙ sym e
      go false e = ne_eqb _ 0 (λ z. let w : true ≡ false = sym (zero_has c m z) ∙ e in absurd (false≢true (sym w))) ∙ sym e

  paths-are : paths b src dst ≡ with_path b found
  unfolding paths with_path
  paths-are = filter_same (assembles b src dst) (has_path b) found assembles-has

  in-paths : (c : List Edge) → Mem c (with_path b found) → Mem c found × (has_path b c ≡ true)
  unfolding with_path
  in-paths c m = filter-mem (has_path b) found m

  best-is : (c : List Edge) → Mem c found → has_path b c ≡ true → Best (route_of b) (lasts_to b) (with_path b found) c → Best (interfaces_of b src dst) (expiry_of b src dst) (paths b src dst) c
  best-is c m h w =
      record {
        before = w.before;
        after = w.after;
        place = paths-are ∙ w.place;
        sooner = λ d k q.
            let v = in-paths d (subst (Mem d) (sym w.place) (Memᴰ.append_left (c ∷ w.after) k)) in
            let l : lasts_to b d < lasts_to b c = w.sooner d k (route-by d v.0 v.1 q) in
            omega (arith, its-expiry c m h, its-expiry d v.0 v.1);
        later = λ d k q.
            let v = in-paths d (subst (Mem d) (sym w.place) (Memᴰ.append_right w.before (tail k))) in
            let l : lasts_to b d ≤ lasts_to b c = w.later d k (route-by d v.0 v.1 q) in
            omega (arith, its-expiry c m h, its-expiry d v.0 v.1);
      }
    where
      route-by : (d : List Edge) → Mem d found → has_path b d ≡ true → interfaces_of b src dst d ≡ interfaces_of b src dst c → route_of b d ≡ route_of b c
      route-by d n g q = sym (its-route d n g) ∙ q ∙ its-route c m h

-- For every accepted book, every source and every destination.
pub routes-hold : (b : List ℕ) → Bytes b → verdict b ≡ Ok tt → (src dst : ℕ) → Routes b src dst
unfolding list_returned routes_returned numbered_list
routes-hold b bs ok src dst =
    let w = hold-of sha256 b ok (isd_asn src) (isd_asn dst) in
    record {
      listed = (demand-3 b bs ok src dst).listed;
      answered = λ bytes h. ap numbered_list (w.answered bytes h);
      refused = refused-alike b src dst;
      counted = counted-alike b src dst;
      solution = w.listed;
      path = λ c m. let v = with-path c m in has-zero b bs ok src dst c v.0 v.1;
      apart = subst Once (sym interfaces-are) w.apart;
      covers = λ c m q.
          let h = zero_has b bs ok src dst c m q in
          let v = w.covers c m h in
          let p = with-path v.0 v.1 in
          (v.0, v.1, its-route b bs ok src dst v.0 p.0 p.1 ∙ v.2 ∙ sym (its-route b bs ok src dst c m h));
      longest = λ c d m n q e.
          let h = zero_has b bs ok src dst d n q in
          let p = with-path c m in
          let l : lasts_to b d ≤ lasts_to b c = w.longest c d m n h (sym (its-route b bs ok src dst d n h) ∙ e ∙ its-route b bs ok src dst c p.0 p.1) in
          omega (arith, its-expiry b bs ok src dst c p.0 p.1, its-expiry b bs ok src dst d n h);
      places =
          interfaces-are ∙ w.places
          ∙ ap (appearances []) (sym (ap (map (interfaces_of b src dst)) (paths-are b bs ok src dst) ∙ map_on (interfaces_of b src dst) (route_of b) (with_path b found)
          (λ c m. let v = in-paths b bs ok src dst c m in its-route b bs ok src dst c v.0 v.1)));
      best = λ c m. let p = with-path c m in best-is b bs ok src dst c p.0 p.1 (w.best c m);
      none = λ h bytes room. ap numbered_list (w.none (λ c m. no-path b c (has_path b c) refl (λ q. h c m (has-zero b bs ok src dst c m q))) bytes room);
      equal = λ e bytes. ap numbered_list (w.equal (ap isd_asn e) bytes);
    }
  where
    found : List (List Edge)
    found = solutions sha256 b (isd_asn src) (isd_asn dst)

    with-path : (c : List Edge) → Mem c (routes b found) → Mem c found × (has_path b c ≡ true)
    with-path c m = in-found b found c m

    interfaces-are : map (interfaces_of b src dst) (routes b found) ≡ map (route_of b) (routes b found)
    interfaces-are =
        map_on (interfaces_of b src dst) (route_of b) (routes b found) (λ c m. let v = with-path c m in its-route b bs ok src dst c v.0 v.1)
