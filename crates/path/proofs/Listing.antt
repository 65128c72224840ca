-- From listing's output to the list of routes: what the code answers is the definition.
-- Assumes nothing.
use Prim.Native.Nat.{ℕ, ◌+◌, ◌-◌, ◌*◌, ◌≤◌}
use native.Mathlib.Nat.{zero-add}
use native.Mathlib.Omega.{arith}
use mathlib.Core.Path.{◌≡◌, refl, sym, ap, ap₂, ◌∙◌, subst}
use mathlib.Core.Bool.{Bool, true, false}
use mathlib.Core.List.Memᴰ.{not-nil}
use mathlib.Core.List.{List, [], ◌++◌, map, flat_map, append_assoc, Memᴰ as Mem}
use lib.ListN.{length, take, drop, replicate, length-map, length-replicate, replicate-append-replicate}
use lib.Seq.{take_at, drop_at, drop-append-add, length-take-le}
use lib.Dec.{ltb}
use borrow.Author.Tests.{ltb-false}
use Rattle.sha256.specs.Message.{sha256}
use Rattle.spec.specs.declared.IsdAsn.{IsdAsn}
use Rattle.spec.specs.declared.Edge.{Edge}
use Rattle.spec.specs.declared.Refusal.{Refusal}
use Rattle.spec.specs.declared.Refusal.TheVariants.{Full}
use Rattle.std.specs.Prelude.{Ok, Err, if◌then◌else◌}
use Rattle.spec.specs.Answers.{ListAnswer, Listed, refused_list, listing_of, listing_on, listing}
use Rattle.spec.specs.Book.{Verdict, verdict}
use Rattle.spec.specs.Limits.{solution_size, max_slots, max_edges}
use Rattle.spec.specs.Basics.{filter, range, padded}
use Rattle.spec.specs.Chains.{IsChain}
use Rattle.spec.specs.Order.{solutions}
use Rattle.spec.specs.Records.{solution_octets, slots}
use Rattle.spec.specs.Assembly.{CombinedPath, combined_path, outcome}
use Rattle.spec.specs.Printed.{is_path, has_path}
use Rattle.spec.proofs.Membership.{map-mem, filter-mem}
use Rattle.spec.proofs.ChainLaws.{allowed-length}
use Rattle.spec.proofs.OnceLaws.{solutions-sound}
use Rattle.spec.proofs.ByteLaws.{read_all}
use Rattle.spec.proofs.LengthLaws.{solution-length, slots-fit, list_length, list-refused}
use Rattle.spec.proofs.Lists.{map_same, flat-map}
use Rattle.output.specs.Write.{written}
use Rattle.output.proofs.Writing.{written-within}
use Rattle.spec.proofs.Bounds.{flat-exact}
use Rattle.spec.specs.Routes.{hold_all, route_of, lasts_to, with_path, routes, routing}
use Rattle.path.specs.Slots.{record_at, records_to, path_in, has_route, route_in, expiry_in, held_to, OfBook, AllOfBook, Routed}
use Rattle.spec.proofs.HoldingLaws.{all_map, filter_map}
use Rattle.spec.proofs.RouteLaws.{routing-on, routing-refused}
use Rattle.path.proofs.Answering.{of-book, path-back}
use Rattle.path.proofs.Buffers.{records-length, records-bytes, record-mem}

-- ---- the slots hold the records

whole : List ℕ → List ℕ
whole r = r

abbrev record_from : List ℕ → ℕ → List ℕ
record_from s at = take solution_size (drop at s)

module _ (found : List (List Edge)) (few : (c : List Edge) → Mem c found → length c ≤ max_edges) (rest : List ℕ) where
  abbrev bytes : List ℕ
  bytes = flat_map solution_octets found ++ rest

  from-shift : (xs ys : List ℕ) (i : ℕ) → record_from (xs ++ ys) (length xs + i) ≡ record_from ys i
  from-shift xs ys i = ap (take solution_size) (drop-append-add xs ys i)

  from_back : (r : List ℕ) → length r ≡ solution_size → (more : List ℕ) → record_from (whole r ++ more) 0 ≡ r
  unfolding whole
  from_back r h more = take_at r more solution_size h

  whole_length_lem : (r : List ℕ) → length r ≡ solution_size → length (whole r) ≡ solution_size
  unfolding whole
  whole_length_lem r h = h

  flat-records : flat_map whole (map solution_octets found) ≡ flat_map solution_octets found
  unfolding whole
  flat-records = flat-map solution_octets whole found

  pub records-read : map (record_at (flat_map solution_octets found ++ rest)) (range 0 (length found)) ≡ map solution_octets found
  records-read =
      map_same (record_at bytes) (λ k. record_from bytes (0 + solution_size * k)) (λ k. ap (record_from bytes) (sym (zero-add (solution_size * k)))) (range 0 (length found))
      ∙ ap (λ n. map (λ k. record_from bytes (0 + solution_size * k)) (range 0 n)) (sym (length-map found solution_octets))
      ∙ read_all record_from whole (λ r. length r ≡ solution_size) solution_size from-shift from_back whole_length_lem bytes 0 (map solution_octets found)
      (λ r m. let w = map-mem solution_octets found m in ap length w.2 ∙ solution-length w.0 (few w.0 w.1))
      0 [] rest refl (ap (λ l. l ++ rest) (sym flat-records))

-- ---- a list that is counted

module _ (b : List ℕ) (src dst : IsdAsn) (size : ℕ) where
  abbrev found : List (List Edge)
  found = solutions sha256 b src dst

  pub record Counted (n : ℕ) (out : List ℕ) : Type 0 where
    pub ok : verdict b ≡ Ok tt
    pub few : length (solutions sha256 b src dst) ≤ slots size
    pub count : n ≡ length (solutions sha256 b src dst)
    pub holds : out ≡ padded size (flat_map solution_octets (solutions sha256 b src dst))
    pub long : length out ≡ size
    pub room : solution_size * n ≤ length out
    pub most : n ≤ max_slots

  slots-most : slots size ≤ max_slots
  unfolding slots
  slots-most = omega arith

  module _ (a : ListAnswer) (out : List ℕ) (q : ◌≡◌ {A = Listed} (a, out) (listing sha256 b src dst size)) where
    pub counted : (n : ℕ) → a ≡ Ok n → Counted n out
    unfolding listing listing_of refused_list
    counted n e = on (verdict b) refl (sym (ap (λ (x : Listed). x.0) q) ∙ e)
      where
        listed_by : Bool → Listed
        listed_by t = if t then (Err Full, replicate size 0) else (Ok (length found), padded size (flat_map solution_octets found))

        of : verdict b ≡ Ok tt → (t : Bool) → ltb (slots size) (length found) ≡ t → listing sha256 b src dst size ≡ listed_by t → (listed_by t).0 ≡ Ok n → Counted n out
        of ok true l e p = let z : ◌≡◌ {A = ℕ} 0 1 = cc in absurd (omega arith)
        of ok false l e p =
            let c : n ≡ length found = cc in
            let f : length found ≤ slots size = ltb-false (slots size) (length found) l in
            let g : length out ≡ size = ap (λ (x : Listed). length x.1) q ∙ list_length sha256 b src dst size in
            record {
              ok = ok;
              few = f;
              count = c;
              holds = ap (λ (x : Listed). x.1) (q ∙ e);
              long = g;
              room = omega (arith, slots-fit size);
              most = omega (arith, slots-most);
            }

        on : (v : Verdict) → verdict b ≡ v → (listing_on v size found).0 ≡ Ok n → Counted n out
        on (Err s) e p = let z : ◌≡◌ {A = ℕ} 0 1 = cc in absurd (omega arith)
        on (Ok tt) e p = of e (ltb (slots size) (length found)) refl (ap (λ v. listing_on v size found) e) p

    -- a refusal is handed on
    pub refused-same : (r : Refusal) → a ≡ Err r → ◌≡◌ {A = Listed} (Err r, out) (routing sha256 b src dst size)
    refused-same r e =
        let p : (listing sha256 b src dst size).0 ≡ Err r = sym (ap (λ (x : Listed). x.0) q) ∙ e in
        ap (λ l. (Err r, l)) (ap (λ (x : Listed). x.1) q ∙ list-refused sha256 b src dst size r p) ∙ sym (routing-refused sha256 b src dst size r p)

  -- ---- the routes of its records are the records of the routes

  module _ (n : ℕ) (out : List ℕ) (w : Counted n out) where
    chain : (c : List Edge) → Mem c found → IsChain b src dst c
    chain c m = solutions-sound sha256 b src dst c m

    -- a chain's record has the chain's path
    own-path : (c : List Edge) → IsChain b src dst c → combined_path b c ≡ path_in b (solution_octets c)
    own-path c h = sym (path-back b c (allowed-length c h.kinds))

    has-back : (c : List Edge) → IsChain b src dst c → has_path b c ≡ has_route b (solution_octets c)
    unfolding has_path has_route
    has-back c h = ap (λ (p : CombinedPath). is_path (Ok (outcome p))) (own-path c h)

    own-route : (c : List Edge) → IsChain b src dst c → route_of b c ≡ route_in b (solution_octets c)
    unfolding route_of route_in
    own-route c h = ap (λ (p : CombinedPath). p.interfaces) (own-path c h)

    own-expiry : (c : List Edge) → IsChain b src dst c → lasts_to b c ≡ expiry_in b (solution_octets c)
    unfolding lasts_to expiry_in
    own-expiry c h = ap (λ (p : CombinedPath). p.expiry) (own-path c h)

    -- a book that was listed is not refused
    pub refused-no-more : {A : Type 0} (r : Refusal) → verdict b ≡ Err r → A
    refused-no-more r e = let q : ◌≡◌ {A = Verdict} (Err r) (Ok tt) = sym e ∙ w.ok in let z : ◌≡◌ {A = ℕ} 0 1 = cc in absurd (omega arith)

    slots_read : records_to out n ≡ map solution_octets (solutions sha256 b src dst)
    unfolding padded records_to
    slots_read = ap₂ records_to w.holds w.count ∙ records-read found (λ c m. allowed-length c (chain c m).kinds) _

    -- every record is the book's
    pub all-of-book : AllOfBook b out n
    all-of-book j l = subst (OfBook b) (sym v.2) (of-book b src dst v.0 w.ok (chain v.0 v.1))
      where
        v : (c : List Edge) × Mem c found × (record_at out j ≡ solution_octets c)
        v = map-mem solution_octets found (subst (λ rs. Mem (record_at out j) rs) slots_read (record-mem out n j l))

    held-records : held_to b out n ≡ map solution_octets (routes b (solutions sha256 b src dst))
    unfolding held_to routes with_path
    held-records =
        ap (λ l. hold_all (route_in b) (expiry_in b) [] (filter (has_route b) l)) slots_read
        ∙ ap (hold_all (route_in b) (expiry_in b) []) (sym (filter_map solution_octets (has_path b) (has_route b) found (λ c m. has-back c (chain c m))))
        ∙ sym (all_map solution_octets (route_of b) (lasts_to b) (route_in b) (expiry_in b) Good
        (λ c g. own-route c g)
        (λ c g. own-expiry c g)
        [] (filter (has_path b) found) (λ c m. absurd (not-nil m))
        (λ c m. chain c (filter-mem (has_path b) found m).0))
      where
        Good : List Edge → Type 0
        Good c = IsChain b src dst c

    -- after its records listing leaves zeros
    rest-zero : drop (solution_size * n) out ≡ replicate (size - solution_size * n) 0
    unfolding padded
    rest-zero =
        ap (drop (solution_size * n)) w.holds ∙ drop_at (flat_map solution_octets found) _ (solution_size * n) bytes
        ∙ ap (λ m. replicate {A = ℕ} (size - m) 0) bytes
      where
        bytes : length (flat_map solution_octets found) ≡ solution_size * n
        bytes =
            omega
            (arith, flat-exact solution_octets solution_size found (λ c m. solution-length c (allowed-length c (chain c m).kinds)), w.count)

    pub routes-counted : (kept : ℕ) (d d' : List ℕ) → Routed b out n d kept → length d ≡ length out
        → d' ≡ written d (solution_size * kept) (replicate (solution_size * n - solution_size * kept) 0)
        → ◌≡◌ {A = Listed} (Ok kept, d') (routing sha256 b src dst size)
    unfolding padded
    routes-counted kept d d' r l z =
        let held : List (List Edge) = routes b found in
        let q : records_to d kept ≡ map solution_octets held = r.front ∙ held-records in
        let k : kept ≡ length held = sym (records-length d kept) ∙ ap length q ∙ length-map held solution_octets in
        let t : take (solution_size * kept) d ≡ flat_map solution_octets held =
        records-bytes d kept ∙ ap (flat_map (λ x. x)) q ∙ flat-map solution_octets (λ x. x) held in
        ap₂ (λ i x. (Ok i, x)) k (z ∙ cleared (flat_map solution_octets held) t)
        ∙ sym (routing-on sha256 b src dst size w.ok w.few)
      where
        low : ℕ
        low = solution_size * kept

        high : ℕ
        high = solution_size * n

        cleared : (xs : List ℕ) → take (solution_size * kept) d ≡ xs
            → written d (solution_size * kept) (replicate (solution_size * n - solution_size * kept) 0) ≡ xs ++ replicate (size - length xs) 0
        cleared xs t =
            let few = r.few in
            let m : length (take low d) ≡ low = length-take-le low d (omega (arith, w.room)) in
            let zs : length (replicate {A = ℕ} (high - low) 0) ≡ high - low = length-replicate {A = ℕ} (high - low) 0 in
            let e : low + length (replicate {A = ℕ} (high - low) 0) ≡ high = omega arith in
            let s : (high - low) + (size - high) ≡ size - length xs = omega (arith, ap length t, w.long, w.room) in
            written-within d low (replicate (high - low) 0) (omega (arith, w.room))
            ∙ ap₂ (λ x y. (x ++ replicate {A = ℕ} (high - low) 0) ++ y) t (ap (λ i. drop i d) e ∙ r.rest ∙ rest-zero)
            ∙ append_assoc xs (replicate (high - low) 0) (replicate (size - high) 0)
            ∙ ap (λ x. xs ++ x) (replicate-append-replicate {A = ℕ} (high - low) (size - high) 0 ∙ ap (λ i. replicate {A = ℕ} i 0) s)
