-- What listing and assembly answer on an accepted book, and demand 3.
-- Assumes nothing.
use Rattle.std.proofs.lemmas.Bool.{and_from}
use Prim.Native.Nat.{ℕ, ◌≤◌, ◌<◌}
use native.Mathlib.Omega.{arith}
use mathlib.Core.Path.{◌≡◌, refl, sym, ap, ap₂, ◌∙◌, subst}
use mathlib.Core.Logic.{◌⊎◌, inl, inr}
use mathlib.Core.Bool.{Bool, true, false, false≢true}
use mathlib.Core.List.Memᴰ.{cases_cons, head, not-nil, tail}
use mathlib.Core.List.{List, [], ◌∷◌, ◌++◌, map, flat_map, Memᴰ as Mem, head-eq_of_cons-eq, tail-eq_of_cons-eq}
use lib.ListN.{length}
use lib.Dec.{eqb, ltb}
use borrow.Author.Tests.{eqb-true, eq-eqb, le-ltb, lt-ltb}
use Rattle.spec.specs.declared.IsdAsn.{IsdAsn}
use Rattle.spec.specs.declared.Vertex.TheVariants.{AS}
use Rattle.spec.specs.declared.Edge.{Edge}
use Rattle.spec.specs.declared.Refusal.{Refusal}
use Rattle.spec.specs.declared.Refusal.TheVariants.{Full, Small, Stranger}
use Rattle.std.specs.Prelude.{Ok, Err, if◌then◌else◌}
use Rattle.spec.specs.Answers.{Listed, Assembled, listing, listing_of, listing_on, assembly, assembly_on, path_of_record, output_of, path_answer, refused_path, refused_list}
use Rattle.spec.specs.declared.Outcome.{Outcome}
use Rattle.spec.specs.declared.Outcome.TheVariants.{Path, Loop, Bare}
use Rattle.spec.specs.Limits.{path_size}
use Rattle.spec.specs.Basics.{any, same_list, padded}
use Rattle.spec.specs.Octets.{Bytes, octets2}
use Rattle.spec.specs.Book.{verdict}
use Rattle.spec.specs.Chains.{IsChain, chains}
use Rattle.spec.specs.Order.{solution_edge, solutions}
use Rattle.spec.specs.Assembly.{CombinedPath, combined_path, is_loop, is_bare, outcome}
use Rattle.spec.specs.Records.{edge_octets, solution_octets, slots}
use Rattle.spec.specs.Router.{RouterAgrees}
use Rattle.spec.specs.declared.PathInterface.{PathInterface}
use Rattle.spec.specs.Demand3.{Demand3}
use Rattle.spec.proofs.Membership.{and-true, not-both}
use Rattle.spec.proofs.ChainLaws.{chains-sound, chains-complete}
use Rattle.spec.proofs.OnceLaws.{solutions-sound, solutions-complete, once-solutions}
use Rattle.spec.proofs.OrderLaws.{solutions-order}
use Rattle.spec.proofs.Ties.{AllSame, same-chain}
use Rattle.spec.proofs.BookLaws.{stored}
use Rattle.spec.proofs.PathLaws.{router-agrees}

-- ---- the test of equal lists

pub same_list-eq : (xs ys : List ℕ) → same_list xs ys ≡ true → xs ≡ ys
unfolding same_list
same_list-eq [] [] q = refl
same_list-eq [] (y ∷ ys) q = absurd (false≢true q)
same_list-eq (x ∷ xs) [] q = absurd (false≢true q)
same_list-eq (x ∷ xs) (y ∷ ys) q =
    let h = and-true (eqb x y) (same_list xs ys) q in
    ap₂ (λ a l. a ∷ l) (eqb-true x y h.0) (same_list-eq xs ys h.1)

pub same_list-refl : (xs : List ℕ) → same_list xs xs ≡ true
unfolding same_list
same_list-refl [] = refl
same_list-refl (x ∷ xs) = and_from (eqb x x) (same_list xs xs) (eq-eqb x x refl) (same_list-refl xs)

-- ---- a record is of one chain

edges-same : (c d : List Edge) (y z : List ℕ) → length c ≡ length d
    → flat_map edge_octets (map solution_edge c) ++ y ≡ flat_map edge_octets (map solution_edge d) ++ z → AllSame c d
unfolding flat_map edge_octets solution_edge
edges-same [] [] y z n q = tt
edges-same [] (f ∷ d) y z n q = absurd (omega arith)
edges-same (e ∷ c) [] y z n q = absurd (omega arith)
edges-same (e ∷ c) (f ∷ d) y z n q =
    let q₁ = tail-eq_of_cons-eq q in
    let q₂ = tail-eq_of_cons-eq q₁ in
    let q₃ = tail-eq_of_cons-eq q₂ in (
      record { position = head-eq_of_cons-eq q; shortcut = head-eq_of_cons-eq q₁; peer = head-eq_of_cons-eq q₂ },
      edges-same c d y z (omega arith) (tail-eq_of_cons-eq q₃),
    )

record_same : (c d : List Edge) → solution_octets c ≡ solution_octets d → AllSame c d
unfolding solution_octets padded octets2
record_same c d q =
    let q₂ = tail-eq_of_cons-eq (tail-eq_of_cons-eq q) in
    edges-same c d _ _ (head-eq_of_cons-eq q₂) (tail-eq_of_cons-eq (tail-eq_of_cons-eq q₂))

module _ (b : List ℕ) (src dst : IsdAsn) where
  pub record-chain : (c d : List Edge) → IsChain b src dst c → IsChain b src dst d → solution_octets c ≡ solution_octets d → c ≡ d
  record-chain c d p q h =
      same-chain b (AS dst) (AS src) c d p.stored q.stored p.leads q.leads (record_same c d h)

  -- ---- assembly

  module _ (bytes : ℕ) where
    -- a chain's record gets the chain's answer
    found : (c : List Edge) → IsChain b src dst c → (cs : List (List Edge)) → ((d : List Edge) → Mem d cs → IsChain b src dst d) → Mem c cs
        → path_of_record b bytes (solution_octets c) cs ≡ path_answer b bytes c
    unfolding path_of_record
    found c p [] all m = absurd (not-nil m)
    found c p (d ∷ ds) all m =
        go (found c p ds (λ x k. all x (tail k))) (same_list (solution_octets c) (solution_octets d)) refl (cases_cons m)
      where
        go : (Mem c ds → path_of_record b bytes (solution_octets c) ds ≡ path_answer b bytes c) → (t : Bool)
            → same_list (solution_octets c) (solution_octets d) ≡ t → (c ≡ d) ⊎ Mem c ds
            → (if t then path_answer b bytes d else path_of_record b bytes (solution_octets c) ds) ≡ path_answer b bytes c
        go ih true q k = ap (path_answer b bytes) (sym (record-chain c d p (all d (head refl)) (same_list-eq _ _ q)))
        go ih false q (inl e) =
            not-both (subst (λ x. same_list (solution_octets c) (solution_octets x) ≡ true) e (same_list-refl (solution_octets c))) q
        go ih false q (inr k) = ih k

    -- what is no chain's record gets Stranger
    pub strange : (given : List ℕ) (cs : List (List Edge)) → ((c : List Edge) → Mem c cs → given ≡ solution_octets c → ⊥)
        → path_of_record b bytes given cs ≡ refused_path bytes Stranger
    unfolding path_of_record
    strange given [] none = refl
    strange given (d ∷ ds) none = go (strange given ds (λ c m. none c (tail m))) (same_list given (solution_octets d)) refl
      where
        go : path_of_record b bytes given ds ≡ refused_path bytes Stranger → (t : Bool) → same_list given (solution_octets d) ≡ t
            → (if t then path_answer b bytes d else path_of_record b bytes given ds) ≡ refused_path bytes Stranger
        go ih true q = absurd (none d (head refl) (same_list-eq _ _ q))
        go ih false q = ih

    module _ (ok : verdict b ≡ Ok tt) (room : path_size ≤ bytes) where
      assembly-on : (given : List ℕ) → assembly b src dst given bytes ≡ path_of_record b bytes given (chains b src dst)
      unfolding assembly
      assembly-on given =
          ap (λ v. assembly_on v b bytes given (chains b src dst)) ok
          ∙ ap (λ t. if t then refused_path bytes Small else path_of_record b bytes given (chains b src dst)) (le-ltb bytes path_size room)

      pub assembly-chain : (c : List Edge) → IsChain b src dst c → assembly b src dst (solution_octets c) bytes ≡ path_answer b bytes c
      assembly-chain c h =
          assembly-on (solution_octets c) ∙ found c h (chains b src dst) (chains-sound b src dst) (chains-complete b src dst c h)

      pub assembly-stranger : (given : List ℕ) → ((c : List Edge) → IsChain b src dst c → given ≡ solution_octets c → ⊥)
          → assembly b src dst given bytes ≡ refused_path bytes Stranger
      assembly-stranger given none = assembly-on given ∙ strange given (chains b src dst) (λ c m. none c (chains-sound b src dst c m))

-- ---- refused

module _ (b : List ℕ) (src dst : IsdAsn) (bytes : ℕ) where
  pub listing-refused : (digest : List ℕ → List ℕ) (r : Refusal) → verdict b ≡ Err r → listing digest b src dst bytes ≡ refused_list bytes r
  unfolding listing
  listing-refused digest r q = ap (λ v. listing_on v bytes (solutions digest b src dst)) q

  pub assembly-refused : (given : List ℕ) (r : Refusal) → verdict b ≡ Err r → assembly b src dst given bytes ≡ refused_path bytes r
  unfolding assembly
  assembly-refused given r q = ap (λ v. assembly_on v b bytes given (chains b src dst)) q

  pub assembly-small : (given : List ℕ) → verdict b ≡ Ok tt → bytes < path_size → assembly b src dst given bytes ≡ refused_path bytes Small
  unfolding assembly
  assembly-small given ok h =
      ap (λ v. assembly_on v b bytes given (chains b src dst)) ok
      ∙ ap (λ t. if t then refused_path bytes Small else path_of_record b bytes given (chains b src dst)) (lt-ltb bytes path_size h)

-- ---- the three answers to a chain's record

module _ (b : List ℕ) (bytes : ℕ) (c : List Edge) where
  abbrev p : CombinedPath
  p = combined_path b c

  abbrev by : Bool → Bool → Outcome
  by l e = if l then Loop else if e then Bare else Path

  pub outcome-by : (l e : Bool) → is_loop p.interfaces ≡ l → is_bare p.interfaces ≡ e → outcome p ≡ by l e
  unfolding outcome
  outcome-by l e q r = ap₂ by q r

  pub first_of : (path_answer b bytes c).0 ≡ Ok (outcome p)
  unfolding path_answer
  first_of = refl

  pub answer-by : (o : Outcome) → outcome p ≡ o → path_answer b bytes c ≡ (Ok o, output_of o bytes p)
  unfolding path_answer
  answer-by o q = ap (λ x. (Ok x, output_of x bytes p)) q

  -- the outcome is the one that is answered
  pub outcome-is : (o : Outcome) → (path_answer b bytes c).0 ≡ Ok o → outcome p ≡ o
  unfolding path_answer
  outcome-is o q = cc

pub bare-no-loop : (is : List PathInterface) → is_bare is ≡ true → is_loop is ≡ false
unfolding is_bare is_loop any
bare-no-loop [] q = refl
bare-no-loop (i ∷ is) q = absurd (false≢true q)

-- ---- listing on an accepted book

module _ (digest : List ℕ → List ℕ) (b : List ℕ) (src dst : IsdAsn) (ok : verdict b ≡ Ok tt) (bytes : ℕ) where
  abbrev found-list : List (List Edge)
  found-list = solutions digest b src dst

  abbrev listed_by : Bool → Listed
  listed_by t = if t then refused_list bytes Full else (Ok (length found-list), padded bytes (flat_map solution_octets found-list))

  pub listing-on : (t : Bool) → ltb (slots bytes) (length found-list) ≡ t → listing digest b src dst bytes ≡ listed_by t
  unfolding listing listing_of
  listing-on t q = ap (λ v. listing_on v bytes found-list) ok ∙ ap listed_by q

-- ---- demand 3

pub demand-3 : (digest : List ℕ → List ℕ) (b : List ℕ) → Bytes b → verdict b ≡ Ok tt → (src dst : IsdAsn) → Demand3 digest b src dst
unfolding refused_list refused_path
demand-3 digest b bs ok src dst =
    record {
      sound = solutions-sound digest b src dst;
      complete = solutions-complete digest b src dst;
      once = once-solutions digest b src dst;
      ordered = solutions-order digest b src dst;
      listed = λ bytes h. listing-on digest b src dst ok bytes false (le-ltb (slots bytes) (length (solutions digest b src dst)) h);
      full = λ bytes h. listing-on digest b src dst ok bytes true (lt-ltb (slots bytes) (length (solutions digest b src dst)) h);
      path = λ c h bytes room p q. assembly-chain b src dst bytes ok room c h ∙ answer-by b bytes c Path (outcome-by b bytes c false false p q);
      loop = λ c h bytes room p.
          assembly-chain b src dst bytes ok room c h ∙ answer-by b bytes c Loop (outcome-by b bytes c true (is_bare (combined_path b c).interfaces) p refl);
      bare = λ c h bytes room q.
          assembly-chain b src dst bytes ok room c h
          ∙ answer-by b bytes c Bare (outcome-by b bytes c false true (bare-no-loop (combined_path b c).interfaces q) q);
      stranger = λ given none bytes room. assembly-stranger b src dst bytes ok room given none;
      routed = λ c h bytes room q.
          let e : assembly b src dst (solution_octets c) bytes ≡ path_answer b bytes c = assembly-chain b src dst bytes ok room c h in
          let o : outcome (combined_path b c) ≡ Path = outcome-is b bytes c Path (sym (ap (λ (x : Assembled). x.0) e) ∙ q) in
          subst (RouterAgrees b c) (sym (ap (λ (x : Assembled). x.1) (e ∙ answer-by b bytes c Path o))) (router-agrees b bs c (λ f m. stored b (h.stored f m)) bytes);
    }
