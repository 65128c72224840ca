-- Outputs keep their length, and what is no list or path leaves zeros: demand 1 over the definitions.
-- Assumes nothing.
use Prim.Native.Nat.{ℕ, ◌-◌, ◌*◌, ◌≤◌}
use native.Mathlib.Nat.{div-mul-le_self}
use native.Mathlib.Omega.{arith}
use mathlib.Core.Path.{◌≡◌, refl, subst}
use mathlib.Core.Bool.{Bool, true, false}
use mathlib.Core.List.Memᴰ.{head, tail}
use mathlib.Core.List.{List, [], ◌∷◌, map, flat_map, Memᴰ as Mem}
use lib.ListN.{length, replicate, length-append, length-map, length-replicate}
use lib.Dec.{ltb}
use borrow.Author.Tests.{ltb-false}
use Rattle.spec.specs.declared.IsdAsn.{IsdAsn}
use Rattle.spec.specs.declared.Edge.{Edge}
use Rattle.spec.specs.declared.Refusal.{Refusal}
use Rattle.spec.specs.declared.Refusal.TheVariants.{Full, Small, Stranger}
use Rattle.std.specs.Prelude.{Ok, Err, if◌then◌else◌}
use Rattle.spec.specs.Answers.{ListAnswer, PathAnswer, Listed, Assembled, refused_list, listing_of, listing_on, listing, refused_path, output_of, path_answer, path_of_record, assembly_on, assembly}
use Rattle.spec.specs.Book.{Verdict, verdict}
use Rattle.spec.specs.declared.Outcome.{Outcome}
use Rattle.spec.specs.declared.Outcome.TheVariants.{Path, Loop, Bare}
use Rattle.spec.specs.Limits.{max_edges, solution_size, edge_size, path_size}
use Rattle.spec.specs.Basics.{same_list, padded}
use Rattle.spec.specs.Octets.{Bytes, octets2}
use Rattle.spec.specs.Chains.{chains}
use Rattle.spec.specs.Order.{solution_edge, solutions}
use Rattle.spec.specs.Assembly.{CombinedPath, combined_path, outcome}
use Rattle.spec.specs.Records.{edge_octets, solution_octets, path_octets, slots}
use Rattle.spec.proofs.ChainLaws.{allowed-length, chains-sound}
use Rattle.spec.proofs.OnceLaws.{solutions-sound}
use Rattle.spec.proofs.BookLaws.{accepted}
use Rattle.spec.proofs.Bounds.{flat-exact, chain-bounds}

-- ---- records

pub padded-length : (n : ℕ) (xs : List ℕ) → length xs ≤ n → length (padded n xs) ≡ n
unfolding padded
padded-length n xs h = omega (arith, length-append xs (replicate (n - length xs) 0), length-replicate {A = ℕ} (n - length xs) 0)

pub solution-length : (c : List Edge) → length c ≤ max_edges → length (solution_octets c) ≡ solution_size
unfolding solution_octets octets2
solution-length c h =
    padded-length solution_size _
    (omega (arith, flat-exact edge_octets edge_size (map solution_edge c) (λ e m. unfold edge_octets in refl), length-map c solution_edge))

pub slots-fit : (bytes : ℕ) → slots bytes * solution_size ≤ bytes
unfolding slots
slots-fit bytes = omega (arith, div-mul-le_self bytes solution_size)

-- ---- listing

abbrev Zeros : ℕ → List ℕ → Type 0
Zeros bytes l = l ≡ replicate bytes 0

abbrev is_count : ListAnswer → Type 0
is_count (Ok n) = Unit
is_count (Err r) = ⊥

module _ (digest : List ℕ → List ℕ) (b : List ℕ) (src dst : IsdAsn) (bytes : ℕ) where
  abbrev found : List (List Edge)
  found = solutions digest b src dst

  records-length : length (flat_map solution_octets found) ≡ length found * solution_size
  records-length =
      flat-exact solution_octets solution_size found
      (λ c m. solution-length c (allowed-length c (solutions-sound digest b src dst c m).kinds))

  abbrev listed : Bool → Listed
  listed full = if full then refused_list bytes Full else (Ok (length found), padded bytes (flat_map solution_octets found))

  listed-length : (t : Bool) → ltb (slots bytes) (length found) ≡ t → length (listed t).1 ≡ bytes
  unfolding refused_list
  listed-length true q = length-replicate {A = ℕ} bytes 0
  listed-length false q = padded-length bytes (flat_map solution_octets found) (omega (arith, records-length, slots-fit bytes, ltb-false (slots bytes) (length found) q))

  pub list_length : length (listing digest b src dst bytes).1 ≡ bytes
  unfolding listing listing_of refused_list
  list_length = go (verdict b)
    where
      go : (v : Verdict) → length (listing_on v bytes found).1 ≡ bytes
      go (Err r) = length-replicate {A = ℕ} bytes 0
      go (Ok tt) = listed-length (ltb (slots bytes) (length found)) refl

  listed-refused : (r : Refusal) (t : Bool) → (listed t).0 ≡ Err r → Zeros bytes (listed t).1
  unfolding refused_list
  listed-refused r true q = refl
  listed-refused r false q = absurd (subst is_count q tt)

  pub list-refused : (r : Refusal) → (listing digest b src dst bytes).0 ≡ Err r → Zeros bytes (listing digest b src dst bytes).1
  unfolding listing listing_of refused_list
  list-refused r = go (verdict b)
    where
      go : (v : Verdict) → (listing_on v bytes found).0 ≡ Err r → Zeros bytes (listing_on v bytes found).1
      go (Err s) q = refl
      go (Ok tt) q = listed-refused r (ltb (slots bytes) (length found)) q

-- ---- assembly

module _ (b : List ℕ) (bytes : ℕ) where
  -- the two facts of an answer
  pub record Clean (a : Assembled) : Type 0 where
    pub size : length a.1 ≡ bytes
    pub none : (a.0 ≡ Ok Path → ⊥) → Zeros bytes a.1

  zero-clean : (o : PathAnswer) → Clean (o, replicate bytes 0)
  zero-clean o = record { size = length-replicate {A = ℕ} bytes 0; none = λ h. refl }

  refused-clean : (r : Refusal) → Clean (refused_path bytes r)
  unfolding refused_path
  refused-clean r = zero-clean (Err r)

  left-clean : (p : CombinedPath) → length (path_octets p) ≤ bytes → (o : Outcome) → Clean (Ok o, output_of o bytes p)
  left-clean p h Path = record { size = padded-length bytes (path_octets p) h; none = λ n. absurd (n refl) }
  left-clean p h Loop = zero-clean (Ok Loop)
  left-clean p h Bare = zero-clean (Ok Bare)

  record-clean : (given : List ℕ) (cs : List (List Edge)) → ((c : List Edge) → Mem c cs → length (path_octets (combined_path b c)) ≤ bytes)
      → Clean (path_of_record b bytes given cs)
  unfolding path_of_record path_answer
  record-clean given [] h = refused-clean Stranger
  record-clean given (c ∷ cs) h = go (record-clean given cs (λ d m. h d (tail m))) (same_list given (solution_octets c))
    where
      go : Clean (path_of_record b bytes given cs) → (t : Bool) → Clean (if t then path_answer b bytes c else path_of_record b bytes given cs)
      go ih true = left-clean (combined_path b c) (h c (head refl)) (outcome (combined_path b c))
      go ih false = ih

  pub assembly-clean : Bytes b → (src dst : IsdAsn) (given : List ℕ) → Clean (assembly b src dst given bytes)
  unfolding assembly
  assembly-clean bs src dst given = go (verdict b) refl
    where
      small : verdict b ≡ Ok tt → (t : Bool) → ltb bytes path_size ≡ t
          → Clean (if t then refused_path bytes Small else path_of_record b bytes given (chains b src dst))
      small ok true q = refused-clean Small
      small ok false q =
          record-clean given (chains b src dst)
          (λ c m.
          let h = chain-bounds b bs (accepted b ok) src dst c (chains-sound b src dst c m) in
          omega (arith, h.path, ltb-false bytes path_size q))

      go : (v : Verdict) → verdict b ≡ v → Clean (assembly_on v b bytes given (chains b src dst))
      go (Err r) q = refused-clean r
      go (Ok tt) q = small q (ltb bytes path_size) refl
