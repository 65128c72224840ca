-- Demand 3 as a statement: the list holds each chain of the book just once, in order; listing and assembly answer by it; and a router fed an
-- assembled path alone holds the right ids.
-- Assumes nothing.
use Prim.Native.Nat.{Ordering}
use Rattle.std.specs.Prelude.{ℕ, ◌≤◌, ◌<◌, true, false, length, replicate, ◌≡◌, Ok, Err}
use mathlib.Core.List.{List, [], ◌∷◌, flat_map, Memᴰ}
use Rattle.spec.specs.declared.IsdAsn.{IsdAsn}
use Rattle.spec.specs.declared.Edge.{Edge}
use Rattle.spec.specs.declared.Outcome.TheVariants.{Path, Loop, Bare}
use Rattle.spec.specs.declared.Refusal.TheVariants.{Full, Stranger}
use Rattle.spec.specs.Basics.{padded, Once}
use Rattle.spec.specs.Assembly.{combined_path, is_loop, is_bare}
use Rattle.spec.specs.Limits.{path_size}
use Rattle.spec.specs.Chains.{IsChain}
use Rattle.spec.specs.Order.{compare_chains, solutions}
use Rattle.spec.specs.Records.{solution_octets, path_octets, slots}
use Rattle.spec.specs.Router.{RouterAgrees}
use Rattle.spec.specs.Answers.{listing, assembly}

-- 12.3: each before all that follow it
abbrev pub InOrder : (List ℕ → List ℕ) → List ℕ → List (List Edge) → Type 0
InOrder digest b [] = Unit
InOrder digest b (c ∷ cs) = ((d : List Edge) → Memᴰ d cs → compare_chains digest b c d ≡ Ordering.lt) × InOrder digest b cs

-- 12.3: what is said of every accepted book
pub record Demand3 (digest : List ℕ → List ℕ) (b : List ℕ) (src dst : IsdAsn) : Type 0 where
  -- the solutions are the chains
  pub sound : (c : List Edge) → Memᴰ c (solutions digest b src dst) → IsChain b src dst c
  pub complete : (c : List Edge) → IsChain b src dst c → Memᴰ c (solutions digest b src dst)
  -- each once, in order: no two tie
  pub once : Once (solutions digest b src dst)
  pub ordered : InOrder digest b (solutions digest b src dst)
  -- with a slot for every chain, their count and their records, in the order; with fewer slots, Full
  pub listed : (bytes : ℕ) → length (solutions digest b src dst) ≤ slots bytes
      → listing digest b src dst bytes ≡ (Ok (length (solutions digest b src dst)), padded bytes (flat_map solution_octets (solutions digest b src dst)))
  pub full : (bytes : ℕ) → slots bytes < length (solutions digest b src dst) → listing digest b src dst bytes ≡ (Err Full, replicate bytes 0)
  -- assembly of a chain's record gives its path, save just where that is Loop or Bare
  pub path : (c : List Edge) → IsChain b src dst c → (bytes : ℕ) → path_size ≤ bytes
      → is_loop (combined_path b c).interfaces ≡ false → is_bare (combined_path b c).interfaces ≡ false
      → assembly b src dst (solution_octets c) bytes ≡ (Ok Path, padded bytes (path_octets (combined_path b c)))
  pub loop : (c : List Edge) → IsChain b src dst c → (bytes : ℕ) → path_size ≤ bytes
      → is_loop (combined_path b c).interfaces ≡ true → assembly b src dst (solution_octets c) bytes ≡ (Ok Loop, replicate bytes 0)
  pub bare : (c : List Edge) → IsChain b src dst c → (bytes : ℕ) → path_size ≤ bytes
      → is_bare (combined_path b c).interfaces ≡ true → assembly b src dst (solution_octets c) bytes ≡ (Ok Bare, replicate bytes 0)
  -- what is no chain's record is a stranger's
  pub stranger : (given : List ℕ) → ((c : List Edge) → IsChain b src dst c → given ≡ solution_octets c → ⊥) → (bytes : ℕ) → path_size ≤ bytes
      → assembly b src dst given bytes ≡ (Err Stranger, replicate bytes 0)
  -- and a path that it answers is the one that a router needs
  pub routed : (c : List Edge) → IsChain b src dst c → (bytes : ℕ) → path_size ≤ bytes
      → (assembly b src dst (solution_octets c) bytes).0 ≡ Ok Path → RouterAgrees b c (assembly b src dst (solution_octets c) bytes).1
