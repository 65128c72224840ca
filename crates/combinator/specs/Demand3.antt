-- Demand 3 over the exported functions, as a statement about the definitions that their contracts are equations with.
-- Assumes nothing.
use Rattle.std.specs.Prelude.{ℕ, ◌+◌, ◌≤◌, ◌<◌, ◌≡◌, true, false, length, replicate}
use mathlib.Core.List.{List, flat_map, Memᴰ}
use Rattle.sha256.specs.Message.{sha256}
use Rattle.spec.specs.declared.Edge.{Edge}
use Rattle.spec.specs.declared.Refusal.TheVariants.{Full, Stranger}
use Rattle.spec.specs.Limits.{path_size}
use Rattle.spec.specs.Basics.{padded, Once}
use Rattle.spec.specs.Chains.{IsChain}
use Rattle.spec.specs.Order.{solutions}
use Rattle.spec.specs.Assembly.{combined_path, is_loop, is_bare}
use Rattle.spec.specs.Records.{solution_octets, path_octets, slots}
use Rattle.spec.specs.Router.{RouterAgrees}
use Rattle.spec.specs.Answers.{refusals, refusal_number}
use Rattle.spec.specs.Demand3.{InOrder}
use Rattle.combinator.specs.Exports.{isd_asn, list_returned, path_returned}

module _ (b : List ℕ) (src dst : ℕ) where
  -- the book's solutions, in order
  abbrev found : List (List Edge)
  found = solutions sha256 b (isd_asn src) (isd_asn dst)

  -- a chain of the book from the source to the destination
  abbrev Chain : List Edge → Type 0
  Chain c = IsChain b (isd_asn src) (isd_asn dst) c

  pub record Demand3 : Type 0 where
    -- the solutions are the chains, each once, in order
    pub sound : (c : List Edge) → Memᴰ c found → Chain c
    pub complete : (c : List Edge) → Chain c → Memᴰ c found
    pub once : Once found
    pub ordered : InOrder sha256 b found
    -- with a slot for every chain `combinator_list` returns their count and leaves their records, in the order; with fewer slots it returns Full
    pub listed : (bytes : ℕ) → length found ≤ slots bytes → list_returned b src dst bytes ≡ (length found, padded bytes (flat_map solution_octets found))
    pub full : (bytes : ℕ) → slots bytes < length found → list_returned b src dst bytes ≡ (refusals + refusal_number Full, replicate bytes 0)
    -- of a chain's record `combinator_assemble` returns 0 and leaves the chain's path, save where that is Loop, 1, or Bare, 2
    pub path : (c : List Edge) → Chain c → (bytes : ℕ) → path_size ≤ bytes
        → is_loop (combined_path b c).interfaces ≡ false → is_bare (combined_path b c).interfaces ≡ false
        → path_returned b src dst (solution_octets c) bytes ≡ (0, padded bytes (path_octets (combined_path b c)))
    pub loop : (c : List Edge) → Chain c → (bytes : ℕ) → path_size ≤ bytes
        → is_loop (combined_path b c).interfaces ≡ true → path_returned b src dst (solution_octets c) bytes ≡ (1, replicate bytes 0)
    pub bare : (c : List Edge) → Chain c → (bytes : ℕ) → path_size ≤ bytes
        → is_bare (combined_path b c).interfaces ≡ true → path_returned b src dst (solution_octets c) bytes ≡ (2, replicate bytes 0)
    -- what is no chain's record is a stranger's
    pub stranger : (given : List ℕ) → ((c : List Edge) → Chain c → given ≡ solution_octets c → ⊥) → (bytes : ℕ) → path_size ≤ bytes
        → path_returned b src dst given bytes ≡ (refusals + refusal_number Stranger, replicate bytes 0)
    -- and a router fed a path that is left, and nothing else, holds the ids of the segments
    pub routed : (c : List Edge) → Chain c → (bytes : ℕ) → path_size ≤ bytes
        → (path_returned b src dst (solution_octets c) bytes).0 ≡ 0 → RouterAgrees b c (path_returned b src dst (solution_octets c) bytes).1
