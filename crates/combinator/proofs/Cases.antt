-- The tables of computed cases end to end: where a case asks for a list, for routes, for a path or for its bytes on the wire, what an exported function returns and leaves, by its
-- contract, is what stands beside the question. The first table is of docs/SPECIFICATION.md 13.1; its cases that ask for the printed text are those
-- of crate `printed`, proofs/Cases.
-- Assumes nothing.
use Prim.Native.Nat.{ℕ}
use mathlib.Core.Path.{◌≡◌, ap, ◌∙◌}
use mathlib.Core.List.{List, ◌∷◌, ◌++◌, Memᴰ as Mem}
use Rattle.sha256.specs.Message.{sha256}
use Rattle.spec.proofs.CasesForm.{list, route, assemble, write, read, case, answer}
use Rattle.spec.proofs.Cases.{table}
use Rattle.spec.proofs.AddedCases.{table as added, hashed}
use Rattle.spec.proofs.PinnedCases.{table as pinned}
use Rattle.spec.proofs.RouteCases.{table as routes}
use Rattle.spec.proofs.WireCases.{table as wires, bytewise}
use Rattle.spec.proofs.CasesRead.{p-answer, added-answer, hashed-answer, wire-answer}
use Rattle.combinator.specs.Exports.{Returned, numbered_list, numbered_path, numbered_wire, list_returned, routes_returned, path_returned, write_returned, read_returned}

-- the number, then the output's bytes
abbrev bytes_of : Returned → List ℕ
bytes_of x = x.0 ∷ x.1

-- `combinator_list`: a case of the first table, and a case with SHA-256 of the second
module _ (b : List ℕ) (src dst bytes : ℕ) (expected : List ℕ) (r : ℕ) (out : List ℕ) (q : ◌≡◌ {A = Returned} (r, out) (list_returned b src dst bytes)) where
  pub list-case : Mem (case (list b src dst bytes) expected) table → r ∷ out ≡ expected
  unfolding answer list_returned numbered_list
  list-case m = ap bytes_of q ∙ p-answer sha256 (case (list b src dst bytes) expected) m

  pub hashed-list-case : Mem (case (list b src dst bytes) expected) hashed → r ∷ out ≡ expected
  unfolding answer list_returned numbered_list
  hashed-list-case m = ap bytes_of q ∙ hashed-answer (case (list b src dst bytes) expected) m

-- `combinator_routes`: the same
module _ (b : List ℕ) (src dst bytes : ℕ) (expected : List ℕ) (r : ℕ) (out : List ℕ) (q : ◌≡◌ {A = Returned} (r, out) (routes_returned b src dst bytes)) where
  pub routes-case : Mem (case (route b src dst bytes) expected) table → r ∷ out ≡ expected
  unfolding answer routes_returned numbered_list
  routes-case m = ap bytes_of q ∙ p-answer sha256 (case (route b src dst bytes) expected) m

  pub hashed-routes-case : Mem (case (route b src dst bytes) expected) hashed → r ∷ out ≡ expected
  unfolding answer routes_returned numbered_list
  hashed-routes-case m = ap bytes_of q ∙ hashed-answer (case (route b src dst bytes) expected) m

-- `combinator_assemble`, which no digest concerns: a case of the other tables
pub assemble-case : (b : List ℕ) (src dst : ℕ) (given : List ℕ) (bytes : ℕ) (expected : List ℕ) (r : ℕ) (out : List ℕ)
    → ◌≡◌ {A = Returned} (r, out) (path_returned b src dst given bytes) → Mem (case (assemble b src dst given bytes) expected) (added ++ pinned ++ routes) → r ∷ out ≡ expected
unfolding answer path_returned numbered_path
assemble-case b src dst given bytes expected r out q m = ap bytes_of q ∙ added-answer (case (assemble b src dst given bytes) expected) m

-- `combinator_write` and `combinator_read`: a case of the fifth table
module _ (given : List ℕ) (bytes : ℕ) (expected : List ℕ) (r : ℕ) (out : List ℕ) where
  pub write-case : ◌≡◌ {A = Returned} (r, out) (write_returned given bytes) → Mem (case (write given bytes) expected) (wires ++ bytewise) → r ∷ out ≡ expected
  unfolding answer write_returned numbered_wire
  write-case q m = ap bytes_of q ∙ wire-answer sha256 (case (write given bytes) expected) m

  pub read-case : ◌≡◌ {A = Returned} (r, out) (read_returned given bytes) → Mem (case (read given bytes) expected) (wires ++ bytewise) → r ∷ out ≡ expected
  unfolding answer read_returned numbered_wire
  read-case q m = ap bytes_of q ∙ wire-answer sha256 (case (read given bytes) expected) m
