-- Demand 1 over the exported functions, as a statement about the definitions that their contracts are equations with: what they return and leave,
-- for every book, source, destination, whatever else is given (a record, a path, bytes of the wire) and output length.
-- Assumes nothing.
use Rattle.std.specs.Prelude.{ℕ, ◌+◌, ◌≤◌, ◌≡◌, ◌⊎◌, List, length, replicate}
use Rattle.spec.specs.declared.Refusal.{Refusal}
use Rattle.spec.specs.Limits.{max_slots, path_size, wire_size}
use Rattle.spec.specs.Octets.{Bytes}
use Rattle.spec.specs.Answers.{refusals, refusal_number}
use Rattle.combinator.specs.Exports.{Returned, list_returned, routes_returned, path_returned, write_returned, read_returned}

-- a refusal: past `refusals` its number, and every byte of the output 0
abbrev pub IsRefusal : ℕ → Returned → Type 0
IsRefusal bytes x = (r : Refusal) × (x ≡ (refusals + refusal_number r, replicate bytes 0))

pub record Demand1 (b : List ℕ) (src dst : ℕ) (given : List ℕ) (bytes : ℕ) : Type 0 where
  -- `combinator_list` returns a count, which is below `refusals`, or a refusal
  pub list-answer : ((list_returned b src dst bytes).0 ≤ max_slots) ⊎ IsRefusal bytes (list_returned b src dst bytes)
  -- its output keeps its length
  pub list_length : length (list_returned b src dst bytes).1 ≡ bytes
  -- so does `combinator_routes`
  pub routes-answer : ((routes_returned b src dst bytes).0 ≤ max_slots) ⊎ IsRefusal bytes (routes_returned b src dst bytes)
  pub routes-length : length (routes_returned b src dst bytes).1 ≡ bytes
  -- `combinator_assemble` returns 0 for a path, 1 for Loop, 2 for Bare, or a refusal
  pub path-answer : ((path_returned b src dst given bytes).0 ≤ 2) ⊎ IsRefusal bytes (path_returned b src dst given bytes)
  -- its output keeps its length
  pub path-length : length (path_returned b src dst given bytes).1 ≡ bytes
  -- and is all 0 where it returns no path
  pub path-none : ((path_returned b src dst given bytes).0 ≡ 0 → ⊥) → (path_returned b src dst given bytes).1 ≡ replicate bytes 0
  -- `combinator_write` and `combinator_read` return a count of bytes, or a refusal, and their outputs keep their lengths
  pub write-answer : Bytes given → ((write_returned given bytes).0 ≤ wire_size) ⊎ IsRefusal bytes (write_returned given bytes)
  pub write-length : Bytes given → length (write_returned given bytes).1 ≡ bytes
  pub read_answer : Bytes given → ((read_returned given bytes).0 ≤ path_size) ⊎ IsRefusal bytes (read_returned given bytes)
  pub read_length : Bytes given → length (read_returned given bytes).1 ≡ bytes
