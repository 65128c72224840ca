-- Demand 1 as a statement about listing, routing, assembly, the writer and the reader.
-- Assumes nothing.
use Rattle.std.specs.Prelude.{Ok, ℕ, ◌≡◌, List, length, replicate, Err}
use Rattle.spec.specs.declared.IsdAsn.{IsdAsn}
use Rattle.spec.specs.declared.Refusal.{Refusal}
use Rattle.spec.specs.declared.Outcome.TheVariants.{Path}
use Rattle.spec.specs.Octets.{Bytes}
use Rattle.spec.specs.Answers.{listing, assembly}
use Rattle.spec.specs.Routes.{routing}
use Rattle.spec.specs.Wire.{writing, reading}

-- 12.1: on every input the output keeps its length, and whatever is no list or path leaves it zero
pub record Demand1 (digest : List ℕ → List ℕ) (b : List ℕ) (src dst : IsdAsn) (given : List ℕ) (bytes : ℕ) : Type 0 where
  pub list_length : length (listing digest b src dst bytes).1 ≡ bytes
  pub list-refused : (r : Refusal) → (listing digest b src dst bytes).0 ≡ Err r → (listing digest b src dst bytes).1 ≡ replicate bytes 0
  pub routes-length : length (routing digest b src dst bytes).1 ≡ bytes
  pub routes-refused : (r : Refusal) → (routing digest b src dst bytes).0 ≡ Err r → (routing digest b src dst bytes).1 ≡ replicate bytes 0
  pub path-length : length (assembly b src dst given bytes).1 ≡ bytes
  pub path-none : ((assembly b src dst given bytes).0 ≡ Ok Path → ⊥) → (assembly b src dst given bytes).1 ≡ replicate bytes 0
  -- what is given is a path to the writer, and bytes of the wire to the reader
  pub write-length : Bytes given → length (writing given bytes).1 ≡ bytes
  pub write-refused : (r : Refusal) → (writing given bytes).0 ≡ Err r → (writing given bytes).1 ≡ replicate bytes 0
  pub read_length : Bytes given → length (reading given bytes).1 ≡ bytes
  pub read-refused : (r : Refusal) → (reading given bytes).0 ≡ Err r → (reading given bytes).1 ≡ replicate bytes 0
