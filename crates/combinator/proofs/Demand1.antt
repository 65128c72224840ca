-- Demand 1 over the exported functions.
-- Assumes nothing.
use Prim.Native.Nat.{ℕ, ◌≤◌}
use native.Mathlib.Omega.{arith}
use mathlib.Core.Path.{◌≡◌, refl, ap, ap₂}
use mathlib.Core.Logic.{◌⊎◌, inl, inr}
use mathlib.Core.List.{List}
use lib.ListN.{replicate}
use Rattle.sha256.specs.Message.{sha256}
use Rattle.spec.specs.declared.Refusal.{Refusal}
use Rattle.std.specs.Prelude.{Ok, Err}
use Rattle.spec.specs.Answers.{ListAnswer, PathAnswer, Listed, Assembled, list_number, path_number, listing, assembly}
use Rattle.spec.specs.Wire.{WireAnswer, Carried, wire_number, writing, reading}
use Rattle.spec.specs.declared.Outcome.TheVariants.{Path, Loop, Bare}
use Rattle.spec.specs.Limits.{max_slots, path_size, wire_size}
use Rattle.spec.specs.Octets.{Bytes}
use Rattle.spec.specs.Routes.{routing}
use Rattle.spec.proofs.Demand1.{demand-1 as demand-1-of}
use Rattle.spec.proofs.WireLaws.{reversible}
use Rattle.combinator.specs.Exports.{isd_asn, numbered_list, numbered_path, numbered_wire, list_returned, routes_returned, path_returned, write_returned, read_returned}
use Rattle.combinator.specs.Demand1.{IsRefusal, Demand1}
use Rattle.combinator.proofs.Returning.{count_most, routes-most}

-- an answer that is no refusal has a low number; one that is, its own
list_cases : (bytes : ℕ) (l : Listed) → ((n : ℕ) → l.0 ≡ Ok n → n ≤ max_slots) → ((r : Refusal) → l.0 ≡ Err r → l.1 ≡ replicate bytes 0)
    → (list_number l.0 ≤ max_slots) ⊎ IsRefusal bytes (list_number l.0, l.1)
list_cases bytes l most zeros = go l.0 refl
  where
    go : (a : ListAnswer) → l.0 ≡ a → (list_number l.0 ≤ max_slots) ⊎ IsRefusal bytes (list_number l.0, l.1)
    go (Ok n) q = inl (omega (arith, ap list_number q, most n q))
    go (Err r) q = inr (r, ap₂ (λ n o. (n, o)) (ap list_number q) (zeros r q))

path-cases : (bytes : ℕ) (p : Assembled) → ((p.0 ≡ Ok Path → ⊥) → p.1 ≡ replicate bytes 0)
    → (path_number p.0 ≤ 2) ⊎ IsRefusal bytes (path_number p.0, p.1)
path-cases bytes p zeros = go p.0 refl
  where
    go : (a : PathAnswer) → p.0 ≡ a → (path_number p.0 ≤ 2) ⊎ IsRefusal bytes (path_number p.0, p.1)
    go (Ok Path) q = inl (omega (arith, ap path_number q))
    go (Ok Loop) q = inl (omega (arith, ap path_number q))
    go (Ok Bare) q = inl (omega (arith, ap path_number q))
    go (Err r) q = inr (r, ap₂ (λ n o. (n, o)) (ap path_number q) (zeros (λ e. omega (arith, ap path_number q, ap path_number e))))

wire-cases : (bytes most : ℕ) (w : Carried) → ((n : ℕ) → w.0 ≡ Ok n → n ≤ most) → ((r : Refusal) → w.0 ≡ Err r → w.1 ≡ replicate bytes 0)
    → (wire_number w.0 ≤ most) ⊎ IsRefusal bytes (wire_number w.0, w.1)
wire-cases bytes most w low zeros = go w.0 refl
  where
    go : (a : WireAnswer) → w.0 ≡ a → (wire_number w.0 ≤ most) ⊎ IsRefusal bytes (wire_number w.0, w.1)
    go (Ok n) q = inl (omega (arith, ap wire_number q, low n q))
    go (Err r) q = inr (r, ap₂ (λ n o. (n, o)) (ap wire_number q) (zeros r q))

pub demand-1 : (b : List ℕ) → Bytes b → (src dst : ℕ) (given : List ℕ) (bytes : ℕ) → Demand1 b src dst given bytes
unfolding list_returned routes_returned path_returned write_returned read_returned numbered_list numbered_path numbered_wire
demand-1 b bs src dst given bytes =
    let d = demand-1-of sha256 b bs (isd_asn src) (isd_asn dst) given bytes in
    record {
      list-answer = list_cases bytes (listing sha256 b (isd_asn src) (isd_asn dst) bytes) (count_most b src dst bytes _ _ refl) d.list-refused;
      list_length = d.list_length;
      routes-answer = list_cases bytes (routing sha256 b (isd_asn src) (isd_asn dst) bytes) (routes-most b src dst bytes _ _ refl) d.routes-refused;
      routes-length = d.routes-length;
      path-answer = path-cases bytes (assembly b (isd_asn src) (isd_asn dst) given bytes) d.path-none;
      path-length = d.path-length;
      path-none = λ h. d.path-none (λ q. h (ap path_number q));
      write-answer = λ gs. wire-cases bytes wire_size (writing given bytes) (λ n q. ((reversible given gs).wire-count n bytes q).1) d.write-refused;
      write-length = d.write-length;
      read_answer = λ gs. wire-cases bytes path_size (reading given bytes) (λ n q. ((reversible given gs).record-count n bytes q).1) d.read-refused;
      read_length = d.read_length;
    }
