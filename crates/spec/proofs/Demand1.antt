-- Demand 1 over the definitions.
-- Assumes nothing.
use Prim.Native.Nat.{ℕ}
use mathlib.Core.List.{List}
use Rattle.spec.specs.declared.IsdAsn.{IsdAsn}
use Rattle.spec.specs.Octets.{Bytes}
use Rattle.spec.specs.Demand1.{Demand1}
use Rattle.spec.proofs.LengthLaws.{list_length, list-refused, assembly-clean}
use Rattle.spec.proofs.RouteLaws.{routing-length, routing-zeros}
use Rattle.spec.proofs.WireLaws.{writing-length, writing-zeros, reading-length, reading-zeros}

pub demand-1 : (digest : List ℕ → List ℕ) (b : List ℕ) → Bytes b → (src dst : IsdAsn) (given : List ℕ) (bytes : ℕ) → Demand1 digest b src dst given bytes
demand-1 digest b bs src dst given bytes =
    let a = assembly-clean b bytes bs src dst given in
    record {
      list_length = list_length digest b src dst bytes;
      list-refused = list-refused digest b src dst bytes;
      routes-length = routing-length digest b src dst bytes;
      routes-refused = routing-zeros digest b src dst bytes;
      path-length = a.size;
      path-none = a.none;
      write-length = writing-length given bytes;
      write-refused = writing-zeros given bytes;
      read_length = reading-length given bytes;
      read-refused = reading-zeros given bytes;
    }
