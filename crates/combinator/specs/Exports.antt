-- What the exported functions return, and the bytes that the output then holds: listing, routes and assembly in the numbers of
-- docs/SPECIFICATION.md 9.8.
-- ASes come as numbers.
-- Assumes nothing.
use Rattle.std.specs.Prelude.{ℕ, List}
use Rattle.sha256.specs.Message.{sha256}
use Rattle.spec.specs.declared.IsdAsn.{IsdAsn}
use Rattle.spec.specs.Answers.{Listed, Assembled, list_number, path_number, listing, assembly}
use Rattle.spec.specs.Routes.{routing}
use Rattle.spec.specs.Wire.{Carried, wire_number, writing, reading}

abbrev pub isd_asn : ℕ → IsdAsn
isd_asn n = record { 0 = n }

-- a number, and the output's bytes
abbrev pub Returned : Type 0
Returned = ℕ × List ℕ

unfoldable pub numbered_list : Listed → Returned
numbered_list l = (list_number l.0, l.1)

unfoldable pub numbered_path : Assembled → Returned
numbered_path p = (path_number p.0, p.1)

-- of `combinator_list`; `bytes` is the output's length
unfoldable pub list_returned : List ℕ → ℕ → ℕ → ℕ → Returned
list_returned book src dst bytes = numbered_list (listing sha256 book (isd_asn src) (isd_asn dst) bytes)

-- of `combinator_routes`
unfoldable pub routes_returned : List ℕ → ℕ → ℕ → ℕ → Returned
routes_returned book src dst bytes = numbered_list (routing sha256 book (isd_asn src) (isd_asn dst) bytes)

-- of `combinator_assemble`
unfoldable pub path_returned : List ℕ → ℕ → ℕ → List ℕ → ℕ → Returned
path_returned book src dst given bytes = numbered_path (assembly book (isd_asn src) (isd_asn dst) given bytes)

unfoldable pub numbered_wire : Carried → Returned
numbered_wire c = (wire_number c.0, c.1)

-- of `combinator_write`
unfoldable pub write_returned : List ℕ → ℕ → Returned
write_returned path bytes = numbered_wire (writing path bytes)

-- of `combinator_read`
unfoldable pub read_returned : List ℕ → ℕ → Returned
read_returned wire bytes = numbered_wire (reading wire bytes)
