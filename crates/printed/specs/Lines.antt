-- The lines of a path, from the bytes of its record.
-- Assumes nothing.
use Rattle.std.specs.Prelude.{ℕ}
use mathlib.Core.List.{List, ◌++◌, flat_map}
use Rattle.spec.specs.Basics.{range}
use Rattle.spec.specs.Records.{path_head_in, record_interface}
use Rattle.spec.specs.Router.{record_info}
use Rattle.spec.specs.Printed.{item, newline, info_line, interface_line}

-- the rest of a solution's first line
unfoldable pub fields_line : ℕ → ℕ → ℕ → List ℕ
fields_line mtu expiry hops = item " mtu " mtu ++ item " expiry " expiry ++ item " hops " hops ++ newline

unfoldable pub info_text : List ℕ → ℕ → List ℕ
info_text p k = info_line (record_info p k)

unfoldable pub interface_text : List ℕ → ℕ → List ℕ
interface_text p k = interface_line (record_interface p k)

-- so many lines
unfoldable pub lines_to : (ℕ → List ℕ) → ℕ → List ℕ
lines_to line k = flat_map line (range 0 k)

unfoldable pub path_text : List ℕ → List ℕ
path_text p =
    fields_line (path_head_in p).mtu (path_head_in p).expiry (path_head_in p).hops
    ++ lines_to (info_text p) (path_head_in p).infos
    ++ lines_to (interface_text p) (path_head_in p).interfaces
