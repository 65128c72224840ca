-- What a segment's fingerprint is taken of, entry by entry.
-- Assumes nothing.
use Rattle.std.specs.Prelude.{ℕ, ◌+◌}
use mathlib.Core.List.{List, flat_map}
use Rattle.spec.specs.Book.{entries_at}
use Rattle.spec.specs.Order.{entry_input}

-- how many bytes an entry gives: AS 8, ingress 2, egress 2
abbrev pub input_size : ℕ
input_size = 8 + 2 + 2

-- what n entries from an offset on give
unfoldable pub inputs : List ℕ → ℕ → ℕ → List ℕ
inputs b at n = flat_map entry_input (entries_at b at n)
