-- The mark of a list of interfaces: equal lists have equal marks, whatever the keys. Any keys do; they only say how seldom unequal lists have one mark.
-- Assumes nothing.
use Rattle.std.specs.Prelude.{ℕ, ◌+◌, ◌*◌, ◌/◌, ◌%◌, List, [], ◌∷◌}
use Rattle.spec.specs.declared.PathInterface.{PathInterface}
use Rattle.path.specs.declared.mark.Keys.{Keys}
use Rattle.path.specs.declared.mark.Pair.{Pair}

abbrev pub prime : ℕ
prime = 2147483647

-- an interface's ISD, the two halves of its AS number and its id, each times its key
unfoldable pub weighed : Keys → ℕ → ℕ → ℕ
weighed keys local id =
    local / 281474976710656 * keys.isd + local / 16777216 % 16777216 * keys.high + local % 16777216 * keys.low + id * keys.id

-- a mark with one interface more
unfoldable pub turned : Keys → ℕ → PathInterface → ℕ
turned keys mark i = (mark * keys.turn + weighed keys i.local.0 i.id % prime) % prime

unfoldable pub mark_from : Keys → ℕ → List PathInterface → ℕ
mark_from keys mark [] = mark
mark_from keys mark (i ∷ is) = mark_from keys (turned keys mark i) is

unfoldable pub mark_of : Keys → List PathInterface → ℕ
mark_of keys is = mark_from keys 0 is

-- by two sets of keys, in sixteen bits
unfoldable pub both_marks : Pair → List PathInterface → ℕ
both_marks keys is = mark_of keys.first is * mark_of keys.second is % prime % 65536
