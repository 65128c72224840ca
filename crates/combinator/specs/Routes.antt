-- The list of routes over the exported functions, as a statement about the definitions that their contracts are equations with. What a route
-- is and how long it lasts is read from what `combinator_assemble` leaves.
-- Assumes nothing.
use Rattle.std.specs.Prelude.{ℕ, ◌≤◌, ◌<◌, ◌≡◌, Bool, length, replicate, eqb}
use mathlib.Core.List.{List, [], map, flat_map, Memᴰ}
use Rattle.sha256.specs.Message.{sha256}
use Rattle.spec.specs.declared.Edge.{Edge}
use Rattle.spec.specs.declared.PathInterface.{PathInterface}
use Rattle.spec.specs.Limits.{path_size}
use Rattle.spec.specs.Basics.{filter, padded, Once}
use Rattle.spec.specs.Order.{solutions}
use Rattle.spec.specs.Records.{solution_octets, path_head_in, interfaces_in, slots}
use Rattle.spec.specs.Answers.{refusals}
use Rattle.spec.specs.Routes.{routes}
use Rattle.spec.specs.RouteDemand.{appearances, Best}
use Rattle.combinator.specs.Exports.{isd_asn, Returned, list_returned, routes_returned, path_returned}

module _ (b : List ℕ) (src dst : ℕ) where
  -- the book's solutions, in order, and the routes among them
  abbrev found : List (List Edge)
  found = solutions sha256 b (isd_asn src) (isd_asn dst)

  abbrev held : List (List Edge)
  held = routes b (solutions sha256 b (isd_asn src) (isd_asn dst))

  -- what `combinator_assemble` returns for a solution's record; whether that is a path; and the path's interfaces and expiry
  abbrev pub assembled : List Edge → Returned
  assembled c = path_returned b src dst (solution_octets c) path_size

  unfoldable pub assembles : List Edge → Bool
  assembles c = eqb (assembled c).0 0

  unfoldable pub interfaces_of : List Edge → List PathInterface
  interfaces_of c = interfaces_in (assembled c).1

  unfoldable pub expiry_of : List Edge → ℕ
  expiry_of c = (path_head_in (assembled c).1).expiry

  -- the solutions with a path, in order
  unfoldable pub paths : List (List Edge)
  paths = filter assembles found

  pub record Routes : Type 0 where
    -- with a slot for every chain `combinator_list` leaves the solutions, and `combinator_routes` the routes, each with their number
    pub listed : (bytes : ℕ) → length found ≤ slots bytes → list_returned b src dst bytes ≡ (length found, padded bytes (flat_map solution_octets found))
    pub answered : (bytes : ℕ) → length found ≤ slots bytes → routes_returned b src dst bytes ≡ (length held, padded bytes (flat_map solution_octets held))
    -- the one refuses where and as the other does
    pub refused : (bytes : ℕ) → refusals ≤ (list_returned b src dst bytes).0 → routes_returned b src dst bytes ≡ list_returned b src dst bytes
    pub counted : (bytes : ℕ) → (list_returned b src dst bytes).0 < refusals → (routes_returned b src dst bytes).0 ≡ length held
    -- every route is a solution, and assembles to a path
    pub solution : (c : List Edge) → Memᴰ c held → Memᴰ c found
    pub path : (c : List Edge) → Memᴰ c held → (assembled c).0 ≡ 0
    -- the interfaces of any two differ
    pub apart : Once (map interfaces_of held)
    -- every solution with a path has its interfaces there, and none with the interfaces of a route lasts longer than it
    pub covers : (c : List Edge) → Memᴰ c found → (assembled c).0 ≡ 0 → (d : List Edge) × Memᴰ d held × (interfaces_of d ≡ interfaces_of c)
    pub longest : (c d : List Edge) → Memᴰ c held → Memᴰ d found → (assembled d).0 ≡ 0 → interfaces_of d ≡ interfaces_of c → expiry_of d ≤ expiry_of c
    -- routes stand in the order in which their interfaces first appear, and each is the earliest with its interfaces and expiry
    pub places : map interfaces_of held ≡ appearances [] (map interfaces_of paths)
    pub best : (c : List Edge) → Memᴰ c held → Best interfaces_of expiry_of paths c
    -- with no path at all, and with two equal ends, the number is 0 and the output zero
    pub none : ((c : List Edge) → Memᴰ c found → (assembled c).0 ≡ 0 → ⊥) → (bytes : ℕ) → length found ≤ slots bytes → routes_returned b src dst bytes ≡ (0, replicate bytes 0)
    pub equal : src ≡ dst → (bytes : ℕ) → routes_returned b src dst bytes ≡ (0, replicate bytes 0)
