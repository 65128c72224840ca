-- The routes of a buffer of solution records, each by the path of its edges: what the code goes by.
-- Assumes nothing.
use Rattle.std.specs.Prelude.{ℕ, zero, suc, Ok, Option, Some, None, ◌+◌, ◌*◌, ◌%◌, ◌≤◌, ◌<◌, ◌≡◌, Bool, true, false, List, [], map, length, get_or, take, drop, eqb, if◌then◌else◌}
use Rattle.spec.specs.declared.PathInterface.{PathInterface}
use Rattle.spec.specs.Limits.{solution_size, max_edges, max_entries}
use Rattle.spec.specs.Basics.{filter, range, Once}
use Rattle.spec.specs.Octets.{be16}
use Rattle.spec.specs.Book.{isd_asn_at}
use Rattle.spec.specs.Assembly.{CombinedPath, combined_path, is_loop, outcome}
use Rattle.spec.specs.Records.{solution_in}
use Rattle.spec.specs.Printed.{is_path}
use Rattle.spec.specs.Routes.{same_interfaces, hold, hold_all}
use Rattle.path.specs.declared.shown.Shown.{Shown}
use Rattle.path.specs.declared.route_list.Held.{Held}
use Rattle.path.specs.declared.mark.Pair.{Pair}
use Rattle.path.specs.Edges.{edges_in, RecordInBook}
use Rattle.path.specs.Thrice.{numbers_in, some_thrice}
use Rattle.path.specs.Marking.{both_marks}

-- the record in slot k, and the first n
abbrev pub record_at : List ℕ → ℕ → List ℕ
record_at d k = take solution_size (drop (solution_size * k) d)

unfoldable pub records_to : List ℕ → ℕ → List (List ℕ)
records_to d n = map (record_at d) (range 0 n)

-- interfaces whose ASes stand in one buffer and whose ids in another
unfoldable pub shown_at : List ℕ → List ℕ → ℕ → PathInterface
shown_at a i k = record { local = isd_asn_at a (8 * k); id = be16 i (2 * k) }

unfoldable pub shown_in : List ℕ → List ℕ → ℕ → List PathInterface
shown_in a i n = map (shown_at a i) (range 0 n)

module _ (b : List ℕ) where
  -- the path of a record's edges
  unfoldable pub path_in : List ℕ → CombinedPath
  path_in given = combined_path b (edges_in given (solution_in given).count)

  unfoldable pub has_route : List ℕ → Bool
  has_route given = is_path (Ok (outcome (path_in given)))

  unfoldable pub route_in : List ℕ → List PathInterface
  route_in given = (path_in given).interfaces

  unfoldable pub expiry_in : List ℕ → ℕ
  expiry_in given = (path_in given).expiry

  -- one more record that has a path, and one that may have none
  unfoldable pub hold_in : List ℕ → List (List ℕ) → List (List ℕ)
  hold_in a held = hold route_in expiry_in a held

  unfoldable pub step : List ℕ → List (List ℕ) → List (List ℕ)
  step a held = if has_route a then hold_in a held else held

  -- of the first n records of a buffer
  unfoldable pub held_to : List ℕ → ℕ → List (List ℕ)
  held_to d n = hold_all route_in expiry_in [] (filter has_route (records_to d n))

  -- a record whose edges are the book's
  abbrev pub OfBook : List ℕ → Type 0
  OfBook given = RecordInBook b given (solution_in given).count

  abbrev pub AllOfBook : List ℕ → ℕ → Type 0
  AllOfBook d n = (j : ℕ) → j < n → OfBook (record_at d j)

  -- the interfaces of a record's path stand in two buffers
  pub record Shows (given a i : List ℕ) (s : Shown) : Type 0 where
    pub few : s.count ≤ max_edges * max_entries * 2
    pub route : route_in given ≡ shown_in a i s.count
    pub expiry : s.expiry ≡ expiry_in given
    pub loops : some_thrice (numbers_in a 0 s.count) ≡ is_loop (route_in given)

  -- slot k was looked at for a route
  pub record Compared (route : List PathInterface) (given : List ℕ) (k : ℕ) (h : Option Held) : Type 0 where
    pub here : (x : Held) → h ≡ Some x → (x.slot ≡ k) × (same_interfaces route (route_in given) ≡ true) × (x.expiry ≡ expiry_in given)
    pub other : h ≡ None → same_interfaces route (route_in given) ≡ false

  -- the first `kept` slots were
  pub record Sought (route : List PathInterface) (d : List ℕ) (kept : ℕ) (h : Option Held) : Type 0 where
    pub some : (x : Held) → h ≡ Some x → (x.slot < kept) × (same_interfaces route (route_in (record_at d x.slot)) ≡ true) × (x.expiry ≡ expiry_in (record_at d x.slot))
    pub none : h ≡ None → (j : ℕ) → j < kept → same_interfaces route (route_in (record_at d j)) ≡ false

  -- a record held whose route is the one looked for has its mark, which stands after those of the records held
  pub record Told (route : List PathInterface) (d marks : List ℕ) (kept : ℕ) : Type 0 where
    pub told : (j : ℕ) → j < kept → same_interfaces route (route_in (record_at d j)) ≡ true → get_or marks j 0 ≡ get_or marks kept 0

-- ---- buckets

-- of the marks before n the last in bucket h of m: one more than its place, or 0
unfoldable pub last_before : List ℕ → ℕ → ℕ → ℕ → ℕ
last_before marks m h zero = 0
last_before marks m h (suc n) =
    let rest = last_before marks m h n in
    if eqb (get_or marks n 0 % m) h then suc n else rest

-- each bucket leads to the last of its marks, and each mark to the one before it in its bucket
pub record Chained (marks next heads : List ℕ) (kept : ℕ) : Type 0 where
  pub linked : (j : ℕ) → j < kept → get_or next j 0 ≡ last_before marks (length heads) (get_or marks j 0 % length heads) j
  pub headed : (h : ℕ) → h < length heads → get_or heads h 0 ≡ last_before marks (length heads) h kept

-- ---- one more record

module _ (b : List ℕ) (keys : Pair) where
  -- the first `kept` slots hold routes
  pub record Holds (d marks next heads : List ℕ) (kept : ℕ) : Type 0 where
    pub slots : AllOfBook b d kept
    pub once : Once (map (route_in b) (records_to d kept))
    pub marked : (j : ℕ) → j < kept → get_or marks j 0 ≡ both_marks keys (route_in b (record_at d j))
    pub chained : Chained marks next heads kept

  -- after one more record: what they hold then, the rest as it was
  pub record Kept (one : List (List ℕ) → List (List ℕ)) (d : List ℕ) (kept : ℕ) (d' marks' next' heads' : List ℕ) (kept' : ℕ) : Type 0 where
    pub size : length d' ≡ length d
    pub front : records_to d' kept' ≡ one (records_to d kept)
    pub rest : drop (solution_size * (kept + 1)) d' ≡ drop (solution_size * (kept + 1)) d
    pub most : kept' ≤ kept + 1
    pub slots : (j : ℕ) → OfBook b (record_at d j) → OfBook b (record_at d' j)
    pub marked : (j : ℕ) → j < kept' → get_or marks' j 0 ≡ both_marks keys (route_in b (record_at d' j))
    pub chained : Chained marks' next' heads' kept'

-- after all of n records: the routes held, what follows the n as it was
pub record Routed (b d : List ℕ) (n : ℕ) (d' : List ℕ) (kept : ℕ) : Type 0 where
  pub front : records_to d' kept ≡ held_to b d n
  pub few : kept ≤ n
  pub rest : drop (solution_size * n) d' ≡ drop (solution_size * n) d
