-- Routes: of the solutions that have a path, one for each list of interfaces, the longest-lived, at the place of the route's first.
-- Assumes nothing.
use Rattle.std.specs.Prelude.{ℕ, Bool, true, false, ◌&&◌, length, eqb, ltb, if◌then◌else◌, Ok, Err}
use mathlib.Core.List.{List, [], ◌∷◌, flat_map}
use Rattle.spec.specs.declared.IsdAsn.{IsdAsn}
use Rattle.spec.specs.declared.Edge.{Edge}
use Rattle.spec.specs.declared.PathInterface.{PathInterface}
use Rattle.spec.specs.declared.Refusal.TheVariants.{Full}
use Rattle.spec.specs.Book.{Verdict, same_as, verdict}
use Rattle.spec.specs.Basics.{filter, padded}
use Rattle.spec.specs.Order.{solutions}
use Rattle.spec.specs.Assembly.{combined_path}
use Rattle.spec.specs.Records.{solution_octets, slots}
use Rattle.spec.specs.Answers.{Listed, refused_list}
use Rattle.spec.specs.Printed.{has_path}

-- 14.1: the same route: the same ASes and ids in the same order

unfoldable pub same_interface : PathInterface → PathInterface → Bool
same_interface i j = same_as i.local j.local && eqb i.id j.id

unfoldable pub same_interfaces : List PathInterface → List PathInterface → Bool
same_interfaces [] [] = true
same_interfaces [] (j ∷ js) = false
same_interfaces (i ∷ is) [] = false
same_interfaces (i ∷ is) (j ∷ js) = same_interface i j && same_interfaces is js

-- 14.2: what is held, one after the other, of things that have a route and an expiry

module _ {A : Type 0} (route : A → List PathInterface) (expiry : A → ℕ) where
  -- a later one takes over the place only if its expiry is greater
  unfoldable pub longer : A → A → A
  longer a h = if ltb (expiry h) (expiry a) then a else h

  -- one more: it is held against the one of its route, or stands after the last
  unfoldable pub hold : A → List A → List A
  hold a [] = a ∷ []
  hold a (h ∷ hs) =
      let further = hold a hs in
      if same_interfaces (route a) (route h) then longer a h ∷ hs else h ∷ further

  unfoldable pub hold_all : List A → List A → List A
  hold_all held [] = held
  hold_all held (a ∷ more) = hold_all (hold a held) more

-- 14.2: of solutions, each by its path

module _ (b : List ℕ) where
  unfoldable pub route_of : List Edge → List PathInterface
  route_of c = (combined_path b c).interfaces

  unfoldable pub lasts_to : List Edge → ℕ
  lasts_to c = (combined_path b c).expiry

  -- those with a path
  unfoldable pub with_path : List (List Edge) → List (List Edge)
  with_path found = filter (has_path b) found

  unfoldable pub routes : List (List Edge) → List (List Edge)
  routes found = hold_all route_of lasts_to [] (with_path found)

-- 14.3: the answer; `bytes` is the output's length. Full counts chains, not routes

unfoldable pub routing_of : ℕ → List ℕ → List (List Edge) → Listed
routing_of bytes b found =
    if ltb (slots bytes) (length found) then refused_list bytes Full
    else (Ok (length (routes b found)), padded bytes (flat_map solution_octets (routes b found)))

abbrev pub routing_on : Verdict → ℕ → List ℕ → List (List Edge) → Listed
routing_on (Ok tt) bytes b found = routing_of bytes b found
routing_on (Err r) bytes b found = refused_list bytes r

unfoldable pub routing : (List ℕ → List ℕ) → List ℕ → IsdAsn → IsdAsn → ℕ → Listed
routing digest b src dst bytes = routing_on (verdict b) bytes b (solutions digest b src dst)
