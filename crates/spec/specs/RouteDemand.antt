-- What the list of routes is, as a statement over listing, assembly and routing.
-- Assumes nothing.
use Rattle.std.specs.Prelude.{ℕ, ◌≤◌, ◌<◌, ◌≡◌, true, false, length, replicate, if◌then◌else◌, Ok, Err}
use mathlib.Core.List.{List, [], ◌∷◌, ◌++◌, map, flat_map, Memᴰ}
use Rattle.spec.specs.declared.IsdAsn.{IsdAsn}
use Rattle.spec.specs.declared.Edge.{Edge}
use Rattle.spec.specs.declared.PathInterface.{PathInterface}
use Rattle.spec.specs.declared.Refusal.{Refusal}
use Rattle.spec.specs.declared.Outcome.TheVariants.{Path}
use Rattle.spec.specs.Limits.{path_size}
use Rattle.spec.specs.Basics.{any, padded, Once}
use Rattle.spec.specs.Order.{solutions}
use Rattle.spec.specs.Assembly.{combined_path}
use Rattle.spec.specs.Records.{solution_octets, path_octets, slots}
use Rattle.spec.specs.Answers.{listing, assembly}
use Rattle.spec.specs.Printed.{has_path}
use Rattle.spec.specs.Routes.{same_interfaces, route_of, lasts_to, with_path, routes, routing}

-- 14.4: lists of interfaces in order of first appearance: each is added at the end where it is not there yet

unfoldable pub add_new : List PathInterface → List (List PathInterface) → List (List PathInterface)
add_new x seen = if any (same_interfaces x) seen then seen else seen ++ (x ∷ [])

unfoldable pub appearances : List (List PathInterface) → List (List PathInterface) → List (List PathInterface)
appearances seen [] = seen
appearances seen (x ∷ xs) = appearances (add_new x seen) xs

-- 14.4: the earliest of those that attain a route's greatest expiry: none before it lasts as long, none after it longer

module _ {A : Type 0} (route : A → List PathInterface) (expiry : A → ℕ) where
  pub record Best (all : List A) (c : A) : Type 0 where
    pub before : List A
    pub after : List A
    pub place : all ≡ before ++ (c ∷ after)
    pub sooner : (d : A) → Memᴰ d before → route d ≡ route c → expiry d < expiry c
    pub later : (d : A) → Memᴰ d after → route d ≡ route c → expiry d ≤ expiry c

-- 14.4: the whole

module _ (digest : List ℕ → List ℕ) (b : List ℕ) (src dst : IsdAsn) where
  abbrev found : List (List Edge)
  found = solutions digest b src dst

  abbrev held : List (List Edge)
  held = routes b (solutions digest b src dst)

  pub record Routes : Type 0 where
    -- with a slot for every chain, their count and their records
    pub answered : (bytes : ℕ) → length found ≤ slots bytes → routing digest b src dst bytes ≡ (Ok (length held), padded bytes (flat_map solution_octets held))
    -- a refusal is listing's, and so is no refusal
    pub refused : (bytes : ℕ) (r : Refusal) → (listing digest b src dst bytes).0 ≡ Err r → routing digest b src dst bytes ≡ (Err r, replicate bytes 0)
    pub counted : (bytes n : ℕ) → (listing digest b src dst bytes).0 ≡ Ok n → (routing digest b src dst bytes).0 ≡ Ok (length held)
    -- each is a solution, and assembles to a path
    pub listed : (c : List Edge) → Memᴰ c held → Memᴰ c found
    pub path : (c : List Edge) → Memᴰ c held → (bytes : ℕ) → path_size ≤ bytes
        → assembly b src dst (solution_octets c) bytes ≡ (Ok Path, padded bytes (path_octets (combined_path b c)))
    -- no list of interfaces stands twice
    pub apart : Once (map (route_of b) held)
    -- every solution with a path has its list of interfaces there, with an expiry that is no less
    pub covers : (c : List Edge) → Memᴰ c found → has_path b c ≡ true → (d : List Edge) × Memᴰ d held × (route_of b d ≡ route_of b c) × (lasts_to b c ≤ lasts_to b d)
    pub longest : (c d : List Edge) → Memᴰ c held → Memᴰ d found → has_path b d ≡ true → route_of b d ≡ route_of b c → lasts_to b d ≤ lasts_to b c
    -- places go by first appearance, and the earliest with the greatest expiry is held
    pub places : map (route_of b) held ≡ appearances [] (map (route_of b) (with_path b found))
    pub best : (c : List Edge) → Memᴰ c held → Best (route_of b) (lasts_to b) (with_path b found) c
    -- with no path, and with two equal ends, there is none
    pub none : ((c : List Edge) → Memᴰ c found → has_path b c ≡ false) → (bytes : ℕ) → length found ≤ slots bytes → routing digest b src dst bytes ≡ (Ok 0, replicate bytes 0)
    pub equal : src ≡ dst → (bytes : ℕ) → routing digest b src dst bytes ≡ (Ok 0, replicate bytes 0)
