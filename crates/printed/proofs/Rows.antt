-- Lines one after the other.
-- Assumes nothing.
use Prim.Native.Nat.{ℕ, ◌+◌}
use mathlib.Core.Path.{◌≡◌, refl, sym, ap}
use mathlib.Core.Bool.{Bool, true, false}
use Rattle.std.specs.Int.{from_bool}
use mathlib.Core.List.{List, ◌++◌, flat_map}
use Rattle.spec.specs.declared.Path.{Path}
use Rattle.spec.specs.Basics.{range}
use Rattle.spec.specs.Records.{bit, path_head_in}
use Rattle.spec.specs.Printed.{decimal}
use Rattle.spec.proofs.Lists.{flat-range-last}
use Rattle.path.specs.Places.{Wrote}
use Rattle.path.proofs.Writes.{wrote_none, wrote-join, wrote_as}
use Rattle.printed.specs.Lines.{fields_line, info_text, interface_text, lines_to, path_text}

-- a word and the number that another is
pub item-as : (word : List ℕ) {n m : ℕ} → n ≡ m → {d : List ℕ} {at : ℕ} {d' : List ℕ} {r : ℕ} → Wrote d at (word ++ decimal n) d' r → Wrote d at (word ++ decimal m) d' r
item-as word q w = wrote_as (ap (λ n. word ++ decimal n) q) w

pub bit-from : (t : Bool) → from_bool t ≡ bit t
unfolding bit
bit-from true = refl
bit-from false = refl

module _ (line : ℕ → List ℕ) where
  pub lines_none : (d : List ℕ) (at : ℕ) → Wrote d at (lines_to line 0) d at
  unfolding lines_to range flat_map
  lines_none d at = wrote_none d at

  one_more : (k : ℕ) → lines_to line k ++ line k ≡ lines_to line (k + 1)
  unfolding lines_to
  one_more k = sym (flat-range-last line k)

  pub lines_more : (k : ℕ) {d : List ℕ} {at : ℕ} {d' : List ℕ} {r : ℕ} {d'' : List ℕ} {s : ℕ}
      → Wrote d at (lines_to line k) d' r → Wrote d' r (line k) d'' s → Wrote d at (lines_to line (k + 1)) d'' s
  lines_more k v w = wrote_as (one_more k) (wrote-join v w)

pub path-as : (p : List ℕ) (h : Path) → h ≡ path_head_in p
    → fields_line h.mtu h.expiry h.hops ++ lines_to (info_text p) h.infos ++ lines_to (interface_text p) h.interfaces ≡ path_text p
unfolding path_text
path-as p h q = ap (λ (x : Path). fields_line x.mtu x.expiry x.hops ++ lines_to (info_text p) x.infos ++ lines_to (interface_text p) x.interfaces) q
