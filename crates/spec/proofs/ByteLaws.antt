-- Numbers and records read back from the bytes that hold them.
-- Assumes nothing.
use Prim.Native.Nat.{ℕ, suc, ◌+◌, ◌*◌, ◌/◌, ◌%◌, ◌^◌, ◌<◌}
use native.Mathlib.Nat.{add-zero, add_assoc, mul-suc}
use native.Mathlib.Numerals.{add-one}
use native.Mathlib.Omega.{arith}
use mathlib.Core.Path.{◌≡◌, refl, sym, ap, ap₂, ◌∙◌, subst}
use mathlib.Core.Bool.{Bool, true, false}
use mathlib.Core.List.Memᴰ.{head, tail}
use mathlib.Core.List.{List, [], ◌∷◌, ◌++◌, map, flat_map, append_assoc, Memᴰ as Mem}
use lib.ListN.{length, get_or, length-append, length-map}
use lib.Seq.{get_or-append-add}
use lib.Dec.{eqb}
use Rattle.spec.specs.declared.HopField.{HopField}
use Rattle.spec.specs.declared.InfoField.{InfoField}
use Rattle.spec.specs.Basics.{range, padded}
use Rattle.spec.specs.Octets.{be16, be32, be64, octets2, octets4, octets8}
use Rattle.spec.specs.Book.{mac_at, isd_asn_at}
use Rattle.spec.specs.declared.Edge.{Edge}
use Rattle.spec.specs.declared.SolutionEdge.{SolutionEdge}
use Rattle.spec.specs.Order.{cost, solution_edge}
use Rattle.spec.specs.Records.{bit, info_octets, hop_octets, edge_octets, solution_octets, edge_at, edge_offset, record_edge, solution_in}
use Rattle.spec.specs.ByRecord.{edges_in}
use Rattle.spec.specs.Router.{info_at, hop_at}

-- ---- numbers

pub octets2-back : (x : ℕ) (rest : List ℕ) → x < 2 ^ 16 → be16 (octets2 x ++ rest) 0 ≡ x
unfolding be16 octets2
octets2-back x rest h = omega arith

pub octets4-back : (x : ℕ) (rest : List ℕ) → x < 2 ^ 32 → be32 (octets4 x ++ rest) 0 ≡ x
unfolding be32 be16 octets4 octets2
octets4-back x rest h = omega arith

pub octets8-back : (x : ℕ) (rest : List ℕ) → x < 2 ^ 64 → be64 (octets8 x ++ rest) 0 ≡ x
unfolding be64 be32 be16 octets8 octets4 octets2
octets8-back x rest h =
    ap₂ (λ a c. a * 2 ^ 32 + c) (octets4-back (x / 2 ^ 32) [] (omega arith)) (octets4-back (x % 2 ^ 32) [] (omega arith))
    ∙ omega arith

-- ---- at an offset

module _ (xs ys : List ℕ) where
  pub be16-shift : (i : ℕ) → be16 (xs ++ ys) (length xs + i) ≡ be16 ys i
  unfolding be16
  be16-shift i =
      ap₂ (λ a c. a * 2 ^ 8 + c) (get_or-append-add xs ys i 0)
      (ap (λ n. get_or (xs ++ ys) n 0) (add_assoc (length xs) i 1) ∙ get_or-append-add xs ys (i + 1) 0)

  be32-shift : (i : ℕ) → be32 (xs ++ ys) (length xs + i) ≡ be32 ys i
  unfolding be32
  be32-shift i =
      ap₂ (λ a c. a * 2 ^ 16 + c) (be16-shift i)
      (ap (be16 (xs ++ ys)) (add_assoc (length xs) i 2) ∙ be16-shift (i + 2))

  be64-shift : (i : ℕ) → be64 (xs ++ ys) (length xs + i) ≡ be64 ys i
  unfolding be64
  be64-shift i =
      ap₂ (λ a c. a * 2 ^ 32 + c) (be32-shift i)
      (ap (be32 (xs ++ ys)) (add_assoc (length xs) i 4) ∙ be32-shift (i + 4))

  pub isd_asn_at-shift : (i : ℕ) → isd_asn_at (xs ++ ys) (length xs + i) ≡ isd_asn_at ys i
  unfolding isd_asn_at
  isd_asn_at-shift i = simp be64-shift

  mac_at-shift : (i : ℕ) → mac_at (xs ++ ys) (length xs + i) ≡ mac_at ys i
  unfolding mac_at
  mac_at-shift i = simp (add_assoc, get_or-append-add)

  pub info_at-shift : (i : ℕ) → info_at (xs ++ ys) (length xs + i) ≡ info_at ys i
  unfolding info_at
  info_at-shift i = simp (add_assoc, get_or-append-add, be16-shift, be32-shift)

  pub hop_at-shift : (i : ℕ) → hop_at (xs ++ ys) (length xs + i) ≡ hop_at ys i
  unfolding hop_at
  hop_at-shift i = simp (add_assoc, get_or-append-add, be16-shift, mac_at-shift)

-- ---- infos and hops

pub record GoodInfo (i : InfoField) : Type 0 where
  pub id : i.id < 2 ^ 16
  pub timestamp : i.timestamp < 2 ^ 32

-- six bytes of MAC
pub record GoodHop (h : HopField) : Type 0 where
  pub ingress : h.ingress < 2 ^ 16
  pub egress : h.egress < 2 ^ 16
  pub mac : (l : List ℕ) × (h.mac ≡ mac_at l 0)
  pub word : be16 h.mac 0 < 2 ^ 16

flag-construction : (c p : Bool) → eqb ((bit c + 2 * bit p) % 2) 1 ≡ c
unfolding bit
flag-construction true true = refl
flag-construction true false = refl
flag-construction false true = refl
flag-construction false false = refl

flag-peering : (c p : Bool) → eqb ((bit c + 2 * bit p) / 2 % 2) 1 ≡ p
unfolding bit
flag-peering true true = refl
flag-peering true false = refl
flag-peering false true = refl
flag-peering false false = refl

pub info-back : (i : InfoField) → GoodInfo i → (rest : List ℕ) → info_at (info_octets i ++ rest) 0 ≡ i
unfolding info_at info_octets be32 be16 octets4 octets2
info-back i g rest =
    let x : ℕ = i.id in
    let t : ℕ = i.timestamp in
    λ k. record {
      construction = flag-construction i.construction i.peering k;
      peering = flag-peering i.construction i.peering k;
      hops = i.hops;
      id = octets2-back i.id [] g.id k;
      timestamp = octets4-back i.timestamp [] g.timestamp k;
    }

mac-back : (a b c d e : ℕ) (m rest l : List ℕ) → m ≡ mac_at l 0 → mac_at (a ∷ b ∷ c ∷ d ∷ e ∷ (m ++ rest)) 5 ≡ m
unfolding mac_at
mac-back a b c d e m rest l q = subst (λ x. mac_at (a ∷ b ∷ c ∷ d ∷ e ∷ (x ++ rest)) 5 ≡ x) (sym q) refl

pub hop-back : (h : HopField) → GoodHop h → (rest : List ℕ) → hop_at (hop_octets h ++ rest) 0 ≡ h
unfolding hop_at hop_octets be16 octets2
hop-back h g rest =
    λ k. record {
      units = h.units;
      ingress = octets2-back h.ingress [] g.ingress k;
      egress = octets2-back h.egress [] g.egress k;
      mac = mac-back h.units (h.ingress / 2 ^ 8 % 2 ^ 8) (h.ingress % 2 ^ 8) (h.egress / 2 ^ 8 % 2 ^ 8) (h.egress % 2 ^ 8) h.mac rest g.mac.0 g.mac.1 k;
    }

pub info-length : (i : InfoField) → length (info_octets i) ≡ 8
unfolding info_octets octets4 octets2
info-length i = refl

pub hop-length : (h : HopField) → GoodHop h → length (hop_octets h) ≡ 11
unfolding hop_octets octets2 mac_at
hop-length h g = ap (λ n. suc (suc (suc (suc (suc n))))) (ap length g.mac.1)

-- ---- records of one size, one after the other

module _ {A : Type 0} (dec : List ℕ → ℕ → A) (enc : A → List ℕ) (Good : A → Type 0) (size : ℕ)
    (shift : (xs ys : List ℕ) (i : ℕ) → dec (xs ++ ys) (length xs + i) ≡ dec ys i)
    (back : (x : A) → Good x → (rest : List ℕ) → dec (enc x ++ rest) 0 ≡ x)
    (long : (x : A) → Good x → length (enc x) ≡ size) where
  pub read_all : (r : List ℕ) (base : ℕ) (xs : List A) → ((x : A) → Mem x xs → Good x) → (i : ℕ) (pre post : List ℕ)
      → length pre ≡ base + size * i → r ≡ pre ++ (flat_map enc xs ++ post)
      → map (λ k. dec r (base + size * k)) (range i (length xs)) ≡ xs
  unfolding flat_map range
  read_all r base [] good i pre post len eq = refl
  read_all r base (x ∷ xs) good i pre post len eq =
      let g : Good x = good x (head refl) in
      ap₂ (λ a l. a ∷ l)
      (ap₂ dec eq (sym len ∙ sym (add-zero (length pre)))
      ∙ shift pre ((enc x ++ flat_map enc xs) ++ post) 0
      ∙ ap (λ l. dec l 0) (append_assoc (enc x) (flat_map enc xs) post)
      ∙ back x g (flat_map enc xs ++ post))
      (read_all r base xs (λ y m. good y (tail m)) (i + 1) (pre ++ enc x) post
      (length-append pre (enc x) ∙ ap₂ (λ a c. a + c) len (long x g) ∙ add_assoc base (size * i) size
      ∙ ap (λ n. base + n) (sym (mul-suc size i) ∙ ap (λ n. size * n) (sym (add-one i))))
      (eq ∙ ap (λ l. pre ++ l) (append_assoc (enc x) (flat_map enc xs) post) ∙ sym (append_assoc pre (enc x) (flat_map enc xs ++ post))))

-- ---- a solution's record

pub edge_at-shift : (xs ys : List ℕ) (i : ℕ) → edge_at (xs ++ ys) (length xs + i) ≡ edge_at ys i
unfolding edge_at
edge_at-shift xs ys i = simp (add_assoc, get_or-append-add)

flag-back : (t : Bool) → eqb (bit t) 1 ≡ t
unfolding bit
flag-back true = refl
flag-back false = refl

pub edge-back : (e : SolutionEdge) → Unit {0} → (rest : List ℕ) → edge_at (edge_octets e ++ rest) 0 ≡ e
unfolding edge_at edge_octets
edge-back e g rest = λ k. record { position = e.position; shortcut = e.shortcut; peer = e.peer; construction = flag-back e.construction k }

pub edge-length : (e : SolutionEdge) → Unit {0} → length (edge_octets e) ≡ 4
unfolding edge_octets
edge-length e g = refl

pub edges-back : (c : List Edge) → edges_in (solution_octets c) ≡ map solution_edge c
unfolding edges_in record_edge edge_offset solution_in solution_octets padded octets2
edges-back c =
    ap (λ n. map (λ k. edge_at (solution_octets c) (4 + 4 * k)) (range 0 n)) (sym (length-map c solution_edge))
    ∙ read_all edge_at edge_octets (λ e. Unit {0}) 4 edge_at-shift edge-back edge-length (solution_octets c) 4 (map solution_edge c) (λ e m. tt) 0
    (cost c / 2 ^ 8 % 2 ^ 8 ∷ cost c % 2 ^ 8 ∷ length c ∷ 0 ∷ []) _ refl refl

pub cost-back : (c : List Edge) → cost c < 2 ^ 16 → be16 (solution_octets c) 0 ≡ cost c
unfolding solution_octets padded be16 octets2
cost-back c h = octets2-back (cost c) [] h
