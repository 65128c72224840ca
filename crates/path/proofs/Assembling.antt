-- The record of a whole path, and the answer.
-- Assumes nothing.
use Prim.Native.Nat.{ℕ, ◌+◌, ◌-◌, ◌*◌, ◌/◌, ◌≤◌, ◌<◌}
use native.Mathlib.Nat.{zero-add}
use native.Mathlib.Omega.{arith}
use mathlib.Core.Path.{◌≡◌, refl, sym, ap, ap₂, ◌∙◌}
use mathlib.Core.Bool.{Bool, true, false}
use mathlib.Core.List.{List, [], ◌∷◌, ◌++◌, map, flat_map, map-map, append_assoc}
use lib.ListN.{length, get_or, take, drop, replicate, length-append, length-map, length-take, length-drop, take-append-drop, get_or-map}
use lib.Seq.{length-take-le, drop_at}
use Rattle.spec.specs.declared.IsdAsn.{IsdAsn}
use Rattle.spec.specs.declared.PathInterface.{PathInterface}
use Rattle.spec.specs.declared.Edge.{Edge}
use Rattle.spec.specs.declared.Path.{Path as PathHead}
use Rattle.spec.specs.Answers.{output_of, path_answer}
use Rattle.spec.specs.declared.Outcome.{Outcome}
use Rattle.spec.specs.declared.Outcome.TheVariants.{Path, Loop, Bare}
use Rattle.spec.specs.Limits.{max_edges, max_entries, path_size, path_head_size, info_size, hop_size}
use Rattle.std.specs.Prelude.{Ok, if◌then◌else◌}
use Rattle.spec.specs.Basics.{range, padded}
use Rattle.spec.specs.Octets.{Bytes, octets2, octets4, octets8}
use Rattle.spec.specs.Book.{isd_asn_at}
use Rattle.spec.specs.Assembly.{hop_count, segment_of, info_on, hops_on, interfaces_on, CombinedPath, combined_path, is_loop, is_bare, outcome}
use Rattle.spec.specs.Records.{info_octets, hop_octets, as_octets, interface_as_octets, interface_id_octets, no_interface, path_head, path_head_octets, path_octets}
use Rattle.spec.proofs.Lists.{flat-map, flat-flat}
use Rattle.spec.proofs.ByteLaws.{info-length, hop-length}
use Rattle.spec.proofs.BookLaws.{AcceptedBook}
use Rattle.spec.proofs.PathLaws.{head-length, good-hops}
use Rattle.spec.proofs.Bounds.{flat-exact, path-hops, path-interfaces}
use Rattle.spec.proofs.ReadBack.{ases-read, good-interfaces}
use Rattle.segment.proofs.Fitting.{map-range-at}
use Rattle.output.specs.Write.{written, zeroed}
use Rattle.output.proofs.Writing.{written_next, zeroed_rest, zeroed-all}
use Rattle.path.specs.Thrice.{number_at, numbers_in, some_thrice}
use Rattle.path.specs.declared.record.Ends.{Ends}
use Rattle.path.specs.Edges.{InBook, EdgesInBook}
use Rattle.path.specs.Places.{Wrote, Appended}
use Rattle.path.specs.Parts.{Hops, Ases, Ids, info_bytes, edge_bytes}
use Rattle.path.specs.Whole.{EndsOf, HopsAndIds}
use Rattle.path.proofs.Writes.{appended-join, appended-some, appended-before}
use Rattle.path.proofs.Standing.{count_most}
use Rattle.path.proofs.Thrice.{number_of, loop-thrice}

-- ---- the parts of a chain are those of its path

module _ (b : List ℕ) (c : List Edge) where
  infos-of : flat_map (info_bytes b) c ≡ flat_map info_octets (combined_path b c).infos
  unfolding info_bytes combined_path
  infos-of = sym (flat-map (info_on b) info_octets c)

  hops-of : flat_map (edge_bytes b Hops) c ≡ flat_map hop_octets (combined_path b c).hops
  unfolding edge_bytes combined_path
  hops-of = sym (flat-flat (hops_on b) hop_octets c)

  ases-of : flat_map (edge_bytes b Ases) c ≡ flat_map interface_as_octets (combined_path b c).interfaces
  unfolding edge_bytes combined_path
  ases-of = sym (flat-flat (interfaces_on b) interface_as_octets c)

  pub ids-of : flat_map (edge_bytes b Ids) c ≡ flat_map interface_id_octets (combined_path b c).interfaces
  unfolding edge_bytes combined_path
  ids-of = sym (flat-flat (interfaces_on b) interface_id_octets c)

-- ---- how long they are

module _ (b : List ℕ) (a : AcceptedBook b) (e : Edge) (u : InBook b e) where
  hops-few : hop_count (segment_of b e) e ≤ max_entries
  unfolding hop_count
  hops-few = omega (arith, count_most b a e u)

pub record Lengths (b : List ℕ) (c : List Edge) : Type 0 where
  pub infos : length (flat_map (info_bytes b) c) ≡ info_size * length c
  pub hops : length (flat_map (edge_bytes b Hops) c) ≡ hop_size * length (combined_path b c).hops
  pub ases : length (flat_map (edge_bytes b Ases) c) ≡ 8 * length (combined_path b c).interfaces
  pub ids : length (flat_map (edge_bytes b Ids) c) ≡ 2 * length (combined_path b c).interfaces
  pub few-infos : length c ≤ max_edges
  pub few-hops : length (combined_path b c).hops ≤ max_edges * max_entries
  pub few-interfaces : length (combined_path b c).interfaces ≤ max_edges * max_entries * 2

module _ (b : List ℕ) (bytes : Bytes b) where
  pub lengths : AcceptedBook b → (c : List Edge) → EdgesInBook b c → Lengths b c
  lengths a c u =
      record {
        infos = ap length (infos-of b c) ∙ omega (arith, flat-exact info_octets info_size p.infos (λ i m. info-length i), infos-length);
        hops = ap length (hops-of b c) ∙ omega (arith, flat-exact hop_octets hop_size p.hops (λ h m. hop-length h (good-hops b bytes c h m)));
        ases = ap length (ases-of b c) ∙ omega (arith, flat-exact interface_as_octets 8 p.interfaces (λ i m. unfold interface_as_octets as_octets octets8 octets4 octets2 in refl));
        ids = ap length (ids-of b c) ∙ omega (arith, flat-exact interface_id_octets 2 p.interfaces (λ i m. unfold interface_id_octets octets2 in refl));
        few-infos = u.few;
        few-hops = path-hops b c u.few (λ e m. hops-few b a e (u.edges e m));
        few-interfaces = path-interfaces b c u.few (λ e m. hops-few b a e (u.edges e m));
      }
    where
      p : CombinedPath
      p = combined_path b c

      infos-length : length p.infos ≡ length c
      infos-length = unfold combined_path in length-map c (info_on b)

-- ---- interfaces read from the record

abbrev local_of : PathInterface → IsdAsn
local_of i = i.local

abbrev number : IsdAsn → ℕ
number a = a.0

module _ (b : List ℕ) (bytes : Bytes b) (accepted : AcceptedBook b) (c : List Edge) (u : EdgesInBook b c) (a : List ℕ) (ends : Ends) (f : EndsOf b c a ends) where
  abbrev p : CombinedPath
  p = combined_path b c

  sizes : Lengths b c
  sizes = lengths b bytes accepted c u

  -- the counts, from where the parts end
  pub hops-count : ((ends.hops - path_head_size - info_size * length c) / hop_size ≡ length p.hops) × (length p.hops ≤ max_edges * max_entries)
  hops-count = let s = sizes in (omega (arith, f.hops-end, s.hops), s.few-hops)

  pub interfaces-count : (ends.ases / 8 ≡ length p.interfaces) × (length p.interfaces ≤ max_edges * max_entries * 2)
  interfaces-count = let s = sizes in (omega (arith, f.ases-end, s.ases), s.few-interfaces)

  -- where they end
  pub record Reach : Type 0 where
    pub hops : ends.hops ≡ path_head_size + info_size * length c + hop_size * length p.hops
    pub ases : ends.ases ≡ 8 * length p.interfaces
    pub ids : ends.ids ≡ 2 * length p.interfaces

  pub reach : Reach
  reach =
      let s = sizes in
      record {
        hops = f.hops-end ∙ ap (λ n. path_head_size + info_size * length c + n) s.hops;
        ases = f.ases-end ∙ s.ases;
        ids = f.ids-end ∙ s.ids;
      }

  ases-stand : a ≡ [] ++ (flat_map interface_as_octets p.interfaces ++ drop ends.ases a)
  ases-stand = sym (take-append-drop ends.ases a) ∙ ap (λ l. l ++ drop ends.ases a) (f.ases ∙ ases-of b c)

  ases-are : map (λ k. isd_asn_at a (0 + 8 * k)) (range 0 (length p.interfaces)) ≡ map local_of p.interfaces
  ases-are = ases-read p.interfaces (good-interfaces b bytes c) a [] (drop ends.ases a) 0 refl ases-stand

  pub as_read : (k : ℕ) → k < length p.interfaces → isd_asn_at a (0 + 8 * k) ≡ (get_or p.interfaces k no_interface).local
  as_read k h =
      sym (map-range-at (λ i. isd_asn_at a (0 + 8 * i)) 0 (length p.interfaces) k no_interface.local h ∙ ap (λ i. isd_asn_at a (0 + 8 * i)) (zero-add k))
      ∙ ap (λ l. get_or l k no_interface.local) ases-are ∙ get_or-map local_of p.interfaces k no_interface

  pub loop-read : some_thrice (numbers_in a 0 (ends.ases / 8)) ≡ is_loop p.interfaces
  loop-read = ap some_thrice (ap (numbers_in a 0) interfaces-count.0 ∙ numbers) ∙ sym (loop-thrice p.interfaces)
    where
      numbers : numbers_in a 0 (length p.interfaces) ≡ map number_of p.interfaces
      numbers =
          unfold numbers_in number_at isd_asn_at in
          (sym (map-map number (λ k. isd_asn_at a (0 + 8 * k)) (range 0 (length p.interfaces))) ∙ ap (map number) ases-are ∙ map-map number local_of p.interfaces)

  -- ---- the head

  pub head-is : 0 < ends.ases → (x y z m e : ℕ) (g l : IsdAsn)
      → x ≡ length c → y ≡ (ends.hops - path_head_size - info_size * length c) / hop_size → z ≡ ends.ases / 8
      → m ≡ ends.mtu → e ≡ ends.expiry
      → g ≡ isd_asn_at a 0 → l ≡ isd_asn_at a (ends.ases - 8)
      → record { infos = x; hops = y; interfaces = z; mtu = m; expiry = e; first = g; last = l } ≡ path_head (combined_path b c)
  unfolding path_head combined_path
  head-is some x y z m e g l qx qy qz qm qe qg ql =
      let s = reach in
      let n : ℕ = length p.interfaces in
      let first : g ≡ (get_or p.interfaces 0 no_interface).local = qg ∙ ap (isd_asn_at a) (omega arith) ∙ as_read 0 (omega (arith, s.ases)) in
      let last : l ≡ (get_or p.interfaces (n - 1) no_interface).local = ql ∙ ap (isd_asn_at a) (omega (arith, s.ases)) ∙ as_read (n - 1) (omega (arith, s.ases)) in
      let infos : x ≡ length p.infos = qx ∙ sym (length-map c (info_on b)) in
      λ k. record {
        infos = infos k;
        hops = (qy ∙ hops-count.0) k;
        interfaces = (qz ∙ interfaces-count.0) k;
        mtu = (qm ∙ f.mtu) k;
        expiry = (qe ∙ f.expiry) k;
        first = first k;
        last = last k;
      }

  -- ---- the answer

  answer : (n : ℕ) (r : Outcome) → outcome p ≡ r → (d' : List ℕ) → d' ≡ output_of r n p → (Ok r ≡ (path_answer b n c).0) × (d' ≡ (path_answer b n c).1)
  unfolding path_answer
  answer n r q d' e = (ap (λ x. Ok x) (sym q), e ∙ ap (λ x. output_of x n p) (sym q))

  module _ (d : List ℕ) (n : ℕ) (same : length d ≡ n) (t : Bool) (thrice : t ≡ some_thrice (numbers_in a 0 (ends.ases / 8))) where
    zeros : (d' : List ℕ) → d' ≡ zeroed d 0 → d' ≡ replicate n 0
    zeros d' e = e ∙ zeroed-all d ∙ ap (λ k. replicate {A = ℕ} k 0) same

    bare-is : (is : List PathInterface) → length is ≡ 0 → is_bare is ≡ true
    bare-is [] q = unfold is_bare in refl
    bare-is (i ∷ is) q = absurd (omega arith)

    pub answer-loop : t ≡ true → (d' : List ℕ) → d' ≡ zeroed d 0
        → (Ok Loop ≡ (path_answer b n c).0) × (d' ≡ (path_answer b n c).1)
    answer-loop q d' e = answer n Loop loops d' (zeros d' e)
      where
        loops : outcome p ≡ Loop
        loops = unfold outcome in (ap (λ (s : Bool). if s then Loop else if is_bare p.interfaces then Bare else Path) (sym (thrice ∙ loop-read) ∙ q))

    pub answer-bare : t ≡ false → ends.ases / 8 ≡ 0 → (d' : List ℕ) → d' ≡ zeroed d 0
        → (Ok Bare ≡ (path_answer b n c).0) × (d' ≡ (path_answer b n c).1)
    answer-bare q none d' e = answer n Bare bare d' (zeros d' e)
      where
        bare : outcome p ≡ Bare
        bare =
            unfold outcome in
            (ap₂ (λ (s v : Bool). if s then Loop else if v then Bare else Path) (sym (thrice ∙ loop-read) ∙ q)
            (bare-is p.interfaces (sym interfaces-count.0 ∙ none)))

  pub answer-path : (t : Bool) → t ≡ some_thrice (numbers_in a 0 (ends.ases / 8)) → t ≡ false → (ends.ases / 8 ≡ 0 → ⊥)
      → (m : ℕ) (d' : List ℕ) → d' ≡ padded m (path_octets (combined_path b c)) → (n : ℕ) → m ≡ n
      → (Ok Path ≡ (path_answer b n c).0) × (d' ≡ (path_answer b n c).1)
  answer-path t thrice q some m d' e n same = answer n Path path d' (e ∙ ap (λ k. padded k (path_octets p)) same)
    where
      full_is : (is : List PathInterface) → (length is ≡ 0 → ⊥) → is_bare is ≡ false
      full_is [] h = absurd (h refl)
      full_is (i ∷ is) h = unfold is_bare in refl

      path : outcome p ≡ Path
      path =
          unfold outcome in
          (ap₂ (λ (s v : Bool). if s then Loop else if v then Bare else Path) (sym (thrice ∙ loop-read) ∙ q)
          (full_is p.interfaces (λ z. some (interfaces-count.0 ∙ z))))

-- ---- the whole

-- the bytes before xs, and zeros after them
filled-up : (before top xs d₁ d₂ d₃ : List ℕ) (end : ℕ) → Appended before path_head_size xs d₁ end → length top ≡ path_head_size → end ≤ length before
    → d₂ ≡ written d₁ 0 top → d₃ ≡ zeroed d₂ end → d₃ ≡ padded (length before) (top ++ xs)
unfolding padded
filled-up before top xs d₁ d₂ d₃ end w l room q₂ q₃ =
    q₃
    ∙ ap₂ zeroed second ends
    ∙ zeroed_rest (top ++ xs) rest
    ∙ ap (λ n. (top ++ xs) ++ replicate {A = ℕ} n 0) left
  where
    front : List ℕ
    front = take path_head_size before

    rest : List ℕ
    rest = drop end d₁

    short : length front ≡ path_head_size
    short = length-take-le path_head_size before (omega (arith, w.end))

    first : d₁ ≡ front ++ (xs ++ rest)
    first = sym (take-append-drop end d₁) ∙ ap (λ t. t ++ rest) w.front ∙ append_assoc front xs rest

    second : d₂ ≡ (top ++ xs) ++ rest
    second =
        q₂ ∙ ap (λ t. written t 0 top) first
        ∙ written_next [] (front ++ (xs ++ rest)) 0 top refl (omega (arith, short, length-append front (xs ++ rest)))
        ∙ ap (λ n. top ++ drop n (front ++ (xs ++ rest))) l
        ∙ ap (λ t. top ++ t) (drop_at front (xs ++ rest) path_head_size short)
        ∙ sym (append_assoc top xs rest)

    ends : end ≡ length (top ++ xs)
    ends = omega (arith, w.end, length-append top xs)

    left : length rest ≡ length before - length (top ++ xs)
    left = omega (arith, length-drop end d₁, w.size, w.end, length-append top xs)

octets-are : (h i k x y : List ℕ) → (((h ++ i) ++ k) ++ x) ++ y ≡ h ++ (((i ++ k) ++ x) ++ y)
octets-are h i k x y = simp append_assoc

module _ (b : List ℕ) (bytes : Bytes b) (accepted : AcceptedBook b) (c : List Edge) (u : EdgesInBook b c) (d a i : List ℕ) (ends : Ends)
    (f : EndsOf b c a ends) (g : HopsAndIds b c d i ends) (room : path_size ≤ length d) where
  abbrev whole : CombinedPath
  whole = combined_path b c

  path-octets : path_octets whole
      ≡ path_head_octets (path_head whole) ++ (((flat_map (info_bytes b) c ++ flat_map (edge_bytes b Hops) c) ++ flat_map (edge_bytes b Ases) c) ++ flat_map (edge_bytes b Ids) c)
  unfolding path_octets
  path-octets =
      octets-are (path_head_octets (path_head whole)) _ _ _ _
      ∙ ap₂ (λ x y. path_head_octets (path_head whole) ++ (x ++ y))
      (ap₂ (λ x y. x ++ y) (ap₂ (λ x y. x ++ y) (sym (infos-of b c)) (sym (hops-of b c))) (sym (ases-of b c)))
      (sym (ids-of b c))

  -- the buffers have what is copied from them, and the output has room for it
  pub ases-fit : ends.ases ≤ length a
  ases-fit = omega (arith, f.ases-end, ap length f.ases, length-take ends.ases a)

  pub ids-fit : ends.ids ≤ length i
  ids-fit = omega (arith, f.ids-end, ap length g.ids, length-take ends.ids i)

  pub whole-fits : ends.hops + ends.ases + ends.ids ≤ path_size
  whole-fits =
      let s = reach b bytes accepted c u a ends f in
      let l = lengths b bytes accepted c u in
      omega (arith, s.hops, s.ases, s.ids, l.few-infos, l.few-hops, l.few-interfaces)

  pub whole_is : (d₁ d₂ d₃ d₄ d₅ : List ℕ) (r : ℕ) (h : PathHead) → Wrote d path_head_size (flat_map (info_bytes b) c) d₁ r
      → d₂ ≡ written d₁ ends.hops (take ends.ases (drop 0 a)) → d₃ ≡ written d₂ (ends.hops + ends.ases) (take ends.ids (drop 0 i))
      → h ≡ path_head (combined_path b c) → d₄ ≡ written d₃ 0 (path_head_octets h) → d₅ ≡ zeroed d₄ (ends.hops + ends.ases + ends.ids)
      → d₅ ≡ padded (length d) (path_octets (combined_path b c))
  whole_is d₁ d₂ d₃ d₄ d₅ r h w q₂ q₃ q q₄ q₅ =
      filled-up g.before (path_head_octets (path_head whole)) _ d₃ d₄ d₅ (ends.hops + ends.ases + ends.ids) third (head-length (path_head whole)) fits
      (q₄ ∙ ap (λ x. written d₃ 0 (path_head_octets x)) q) q₅
      ∙ ap₂ padded (sym g.hops.size) (sym path-octets)
    where
      l : Lengths b c
      l = lengths b bytes accepted c u

      fits : ends.hops + ends.ases + ends.ids ≤ length g.before
      fits = omega (arith, g.hops.size, whole-fits)

      first : Appended g.before path_head_size (flat_map (info_bytes b) c ++ flat_map (edge_bytes b Hops) c) d₁ ends.hops
      first = appended-before g.hops w (omega (arith, l.infos)) (omega (arith, fits, g.hops.size))

      second : Appended d₁ ends.hops (flat_map (edge_bytes b Ases) c) d₂ (ends.hops + ends.ases)
      second =
          appended-some d₁ ends.hops (flat_map (edge_bytes b Ases) c) d₂ (q₂ ∙ ap (written d₁ ends.hops) f.ases)
          (omega (arith, first.size, f.ases-end, fits)) ends.ases (sym f.ases-end)

      third : Appended g.before path_head_size (((flat_map (info_bytes b) c ++ flat_map (edge_bytes b Hops) c) ++ flat_map (edge_bytes b Ases) c) ++ flat_map (edge_bytes b Ids) c) d₃
          (ends.hops + ends.ases + ends.ids)
      third =
          appended-join (appended-join first second)
          (appended-some d₂ (ends.hops + ends.ases) (flat_map (edge_bytes b Ids) c) d₃ (q₃ ∙ ap (written d₂ (ends.hops + ends.ases)) g.ids)
          (omega (arith, second.size, first.size, f.ids-end, fits)) ends.ids (sym f.ids-end))
