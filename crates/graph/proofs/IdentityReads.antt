-- The edges that the code makes of what an identity names.
-- Assumes nothing.
use Rattle.std.proofs.lemmas.Bool.{and_from}
use Prim.Native.Nat.{ℕ, ◌+◌, ◌-◌, ◌<◌}
use native.Mathlib.Omega.{arith}
use mathlib.Core.Path.{◌≡◌, refl, sym, ap, ap₂, ◌∙◌}
use mathlib.Core.Bool.{Bool, true, false, ◌&&◌}
use mathlib.Core.List.{List, [], ◌∷◌}
use borrow.Author.Tests.{eq-eqb, ne_eqb}
use Rattle.spec.specs.declared.IsdAsn.{IsdAsn}
use Rattle.spec.specs.declared.Vertex.{Vertex}
use Rattle.spec.specs.declared.Vertex.TheVariants.{AS, Peering}
use Rattle.spec.specs.declared.Edge.{Edge}
use Rattle.spec.specs.declared.SolutionEdge.{SolutionEdge}
use Rattle.spec.specs.Book.{same_as, Segment, segment_at}
use Rattle.spec.specs.Edges.{as_of, leaf_as, edge_of}
use Rattle.spec.specs.Order.{solution_edge}
use Rattle.spec.specs.Loopless.{Apart}
use Rattle.spec.proofs.Vertices.{same_as-eq, same_as-refl}
use Rattle.spec.proofs.OnceLaws.{segment-position}
use Rattle.graph.specs.declared.vertices.Link.{Link}
use Rattle.graph.specs.Link.{end_of}
use Rattle.graph.specs.Lookup.{between}
use Rattle.graph.specs.Leaving.{joins, entry_count, link_of, peer_linked, as_edge_at, peer_stands, as_up, peer_up}
use Rattle.graph.specs.Identity.{identified}
use Rattle.graph.proofs.LookupScan.{when}
use Rattle.graph.proofs.LookupLaws.{eq-same_as, turned, sole, up-as, down-as}
use Rattle.graph.proofs.OpenedReads.{leaf-is}
use Rattle.graph.proofs.EdgeReads.{made, edge-made, as-made, leaf-arrives, core-made, joins-first, joins-second, below_apart, up-made}
use Rattle.graph.proofs.IdentityLaws.{between-identified, leaf-again, leaf-none, as-named, peer-up-named, peer-down-named}

module _ (b : List ℕ) (id : SolutionEdge) where
  abbrev seg : Segment
  seg = segment_at b id.position

  abbrev i : ℕ
  i = id.shortcut

  -- ---- a core segment

  module _ (core : seg.core ≡ true) {n : ℕ} (count : n ≡ entry_count seg) (some : 0 < n) (start : i ≡ 0) (no-peer : id.peer ≡ 0)
      {first last : IsdAsn} (f : first ≡ as_of seg 0) (l : last ≡ leaf_as seg) where
    core-identified : (v w : Vertex) (c : Bool) → c ≡ id.construction
        → (made b id.position v w (n - 1) 0 0 c true ∷ []) ≡ between seg v w → (made b id.position v w (n - 1) 0 0 c true ∷ []) ≡ identified seg id
    unfolding solution_edge
    core-identified v w c d h =
        between-identified seg id v w (made b id.position v w (n - 1) 0 0 c true) h
        (λ j. record { position = id.position; shortcut = sym start j; peer = sym no-peer j; construction = d j })

    pub core-there : id.construction ≡ true → (made b id.position (AS first) (AS last) (n - 1) 0 0 true true ∷ []) ≡ identified seg id
    core-there d =
        core-identified (AS first) (AS last) true (sym d)
        (core-made b id.position core count some refl f l last
        (joins-first first last first last refl (and_from _ _ (same_as-refl first) (same_as-refl last))) refl (sym (same_as-refl last)))

    module _ (back : id.construction ≡ false) where
      pub core-one : n ≡ 1 → [] ≡ identified seg id
      core-one h =
          let e : i ≡ entry_count seg - 1 = omega arith in
          leaf-again seg id no-peer back (eq-same_as _ _ (ap (as_of seg) e ∙ leaf-is seg))

      pub core-back : Apart seg → (n ≡ 1 → ⊥) → (made b id.position (AS last) (AS first) (n - 1) 0 0 false true ∷ []) ≡ identified seg id
      core-back apart h =
          core-identified (AS last) (AS first) false (sym back)
          (core-made b id.position core count some refl f l first holds refl (sym other))
        where
          other : same_as first last ≡ false
          other = go (same_as first last) refl
            where
              go : (x : Bool) → same_as first last ≡ x → x ≡ false
              go true q =
                  let e : 0 ≡ entry_count seg - 1 = sole seg apart _ _ (omega arith) (omega arith) (sym f ∙ same_as-eq _ _ q ∙ l ∙ sym (leaf-is seg)) in
                  absurd (h (omega arith))
              go false q = refl

          holds : true ≡ joins first last last first
          holds =
              joins-second first last last first refl (ap (λ y. y && same_as last first) other) (sym (and_from _ _ (same_as-refl last) (same_as-refl first)))

  -- ---- a non-core segment

  module _ (nc : seg.core ≡ false) (apart : Apart seg) {n : ℕ} (count : n ≡ entry_count seg) (within : i < n) where
    inside : i < entry_count seg
    inside = omega arith

    -- an AS edge
    module _ (no-peer : id.peer ≡ 0) where
      pub leaf-named : i ≡ n - 1 → [] ≡ identified seg id
      leaf-named h = leaf-none seg nc id no-peer (omega arith)

      module _ (other : i ≡ n - 1 → ⊥) {here leaf : IsdAsn} (p : here ≡ as_of seg i) (l : leaf ≡ leaf_as seg) where
        pub as-there : id.construction ≡ true → (made b id.position (AS here) (AS leaf) (n - 1 - i) i 0 true false ∷ []) ≡ identified seg id
        as-there forth =
            as-made b id.position (AS here) (AS leaf) n i count i true false refl (omega arith) (leaf-arrives seg leaf true (eq-same_as _ _ (sym l))) (sym nc)
            ∙ ap₂ (λ x y. as_edge_at seg (AS x) (AS y) i) p l
            ∙ as-named seg nc id apart (segment-position b id.position) inside no-peer (AS (as_of seg i)) (AS (leaf_as seg)) (down-as seg nc (as_of seg i))
            (λ _. sym (leaf-arrives seg (leaf_as seg) true (same_as-refl _)) ∙ sym forth)

        pub as-back : id.construction ≡ false → (made b id.position (AS leaf) (AS here) (n - 1 - i) i 0 false false ∷ []) ≡ identified seg id
        unfolding as_up
        as-back back =
            up-made b id.position i count l apart within other p (sym nc)
            ∙ as-named seg nc id apart (segment-position b id.position) inside no-peer (AS (leaf_as seg)) (AS (as_of seg i)) (up-as seg nc (as_of seg i))
            (λ m. sym (leaf-arrives seg (as_of seg i) false (below_apart seg i apart m)) ∙ sym back)

    -- a peer's edge
    module _ (some : 0 < id.peer) where
      abbrev p : ℕ
      p = id.peer - 1

      next : id.peer ≡ p + 1
      next = omega arith

      pub peer-back : id.construction ≡ false → peer_up seg i p ≡ identified seg id
      peer-back = peer-up-named seg nc id apart (segment-position b id.position) inside p next

      module _ (forth : id.construction ≡ true) (m : Link) (link : end_of m ≡ link_of seg i p) {q : ℕ} (found : q ≡ peer_linked seg (end_of m) i) where
        abbrev down : Edge
        down = edge_of seg (turned seg i p) (AS (leaf_as seg)) (entry_count seg - 1 - i) i (p + 1)

        down_by : (t : Bool) → peer_stands seg i p ≡ t → when t down ≡ identified seg id
        down_by t h =
            ap (λ x. when x down) (sym h) ∙ peer-down-named seg nc id apart (segment-position b id.position) inside p next forth

        linked : q ≡ peer_linked seg (link_of seg i p) i
        linked = found ∙ ap (λ v. peer_linked seg v i) link

        pub peer-other : (q ≡ id.peer → ⊥) → [] ≡ identified seg id
        unfolding peer_stands
        peer-other h = down_by false (ne_eqb _ _ (λ e. h (linked ∙ e ∙ sym next)))

        pub peer-there : q ≡ id.peer → {leaf : IsdAsn} → leaf ≡ leaf_as seg
            → (made b id.position (Peering m.peer m.interface m.local m.ingress) (AS leaf) (n - 1 - i) i id.peer true false ∷ []) ≡ identified seg id
        unfolding peer_stands
        peer-there h {leaf} l =
            ap (λ x. x ∷ []) (edge-made b id.position _ (AS leaf) (n - 1 - i) i id.peer true false (leaf-arrives seg leaf true (eq-same_as _ _ (sym l))) (sym nc))
            ∙ ap₂ (λ v y. edge_of seg v (AS y) (n - 1 - i) i id.peer ∷ []) (turn link) l
            ∙ ap₂ (λ k r. edge_of seg (turned seg i p) (AS (leaf_as seg)) (k - 1 - i) i r ∷ []) count next
            ∙ down_by true (eq-eqb _ _ (sym linked ∙ h ∙ next))
          where
            turn : end_of m ≡ link_of seg i p → Peering m.peer m.interface m.local m.ingress ≡ turned seg i p
            turn q = unfold link_of in cc
