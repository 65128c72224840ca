-- The plan of a search: how it is made, and what the loop over last edges passes over by it.
-- Assumes nothing.
use Prim.Native.Nat.{ℕ, zero, suc, ◌+◌, ◌*◌, ◌-◌, ◌≤◌, ◌<◌}
use native.Mathlib.Decide.{ℕ_discrete}
use native.Mathlib.Omega.{arith}
use mathlib.Core.Path.{◌≡◌, refl, sym, ap, ◌∙◌}
use mathlib.Core.Bool.{Bool, true, false}
use mathlib.Core.List.{List, [], ◌++◌}
use lib.ListN.{length, get_or, set}
use lib.Seq.{get_or-set_same, get_or-set_other}
use Rattle.spec.specs.declared.IsdAsn.{IsdAsn}
use Rattle.spec.specs.declared.Edge.{Edge}
use Rattle.spec.specs.Limits.{max_segments, solution_size}
use Rattle.std.specs.Prelude.{if◌then◌else◌}
use Rattle.spec.specs.Book.{Segment, segments, segment_at, segment_count, cores}
use Rattle.spec.specs.Edges.{is_first}
use Rattle.graph.specs.declared.search.Before.{Before}
use Rattle.graph.specs.Scan.{first_with}
use Rattle.graph.specs.Leaving.{has_as}
use Rattle.graph.specs.Prepared.{begins, arrives, Planned, Prepared}
use Rattle.graph.specs.Pushed.{Slots, Room, Pushes}
use Rattle.graph.specs.Search.{over_firsts, last_in}
use Rattle.graph.proofs.LookupScan.{first-le, first_passes}
use Rattle.graph.proofs.EdgeReads.{none-arrives}
use Rattle.graph.proofs.PushedTurns.{Going, going-begin, going-push, going_end, going-full}
use Rattle.graph.proofs.SearchLaws.{over-turn, over_skip, over-end}
use Rattle.graph.proofs.SearchTurns.{other_at, arrives-first, arrives-none, last-edge-missing}

-- ---- the plan is made from the last position down

-- one item more, at k
more-below : {A : Type 0} (d : A) (xs : List A) (f : ℕ → A) (k n : ℕ) (v : A) → k < length xs → v ≡ f k
    → ((i : ℕ) → k + 1 ≤ i → i < n → get_or xs i d ≡ f i) → (i : ℕ) → k ≤ i → i < n → get_or (set xs k v) i d ≡ f i
more-below d xs f k n v l q above i a h = go (ℕ_discrete k i)
  where
    go : Dec (k ≡ i) → get_or (set xs k v) i d ≡ f i
    go (yes e) = ap (λ j. get_or (set xs k v) j d) (sym e) ∙ get_or-set_same xs k v d l ∙ q ∙ ap f e
    go (no x) = get_or-set_other xs k i v d (λ e. x (sym e)) ∙ above i (omega arith) h

pub plan-all : {b : List ℕ} {src dst : IsdAsn} {n k : ℕ} {starts : List Bool} {nexts : List ℕ} → Planned b src dst n k starts nexts → k ≤ 0
    → Planned b src dst n 0 starts nexts
plan-all p h = record { begin = λ i a. p.begin i (omega arith); next = λ i a. p.next i (omega arith) }

module _ (b : List ℕ) (dst : IsdAsn) (n : ℕ) where
  abbrev next_from : ℕ → ℕ
  next_from k = first_with (arrives b dst) k (n - k)

  pub next-end : n ≡ next_from n
  unfolding first_with
  next-end = let e : n - n ≡ 0 = omega arith in sym (ap (first_with (arrives b dst) n) e)

  pub next-turn : (k : ℕ) → 0 < k → k ≤ n → {t : Bool} {next new : ℕ} → t ≡ arrives b dst (k - 1) → next ≡ next_from k → new ≡ (if t then k - 1 else next)
      → new ≡ next_from (k - 1)
  unfolding first_with
  next-turn k below within {next = next} there later chosen =
      let back : k ≡ k - 1 + 1 = omega arith in
      let e : suc (n - (k - 1 + 1)) ≡ n - (k - 1) = omega arith in
      chosen
      ∙ ap (λ x. if x then k - 1 else next) there
      ∙ ap (λ x. if arrives b dst (k - 1) then k - 1 else x) (later ∙ ap next_from back)
      ∙ ap (first_with (arrives b dst) (k - 1)) e

  module _ (src : IsdAsn) (few : n ≤ max_segments) (starts : List Bool) (nexts : List ℕ) (size : length nexts ≡ max_segments + 1) where
    pub plan-start : Planned b src dst n n starts (set nexts n n)
    plan-start =
        record {
          begin = λ i a h. absurd (omega arith);
          next = λ i a h.
              let e : n ≡ i = omega arith in
              ap (λ j. get_or (set nexts n n) j 0) (sym e) ∙ get_or-set_same nexts n n 0 (omega arith) ∙ next-end ∙ ap next_from e;
        }

    pub plan-turn : length starts ≡ max_segments → (k : ℕ) → 0 < k → k ≤ n → {s : Bool} {next : ℕ} → s ≡ begins b src (k - 1) → next ≡ next_from (k - 1)
        → Planned b src dst n k starts nexts → Planned b src dst n (k - 1) (set starts (k - 1) s) (set nexts (k - 1) next)
    plan-turn room k below within {s = s} {next = next} here chosen p =
        record {
          begin = λ i a h. more-below false starts (begins b src) (k - 1) n s (omega arith) here (λ j c d. p.begin j (omega arith) d) i a h;
          next = λ i a h.
              more-below 0 nexts next_from (k - 1) (n + 1) next (omega arith) chosen (λ j c d. p.next j (omega arith) (omega arith)) i a (omega arith);
        }

-- ---- what is passed over

module _ {A : Type 0} (f : Segment → List A) (b : List ℕ) (p : ℕ → Bool) where
  skip-from : (k left : ℕ) → ((i : ℕ) → k ≤ i → p i ≡ false → is_first (segments b) (segment_at b i) ≡ true → f (segment_at b i) ≡ [])
      → over_firsts f b k left ≡ over_firsts f b (first_with p k left) (k + left - first_with p k left)
  unfolding first_with
  skip-from k zero none = let e : 0 ≡ k + 0 - k = omega arith in ap (over_firsts f b k) e
  skip-from k (suc left) none = go (p k) refl (skip-from (k + 1) left (λ i h. none i (omega arith)))
    where
      go : (t : Bool) → p k ≡ t → over_firsts f b (k + 1) left ≡ over_firsts f b (first_with p (k + 1) left) (k + 1 + left - first_with p (k + 1) left)
          → over_firsts f b k (suc left) ≡ over_firsts f b (if t then k else first_with p (k + 1) left) (k + suc left - (if t then k else first_with p (k + 1) left))
      go true q ih = let e : suc left ≡ k + suc left - k = omega arith in ap (over_firsts f b k) e
      go false q ih =
          let e : suc left ≡ k + suc left - k = omega arith in
          let e' : k + suc left - (k + 1) ≡ left = omega arith in
          let e'' : k + 1 + left ≡ k + suc left = omega arith in
          ap (over_firsts f b k) e
          ∙ over_skip f b k (k + suc left) (omega arith) (none k (omega arith) q)
          ∙ ap (over_firsts f b (k + 1)) e'
          ∙ ih
          ∙ ap (λ m. over_firsts f b (first_with p (k + 1) left) (m - first_with p (k + 1) left)) e''

  skip-to-next : (k n : ℕ) {j : ℕ} → k ≤ n → ((i : ℕ) → k ≤ i → p i ≡ false → is_first (segments b) (segment_at b i) ≡ true → f (segment_at b i) ≡ [])
      → j ≡ first_with p k (n - k) → over_firsts f b k (n - k) ≡ over_firsts f b j (n - j)
  skip-to-next k n h none q =
      let e : k + (n - k) ≡ n = omega arith in
      skip-from k (n - k) none
      ∙ ap (λ m. over_firsts f b (first_with p k (n - k)) (m - first_with p k (n - k))) e
      ∙ ap (λ i. over_firsts f b i (n - i)) (sym q)

-- ---- the loop over last edges

-- what gives nothing in a non-core segment where no chain arrives
abbrev Quiet : List ℕ → IsdAsn → (Segment → List (List Edge)) → Type 0
Quiet b dst f = (i : ℕ) → cores b ≤ i → has_as (segment_at b i) dst ≡ false → f (segment_at b i) ≡ []

pub last-quiet : (b : List ℕ) (dst : IsdAsn) (x : Before) (e f : Edge) → Quiet b dst (last_in b dst x e f)
last-quiet b dst x e f i h q = last-edge-missing b dst x e f i h (sym (none-arrives (segment_at b i) (other_at b i h) dst q f.dst))

-- it stands past all positions or where chains may arrive, and has pushed what the positions before give
pub record LastEdges (b : List ℕ) (dst : IsdAsn) (c n slots : ℕ) (f : Segment → List (List Edge)) (before : Slots) (k m : ℕ) (out : List ℕ) : Type 0 where
  pub above : c ≤ k
  pub within : k ≤ n
  pub here : k < n → arrives b dst k ≡ true
  pub size : length out ≡ length before.1
  pub going : Going slots before (m, out) (over_firsts f b c (n - c)) (over_firsts f b k (n - k))

module _ {b : List ℕ} {starts : List Bool} {nexts : List ℕ} {src dst : IsdAsn} {c n : ℕ} (p : Prepared b starts nexts src dst c n) where
  abbrev next_at : ℕ → ℕ
  next_at k = get_or nexts k 0

  module _ (k : ℕ) (h : k ≤ n) where
    next : next_at k ≡ first_with (arrives b dst) k (n - k)
    next = p.planned.next k (omega arith) h

    next-above : k ≤ next_at k
    next-above = omega (arith, next, first-le (arrives b dst) k (n - k))

    next-within : next_at k ≤ n
    next-within = omega (arith, next, first-le (arrives b dst) k (n - k))

    next_here : next_at k < n → arrives b dst (next_at k) ≡ true
    next_here g = ap (arrives b dst) next ∙ first_passes (arrives b dst) k (n - k) (omega (arith, next))

  pass : (f : Segment → List (List Edge)) → Quiet b dst f → (k : ℕ) → c ≤ k → k ≤ n → over_firsts f b k (n - k) ≡ over_firsts f b (next_at k) (n - next_at k)
  pass f quiet k a h =
      skip-to-next f b (arrives b dst) k n h
      (λ i l q u. quiet i (omega (arith, p.cores)) (arrives-none b i dst (omega (arith, p.cores)) q u)) (next k h)

  module _ {slots : ℕ} {f : Segment → List (List Edge)} {before : Slots} where
    module _ (quiet : Quiet b dst f) where
      pub last-start : before.0 ≤ slots + 1 → LastEdges b dst c n slots f before (next_at c) before.0 before.1
      last-start l =
          record {
            above = next-above c p.within;
            within = next-within c p.within;
            here = next_here c p.within;
            size = refl;
            going = going-begin l (pass f quiet c (omega arith) p.within);
          }

      -- one position, and on to the next
      pub last_turn : {k m m' : ℕ} {out out' : List ℕ} → LastEdges b dst c n slots f before k m out → k < n
          → Pushes slots (m, out) (m', out') (f (segment_at b k)) → length out' ≡ length out → LastEdges b dst c n slots f before (next_at (k + 1)) m' out'
      last_turn {k} l h q e =
          record {
            above = omega (arith, l.above, next-above (k + 1) (omega arith));
            within = next-within (k + 1) (omega arith);
            here = next_here (k + 1) (omega arith);
            size = e ∙ l.size;
            going =
                going-push l.going
                (over-turn f b k n h (arrives-first b k dst (l.here h)) ∙ ap (λ x. f (segment_at b k) ++ x) (pass f quiet (k + 1) (omega (arith, l.above)) (omega arith))) q;
          }

    module _ {k m : ℕ} {out : List ℕ} (l : LastEdges b dst c n slots f before k m out) where
      pub last_less : k < n → n - next_at (k + 1) < n - k
      last_less h = omega (arith, next-above (k + 1) (omega arith))

      -- what the function for one position asks
      pub last-position : k < n → (cores b ≤ k) × (k < segment_count b)
      last-position h = (omega (arith, l.above, p.cores), omega (arith, p.count))

      pub last-room : solution_size * slots ≤ length before.1 → m ≤ slots → Room slots m out
      last-room r s = record { room = omega (arith, l.size); most = omega arith }

module _ {b : List ℕ} {dst : IsdAsn} {c n slots : ℕ} {f : Segment → List (List Edge)} {before : Slots} {k m : ℕ} {out : List ℕ}
    (l : LastEdges b dst c n slots f before k m out) where
  pub last_end : n ≤ k → Pushes slots before (m, out) (over_firsts f b c (n - c))
  last_end h = going_end l.going (over-end f b k n h)

  -- the count is past the slots
  pub last-full : slots < m → Pushes slots before (m, out) (over_firsts f b c (n - c))
  last-full h = going-full l.going h
