-- One more record among the routes held.
-- Assumes nothing.
use Prim.Native.Nat.{ℕ, zero, suc, ◌+◌, ◌*◌, ◌≤◌, ◌<◌}
use native.Mathlib.Decide.{ℕ_discrete, dec_lt}
use native.Mathlib.Omega.{arith}
use mathlib.Core.Path.{◌≡◌, refl, sym, ap, ap₂, ◌∙◌, subst}
use mathlib.Core.Bool.{Bool, true, false}
use mathlib.Core.List.Memᴰ.{head, tail}
use mathlib.Core.List.{List, [], ◌∷◌, ◌++◌, map, Memᴰ as Mem}
use lib.ListN.{length, get_or, set, drop, length-take, length-drop, length-set}
use lib.Seq.{get_or-set_same, get_or-set_other, set-get_or, ext_get_or}
use borrow.Author.Tests.{lt-ltb, le-ltb}
use Rattle.spec.specs.declared.PathInterface.{PathInterface}
use Rattle.spec.specs.declared.Outcome.TheVariants.{Path, Loop, Bare}
use Rattle.spec.specs.Limits.{solution_size}
use Rattle.std.specs.Prelude.{Ok, Option, Some, None, if◌then◌else◌}
use Rattle.spec.specs.Basics.{filter, range, Once}
use Rattle.spec.specs.Assembly.{is_bare, outcome}
use Rattle.spec.specs.Printed.{is_path}
use Rattle.spec.specs.Routes.{same_interfaces, longer, hold, hold_all}
use Rattle.spec.proofs.Membership.{mem-map}
use Rattle.spec.proofs.HoldingLaws.{interfaces-eq, all_end, good}
use Rattle.output.specs.Write.{written}
use Rattle.output.proofs.Writing.{written-length}
use Rattle.path.specs.declared.shown.Shown.{Shown}
use Rattle.path.specs.declared.route_list.Held.{Held}
use Rattle.path.specs.declared.mark.Pair.{Pair}
use Rattle.path.specs.Thrice.{numbers_in, some_thrice}
use Rattle.path.specs.Marking.{both_marks}
use Rattle.path.specs.Slots.{record_at, records_to, shown_in, path_in, has_route, route_in, expiry_in, hold_in, step, held_to, OfBook, AllOfBook, Shows, Sought, Told, Chained, Holds, Kept, Routed}
use Rattle.path.proofs.Buffers.{record-in, records-length, records-more, written-here, written-early, written-late, written_after, after-later, after-record}
use Rattle.path.proofs.Buckets.{chained-mark}
use Rattle.path.proofs.Interfaces.{shown-length}

-- ---- where the route was found, and where it was not

module _ {A : Type 0} (route : A → List PathInterface) (expiry : A → ℕ) (z : A) where
  hold-found : (a : A) (hs : List A) (j : ℕ) → j < length hs → ((i : ℕ) → i < j → same_interfaces (route a) (route (get_or hs i z)) ≡ false)
      → same_interfaces (route a) (route (get_or hs j z)) ≡ true → hold route expiry a hs ≡ set hs j (longer route expiry a (get_or hs j z))
  unfolding hold
  hold-found a [] j h o q = absurd (omega arith)
  hold-found a (x ∷ hs) zero h o q = ap (λ t. if t then longer route expiry a x ∷ hs else x ∷ hold route expiry a hs) q
  hold-found a (x ∷ hs) (suc j) h o q =
      ap (λ t. if t then longer route expiry a x ∷ hs else x ∷ hold route expiry a hs) (o 0 (omega arith))
      ∙ ap (λ l. x ∷ l) (hold-found a hs j (omega arith) (λ i k. o (suc i) (omega arith)) q)

  hold-new : (a : A) (hs : List A) → ((i : ℕ) → i < length hs → same_interfaces (route a) (route (get_or hs i z)) ≡ false) → hold route expiry a hs ≡ hs ++ (a ∷ [])
  unfolding hold
  hold-new a [] o = refl
  hold-new a (x ∷ hs) o =
      ap (λ t. if t then longer route expiry a x ∷ hs else x ∷ hold route expiry a hs) (o 0 (omega arith))
      ∙ ap (λ l. x ∷ l) (hold-new a hs (λ i k. o (suc i) (omega arith)))

  get_or-mem : (xs : List A) (j : ℕ) → j < length xs → Mem (get_or xs j z) xs
  get_or-mem [] j l = absurd (omega arith)
  get_or-mem (x ∷ xs) zero l = head refl
  get_or-mem (x ∷ xs) (suc j) l = tail (get_or-mem xs j (omega arith))

  -- a route stands at one place only
  once-at : (hs : List A) → Once (map route hs) → (i j : ℕ) → i < j → j < length hs → route (get_or hs i z) ≡ route (get_or hs j z) → ⊥
  once-at [] o i j l m q = omega arith
  once-at (x ∷ hs) o i zero l m q = omega arith
  once-at (x ∷ hs) o zero (suc j) l m q = o.0 (subst (λ r. Mem r (map route hs)) (sym q) (mem-map route (get_or-mem hs j (omega arith))))
  once-at (x ∷ hs) o (suc i) (suc j) l m q = once-at hs o.1 i j (omega arith) (omega arith) q

  same_once : (hs : List A) → Once (map route hs) → (r : List PathInterface) (j : ℕ) → j < length hs → same_interfaces r (route (get_or hs j z)) ≡ true
      → (i : ℕ) → i < j → same_interfaces r (route (get_or hs i z)) ≡ false
  same_once hs o r j l q i h = go (same_interfaces r (route (get_or hs i z))) refl
    where
      go : (t : Bool) → same_interfaces r (route (get_or hs i z)) ≡ t → t ≡ false
      go false e = refl
      go true e = absurd (once-at hs o i j h l (sym (interfaces-eq r _ e) ∙ interfaces-eq r _ q))

-- ---- does a record have a path?

module _ (b given a i : List ℕ) (s : Shown) (w : Shows b given a i s) where
  pub no-loop-path : (t : Bool) → t ≡ some_thrice (numbers_in a 0 s.count) → t ≡ true → has_route b given ≡ false
  unfolding has_route outcome route_in
  no-loop-path t q e = ap (λ u. is_path (Ok (if u then Loop else if is_bare (path_in b given).interfaces then Bare else Path))) (sym w.loops ∙ sym q ∙ e)

  empty-is : (is : List PathInterface) → length is ≡ 0 → is_bare is ≡ true
  empty-is [] q = unfold is_bare in refl
  empty-is (x ∷ is) q = absurd (omega arith)

  some_is : (is : List PathInterface) → (length is ≡ 0 → ⊥) → is_bare is ≡ false
  some_is [] h = absurd (h refl)
  some_is (x ∷ is) h = unfold is_bare in refl

  size : length (route_in b given) ≡ s.count
  size = ap length w.route ∙ shown-length a i s.count

  module _ (t : Bool) (q : t ≡ some_thrice (numbers_in a 0 s.count)) (e : t ≡ false) where
    by_bare : {u : Bool} → is_bare (route_in b given) ≡ u → has_route b given ≡ is_path (Ok (if u then Bare else Path))
    unfolding has_route outcome route_in
    by_bare r = ap₂ (λ x y. is_path (Ok (if x then Loop else if y then Bare else Path))) (sym w.loops ∙ sym q ∙ e) r

    pub no-bare-path : s.count ≡ 0 → has_route b given ≡ false
    no-bare-path z = by_bare (empty-is (route_in b given) (size ∙ z))

    pub has-path : (s.count ≡ 0 → ⊥) → has_route b given ≡ true
    has-path n = by_bare (some_is (route_in b given) (λ z. n (sym size ∙ z)))

-- ---- one record

pub record-size : (d : List ℕ) (k : ℕ) → solution_size * (k + 1) ≤ length d → length (record_at d k) ≡ solution_size
record-size d k room = omega (arith, length-take solution_size (drop (solution_size * k) d), length-drop (solution_size * k) d)

module _ (b : List ℕ) (keys : Pair) (d marks next heads : List ℕ) (kept : ℕ) (w : Holds b keys d marks next heads kept) where
  -- without a path: all stays
  pub kept-none : (k : ℕ) (given : List ℕ) → given ≡ record_at d k → has_route b given ≡ false → Kept b keys (step b (record_at d k)) d kept d marks next heads kept
  unfolding step
  kept-none k given e q =
      record {
        size = refl;
        front = sym (ap (λ t. if t then hold_in b (record_at d k) (records_to d kept) else records_to d kept) (ap (has_route b) (sym e) ∙ q));
        rest = refl;
        most = omega arith;
        slots = λ j o. o;
        marked = w.marked;
        chained = w.chained;
      }

  -- with one
  pub kept_step : (k : ℕ) (given d' marks' next' heads' : List ℕ) (kept' : ℕ) → given ≡ record_at d k → has_route b given ≡ true
      → Kept b keys (hold_in b given) d kept d' marks' next' heads' kept' → Kept b keys (step b (record_at d k)) d kept d' marks' next' heads' kept'
  unfolding step
  kept_step k given d' marks' next' heads' kept' e q v =
      record {
        size = v.size;
        front =
            v.front ∙ ap (λ g. hold_in b g (records_to d kept)) e
            ∙ sym (ap (λ t. if t then hold_in b (record_at d k) (records_to d kept) else records_to d kept) (ap (has_route b) (sym e) ∙ q));
        rest = v.rest;
        most = v.most;
        slots = v.slots;
        marked = v.marked;
        chained = v.chained;
      }

  module _ (given a i : List ℕ) (s : Shown) (sh : Shows b given a i s) (long : length given ≡ solution_size) (of : OfBook b given) (x : ℕ)
      (its : x ≡ both_marks keys (shown_in a i s.count)) (space : kept < length marks) where
    abbrev hs : List (List ℕ)
    hs = records_to d kept

    n-hs : length hs ≡ kept
    n-hs = records-length d kept

    abbrev marks₁ : List ℕ
    marks₁ = set marks kept x

    mark-before : (j : ℕ) → j < kept → get_or marks₁ j 0 ≡ both_marks keys (route_in b (record_at d j))
    mark-before j l = get_or-set_other marks kept j x 0 (λ z. omega arith) ∙ w.marked j l

    mark-here : get_or marks₁ kept 0 ≡ both_marks keys (route_in b given)
    mark-here = get_or-set_same marks kept x 0 space ∙ its ∙ ap (both_marks keys) (sym sh.route)

    -- equal routes have equal marks
    pub told_is : Told b (shown_in a i s.count) d (set marks kept x) kept
    told_is =
        record {
          told = λ j l e.
              mark-before j l ∙ ap (both_marks keys) (sym (interfaces-eq _ _ e) ∙ sym sh.route) ∙ sym mark-here;
        }

    pub chained-is : Chained (set marks kept x) next heads kept
    chained-is = chained-mark marks next heads kept x w.chained

    same_in : (j : ℕ) {t : Bool} → j < kept → same_interfaces (shown_in a i s.count) (route_in b (record_at d j)) ≡ t → same_interfaces (route_in b given) (route_in b (get_or hs j [])) ≡ t
    same_in j l q = ap₂ (λ r g. same_interfaces r (route_in b g)) sh.route (record-in d kept j l) ∙ q

    module _ (h : Option Held) (so : Sought b (shown_in a i s.count) d kept h) where
      -- it is a new route
      module _ (none : h ≡ None) (room : solution_size * (kept + 1) ≤ length d) (d' next' heads' : List ℕ) (put : d' ≡ written d (solution_size * kept) given)
          (c : Chained (set marks kept x) next' heads' (kept + 1)) where
        old : (j : ℕ) → j < kept → record_at d' j ≡ record_at d j
        old j l = ap (λ e. record_at e j) put ∙ written-early d kept given long room j l

        new : record_at d' kept ≡ given
        new = ap (λ e. record_at e kept) put ∙ written-here d kept given long room

        late : (j : ℕ) → kept < j → record_at d' j ≡ record_at d j
        late j l = ap (λ e. record_at e j) put ∙ written-late d kept given long room j l

        front_same : records_to d' kept ≡ records_to d kept
        front_same =
            ext_get_or [] (records_to d' kept) hs (records-length d' kept ∙ sym n-hs)
            (λ j l. let o : j < kept = omega (arith, records-length d' kept) in record-in d' kept j o ∙ old j o ∙ sym (record-in d kept j o))

        pub kept-adds : Kept b keys (hold_in b given) d kept d' (set marks kept x) next' heads' (kept + 1)
        unfolding hold_in
        kept-adds =
            record {
              size = ap length put ∙ written-length d (solution_size * kept) given;
              front =
                  records-more d' kept ∙ ap₂ (λ l (r : List ℕ). l ++ (r ∷ [])) front_same new
                  ∙ sym (hold-new (route_in b) (expiry_in b) [] given hs (λ j l. let o : j < kept = omega (arith, n-hs) in same_in j o (so.none none j o)));
              rest = ap (drop (solution_size * (kept + 1))) put ∙ written_after d kept given long room;
              most = omega arith;
              slots = λ j o. slot j o (dec_lt j kept) (ℕ_discrete j kept);
              marked = λ j l. mark j (dec_lt j kept) (ℕ_discrete j kept) l;
              chained = c;
            }
          where
            slot : (j : ℕ) → OfBook b (record_at d j) → Dec (j < kept) → Dec (j ≡ kept) → OfBook b (record_at d' j)
            slot j o (yes p) e = subst (OfBook b) (sym (old j p)) o
            slot j o (no p) (yes e) = subst (OfBook b) (sym (ap (record_at d') e ∙ new)) of
            slot j o (no p) (no e) = subst (OfBook b) (sym (late j (omega arith))) o

            mark : (j : ℕ) → Dec (j < kept) → Dec (j ≡ kept) → j < kept + 1 → get_or marks₁ j 0 ≡ both_marks keys (route_in b (record_at d' j))
            mark j (yes p) e l = mark-before j p ∙ ap (λ r. both_marks keys (route_in b r)) (sym (old j p))
            mark j (no p) (yes e) l =
                ap (λ n. get_or marks₁ n 0) e ∙ mark-here ∙ ap (λ r. both_marks keys (route_in b r)) (sym (ap (record_at d') e ∙ new))
            mark j (no p) (no e) l = absurd (omega arith)

      -- its route is held
      module _ (held : Held) (some : h ≡ Some held) where
        abbrev k : ℕ
        k = held.slot

        in_kept : k < kept
        in_kept = (so.some held some).0

        in_list : k < length hs
        in_list = omega (arith, in_kept, n-hs)

        same : same_interfaces (route_in b given) (route_in b (get_or hs k [])) ≡ true
        same = same_in k in_kept (so.some held some).1

        lasts : held.expiry ≡ expiry_in b (get_or hs k [])
        lasts = (so.some held some).2 ∙ ap (expiry_in b) (sym (record-in d kept k in_kept))

        found : hold_in b given hs ≡ set hs k (longer (route_in b) (expiry_in b) given (get_or hs k []))
        unfolding hold_in
        found = hold-found (route_in b) (expiry_in b) [] given hs k in_list (same_once (route_in b) (expiry_in b) [] hs w.once (route_in b given) k in_list same) same

        pub kept-stays : s.expiry ≤ held.expiry → Kept b keys (hold_in b given) d kept d (set marks kept x) next heads kept
        unfolding longer
        kept-stays q =
            let e : expiry_in b given ≤ expiry_in b (get_or hs k []) = omega (arith, lasts, sh.expiry) in
            record {
              size = refl;
              front = sym (found ∙ ap (λ t. set hs k (if t then given else get_or hs k [])) (le-ltb _ _ e) ∙ set-get_or hs k []);
              rest = refl;
              most = omega arith;
              slots = λ j o. o;
              marked = mark-before;
              chained = chained-is;
            }

        module _ (q : held.expiry < s.expiry) (room : solution_size * (kept + 1) ≤ length d) (d' : List ℕ) (put : d' ≡ written d (solution_size * held.slot) given) where
          fits : solution_size * (k + 1) ≤ length d
          fits = omega (arith, in_kept)

          others : (j : ℕ) → (j ≡ k → ⊥) → record_at d' j ≡ record_at d j
          others j n = ap (λ e. record_at e j) put ∙ go (dec_lt j k)
            where
              go : Dec (j < k) → record_at (written d (solution_size * k) given) j ≡ record_at d j
              go (yes p) = written-early d k given long fits j p
              go (no p) = written-late d k given long fits j (omega arith)

          taken : record_at d' k ≡ given
          taken = ap (λ e. record_at e k) put ∙ written-here d k given long fits

          slots-are : records_to d' kept ≡ set hs k given
          slots-are =
              ext_get_or [] (records_to d' kept) (set hs k given) (records-length d' kept ∙ sym n-hs ∙ sym (length-set hs k given))
              (λ j l. let o : j < kept = omega (arith, records-length d' kept) in record-in d' kept j o ∙ at j o (ℕ_discrete j k))
            where
              at : (j : ℕ) → j < kept → Dec (j ≡ k) → record_at d' j ≡ get_or (set hs k given) j []
              at j o (yes e) = ap (record_at d') e ∙ taken ∙ sym (ap (λ n. get_or (set hs k given) n []) e ∙ get_or-set_same hs k given [] in_list)
              at j o (no n) = others j n ∙ sym (record-in d kept j o) ∙ sym (get_or-set_other hs k j given [] n)

          pub kept-takes : Kept b keys (hold_in b given) d kept d' (set marks kept x) next heads kept
          unfolding longer
          kept-takes =
              let e : expiry_in b (get_or hs k []) < expiry_in b given = omega (arith, lasts, sh.expiry) in
              record {
                size = ap length put ∙ written-length d (solution_size * k) given;
                front = slots-are ∙ sym (found ∙ ap (λ t. set hs k (if t then given else get_or hs k [])) (lt-ltb _ _ e));
                rest =
                    after-later d d' (k + 1) (ap (drop (solution_size * (k + 1))) put ∙ written_after d k given long fits) (kept + 1) (omega (arith, in_kept));
                most = omega arith;
                slots = λ j o. slot j o (ℕ_discrete j k);
                marked = λ j l. mark j l (ℕ_discrete j k);
                chained = chained-is;
              }
            where
              slot : (j : ℕ) → OfBook b (record_at d j) → Dec (j ≡ k) → OfBook b (record_at d' j)
              slot j o (yes e) = subst (OfBook b) (sym (ap (record_at d') e ∙ taken)) of
              slot j o (no n) = subst (OfBook b) (sym (others j n)) o

              mark : (j : ℕ) → j < kept → Dec (j ≡ k) → get_or marks₁ j 0 ≡ both_marks keys (route_in b (record_at d' j))
              mark j l (yes e) =
                  mark-before j l
                  ∙ ap (λ n. both_marks keys (route_in b (record_at d n))) e
                  ∙ ap (λ r. both_marks keys (route_in b r)) (sym (record-in d kept k in_kept))
                  ∙ ap (both_marks keys) (sym (interfaces-eq _ _ same))
                  ∙ ap (λ r. both_marks keys (route_in b r)) (sym (ap (record_at d') e ∙ taken))
              mark j l (no n) = mark-before j l ∙ ap (λ r. both_marks keys (route_in b r)) (sym (others j n))

-- ---- the loop over all

module _ (b d : List ℕ) where
  filter-end : {A : Type 0} (p : A → Bool) (xs : List A) (x : A) → filter p (xs ++ (x ∷ [])) ≡ (if p x then filter p xs ++ (x ∷ []) else filter p xs)
  unfolding filter
  filter-end p [] x = go (p x)
    where
      go : (t : Bool) → (if t then x ∷ [] else []) ≡ (if t then [] ++ (x ∷ []) else [])
      go true = refl
      go false = refl
  filter-end p (y ∷ xs) x = go (p y) (p x) (filter-end p xs x)
    where
      go : (s t : Bool) → filter p (xs ++ (x ∷ [])) ≡ (if t then filter p xs ++ (x ∷ []) else filter p xs)
          → (if s then y ∷ filter p (xs ++ (x ∷ [])) else filter p (xs ++ (x ∷ [])))
          ≡ (if t then (if s then y ∷ filter p xs else filter p xs) ++ (x ∷ []) else (if s then y ∷ filter p xs else filter p xs))
      go true true ih = ap (λ l. y ∷ l) ih
      go true false ih = ap (λ l. y ∷ l) ih
      go false true ih = ih
      go false false ih = ih

  held_more : (k : ℕ) → held_to b d (k + 1) ≡ step b (record_at d k) (held_to b d k)
  unfolding held_to step hold_in
  held_more k =
      ap (λ l. hold_all (route_in b) (expiry_in b) [] (filter (has_route b) l)) (records-more d k)
      ∙ ap (hold_all (route_in b) (expiry_in b) []) (filter-end (has_route b) (records_to d k) (record_at d k))
      ∙ go (has_route b (record_at d k))
    where
      before : List (List ℕ)
      before = filter (has_route b) (records_to d k)

      go : (t : Bool) → hold_all (route_in b) (expiry_in b) [] (if t then filter (has_route b) (records_to d k) ++ (record_at d k ∷ []) else filter (has_route b) (records_to d k))
          ≡ (if t then hold (route_in b) (expiry_in b) (record_at d k) (hold_all (route_in b) (expiry_in b) [] (filter (has_route b) (records_to d k))) else hold_all (route_in b) (expiry_in b) [] (filter (has_route b) (records_to d k)))
      go true = all_end (route_in b) (expiry_in b) [] (filter (has_route b) (records_to d k)) (record_at d k)
      go false = refl

  held-once : (k : ℕ) → Once (map (route_in b) (held_to b d k))
  unfolding held_to
  held-once k = (good (route_in b) (expiry_in b) (filter (has_route b) (records_to d k))).once

  -- after k of n records
  pub record Turned (keys : Pair) (n : ℕ) (out marks next heads : List ℕ) (kept k : ℕ) : Type 0 where
    pub front : records_to out kept ≡ held_to b d k
    pub rest : drop (solution_size * k) out ≡ drop (solution_size * k) d
    pub slots : AllOfBook b out n
    pub marked : (j : ℕ) → j < kept → get_or marks j 0 ≡ both_marks keys (route_in b (record_at out j))
    pub chained : Chained marks next heads kept

  module _ (keys : Pair) (n : ℕ) where
    pub turned_none : (marks next heads : List ℕ) → AllOfBook b d n → Chained marks next heads 0 → Turned keys n d marks next heads 0 0
    unfolding held_to records_to range filter hold_all
    turned_none marks next heads o c =
        record { front = refl; rest = refl; slots = o; marked = λ j l. absurd (omega arith); chained = c }

    module _ (out marks next heads : List ℕ) (kept k : ℕ) (v : Turned keys n out marks next heads kept k) (few : kept ≤ k) (below : k < n) where
      pub turned-holds : Holds b keys out marks next heads kept
      turned-holds =
          record {
            slots = λ j l. v.slots j (omega arith);
            once = subst (λ l. Once (map (route_in b) l)) (sym v.front) (held-once k);
            marked = v.marked;
            chained = v.chained;
          }

      pub turned_more : (out' marks' next' heads' : List ℕ) (kept' : ℕ) → Kept b keys (step b (record_at out k)) out kept out' marks' next' heads' kept'
          → Turned keys n out' marks' next' heads' kept' (k + 1)
      turned_more out' marks' next' heads' kept' w =
          record {
            front = w.front ∙ ap₂ (step b) (after-record d out k v.rest k (omega arith)) v.front ∙ sym (held_more k);
            rest = after-later out out' (kept + 1) w.rest (k + 1) (omega arith) ∙ after-later d out k v.rest (k + 1) (omega arith);
            slots = λ j l. w.slots j (v.slots j l);
            marked = w.marked;
            chained = w.chained;
          }

    pub turned-all : (out marks next heads : List ℕ) (kept k : ℕ) → Turned keys n out marks next heads kept k → kept ≤ k → k ≡ n → Routed b d n out kept
    turned-all out marks next heads kept k v few e =
        record {
          front = v.front ∙ ap (held_to b d) e;
          few = omega arith;
          rest = subst (λ m. drop (solution_size * m) out ≡ drop (solution_size * m) d) e v.rest;
        }
