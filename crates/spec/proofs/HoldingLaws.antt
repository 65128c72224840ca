-- What is held, one after the other: each route once, in order of first appearance, the earliest with the greatest expiry; and that what is held
-- follows a map.
-- Assumes nothing.
use Rattle.std.proofs.lemmas.Bool.{and_from}
use Prim.Native.Nat.{ℕ, suc, ◌+◌, ◌≤◌, ◌<◌}
use native.Mathlib.Omega.{arith}
use mathlib.Core.Path.{◌≡◌, refl, sym, ap, ap₂, ◌∙◌, subst}
use mathlib.Core.Logic.{◌⊎◌, inl, inr, ⊎_elim}
use mathlib.Core.Bool.{Bool, true, false, ◌&&◌, ◌||◌, false≢true}
use mathlib.Core.List.Memᴰ
use mathlib.Core.List.Memᴰ.{append_cases, cases_cons, eq_of_singleton, head, not-nil, tail}
use mathlib.Core.List.{List, [], ◌∷◌, ◌++◌, map, append_assoc, append-nil, Memᴰ as Mem}
use lib.ListN.{length}
use lib.Dec.{eqb, ltb}
use borrow.Author.Tests.{eqb-true, eq-eqb, ltb-true, ltb-false}
use Rattle.spec.specs.declared.PathInterface.{PathInterface}
use Rattle.std.specs.Prelude.{if◌then◌else◌}
use Rattle.spec.specs.Basics.{any, filter, Once}
use Rattle.spec.specs.Book.{same_as}
use Rattle.spec.proofs.Membership.{and-true, not-both, map-mem, mem-map, once-append}
use Rattle.spec.specs.Routes.{same_interface, same_interfaces, longer, hold, hold_all}
use Rattle.spec.specs.RouteDemand.{add_new, appearances, Best}

-- ---- the test of equal lists of interfaces

pub interfaces-eq : (is js : List PathInterface) → same_interfaces is js ≡ true → is ≡ js
unfolding same_interfaces same_interface same_as
interfaces-eq [] [] q = refl
interfaces-eq [] (j ∷ js) q = absurd (false≢true q)
interfaces-eq (i ∷ is) [] q = absurd (false≢true q)
interfaces-eq (i ∷ is) (j ∷ js) q =
    let h = and-true (eqb i.local.0 j.local.0 && eqb i.id j.id) (same_interfaces is js) q in
    let g = and-true (eqb i.local.0 j.local.0) (eqb i.id j.id) h.0 in
    ap₂ {B = List PathInterface} (λ (x : PathInterface) l. x ∷ l)
    (λ k. record { local = record { 0 = eqb-true i.local.0 j.local.0 g.0 k }; id = eqb-true i.id j.id g.1 k })
    (interfaces-eq is js h.1)

pub interfaces-refl : (is : List PathInterface) → same_interfaces is is ≡ true
unfolding same_interfaces same_interface same_as
interfaces-refl [] = refl
interfaces-refl (i ∷ is) =
    and_from (eqb i.local.0 i.local.0 && eqb i.id i.id) (same_interfaces is is)
    (and_from (eqb i.local.0 i.local.0) (eqb i.id i.id) (eq-eqb i.local.0 i.local.0 refl) (eq-eqb i.id i.id refl)) (interfaces-refl is)

pub interfaces-same : (is js : List PathInterface) → is ≡ js → same_interfaces is js ≡ true
interfaces-same is js q = subst (λ l. same_interfaces is l ≡ true) q (interfaces-refl is)

-- ---- order of first appearance

module _ (x : List PathInterface) where
  any-mem : (ks : List (List PathInterface)) → any (same_interfaces x) ks ≡ true → Mem x ks
  unfolding any
  any-mem [] q = absurd (false≢true q)
  any-mem (k ∷ ks) q = go (any-mem ks) (same_interfaces x k) refl q
    where
      go : (any (same_interfaces x) ks ≡ true → Mem x ks) → (t : Bool) → same_interfaces x k ≡ t → (t || any (same_interfaces x) ks) ≡ true → Mem x (k ∷ ks)
      go ih true e q = head (interfaces-eq x k e)
      go ih false e q = tail (ih q)

  mem-any : (ks : List (List PathInterface)) → Mem x ks → any (same_interfaces x) ks ≡ true
  unfolding any
  mem-any [] m = absurd (not-nil m)
  mem-any (k ∷ ks) m = go (mem-any ks) (same_interfaces x k) refl (cases_cons m)
    where
      go : (Mem x ks → any (same_interfaces x) ks ≡ true) → (t : Bool) → same_interfaces x k ≡ t → (x ≡ k) ⊎ Mem x ks → (t || any (same_interfaces x) ks) ≡ true
      go ih true e w = refl
      go ih false e (inl q) = not-both (interfaces-same x k q) e
      go ih false e (inr l) = ih l

  once-new : (ks : List (List PathInterface)) → Once ks → Once (add_new x ks)
  unfolding add_new
  once-new ks o = go (any (same_interfaces x) ks) refl
    where
      go : (t : Bool) → any (same_interfaces x) ks ≡ t → Once (if t then ks else ks ++ (x ∷ []))
      go true e = o
      go false e =
          once-append ks (x ∷ []) o (λ m. not-nil m, tt)
          (λ y m n. not-both (mem-any ks (Memᴰ.cast (sym (eq_of_singleton n)) m)) e)

  new-old : (ks : List (List PathInterface)) {y : List PathInterface} → Mem y ks → Mem y (add_new x ks)
  unfolding add_new
  new-old ks {y} m = go (any (same_interfaces x) ks)
    where
      go : (t : Bool) → Mem y (if t then ks else ks ++ (x ∷ []))
      go true = m
      go false = Memᴰ.append_left (x ∷ []) m

  new-there : (ks : List (List PathInterface)) → Mem x (add_new x ks)
  unfolding add_new
  new-there ks = go (any (same_interfaces x) ks) refl
    where
      go : (t : Bool) → any (same_interfaces x) ks ≡ t → Mem x (if t then ks else ks ++ (x ∷ []))
      go true e = any-mem ks e
      go false e = Memᴰ.append_right ks (head refl)

  new-further : (k : List PathInterface) (ks : List (List PathInterface)) → same_interfaces x k ≡ false → add_new x (k ∷ ks) ≡ k ∷ add_new x ks
  unfolding add_new any
  new-further k ks e =
      ap (λ t. if t || any (same_interfaces x) ks then k ∷ ks else (k ∷ ks) ++ (x ∷ [])) e ∙ go (any (same_interfaces x) ks)
    where
      go : (t : Bool) → (if t then k ∷ ks else (k ∷ ks) ++ (x ∷ [])) ≡ k ∷ (if t then ks else ks ++ (x ∷ []))
      go true = refl
      go false = refl

  new-here : (k : List PathInterface) (ks : List (List PathInterface)) → same_interfaces x k ≡ true → add_new x (k ∷ ks) ≡ k ∷ ks
  unfolding add_new any
  new-here k ks e = ap (λ t. if t || any (same_interfaces x) ks then k ∷ ks else (k ∷ ks) ++ (x ∷ [])) e

-- ---- one more is held

module _ {A : Type 0} (route : A → List PathInterface) (expiry : A → ℕ) where
  hold-keys : (a : A) (hs : List A) → map route (hold route expiry a hs) ≡ add_new (route a) (map route hs)
  unfolding hold longer
  hold-keys a [] = unfold add_new any in refl
  hold-keys a (h ∷ hs) = go (hold-keys a hs) (same_interfaces (route a) (route h)) refl
    where
      kept : route a ≡ route h → (t : Bool) → route (if t then a else h) ≡ route h
      kept q true = q
      kept q false = refl

      go : map route (hold route expiry a hs) ≡ add_new (route a) (map route hs) → (t : Bool) → same_interfaces (route a) (route h) ≡ t
          → map route (if t then (if ltb (expiry h) (expiry a) then a else h) ∷ hs else h ∷ hold route expiry a hs) ≡ add_new (route a) (route h ∷ map route hs)
      go ih true e =
          ap (λ k. k ∷ map route hs) (kept (interfaces-eq _ _ e) (ltb (expiry h) (expiry a)))
          ∙ sym (new-here (route a) (route h) (map route hs) e)
      go ih false e = ap (λ l. route h ∷ l) ih ∙ sym (new-further (route a) (route h) (map route hs) e)

  pub hold-mem : (a : A) (hs : List A) {x : A} → Mem x (hold route expiry a hs) → (x ≡ a) ⊎ Mem x hs
  unfolding hold longer
  hold-mem a [] m = inl (eq_of_singleton m)
  hold-mem a (h ∷ hs) {x} m = go (hold-mem a hs) (same_interfaces (route a) (route h)) m
    where
      either : (t : Bool) → x ≡ (if t then a else h) → (x ≡ a) ⊎ Mem x (h ∷ hs)
      either true q = inl q
      either false q = inr (head q)

      go : (Mem x (hold route expiry a hs) → (x ≡ a) ⊎ Mem x hs) → (t : Bool)
          → Mem x (if t then (if ltb (expiry h) (expiry a) then a else h) ∷ hs else h ∷ hold route expiry a hs) → (x ≡ a) ⊎ Mem x (h ∷ hs)
      go ih true m = ⊎_elim (either (ltb (expiry h) (expiry a))) (λ k. inr (tail k)) (cases_cons m)
      go ih false m = ⊎_elim (λ q. inr (head q)) (λ k. ⊎_elim inl (λ l. inr (tail l)) (ih k)) (cases_cons m)

  -- the new one lives longer than all of its route, or one of those before is no older than it
  abbrev New : A → List A → A → Type 0
  New a hs x = (x ≡ a) × ((h : A) → Mem h hs → route h ≡ route a → expiry h < expiry a)

  abbrev Old : A → List A → A → Type 0
  Old a hs x = Mem x hs × (route a ≡ route x → expiry a ≤ expiry x)

  hold-cases : (a : A) (hs : List A) → Once (map route hs) → {x : A} → Mem x (hold route expiry a hs) → New a hs x ⊎ Old a hs x
  unfolding hold longer
  hold-cases a [] o m = inl (eq_of_singleton m, λ h n q. absurd (not-nil n))
  hold-cases a (h ∷ hs) o {x} m = go (hold-cases a hs o.1) (same_interfaces (route a) (route h)) refl m
    where
      -- h is alone of its route
      alone : {g : A} → Mem g hs → route g ≡ route h → ⊥
      alone {g} n q = o.0 (subst (λ k. Mem k (map route hs)) q (mem-map route n))

      here : route a ≡ route h → (t : Bool) → ltb (expiry h) (expiry a) ≡ t → Mem x ((if t then a else h) ∷ hs) → New a (h ∷ hs) x ⊎ Old a (h ∷ hs) x
      here e true l m =
          ⊎_elim
          (λ q. inl (q, λ g n r. ⊎_elim (λ p. subst (λ y. expiry y < expiry a) (sym p) (ltb-true _ _ l)) (λ k. absurd (alone k (r ∙ e))) (cases_cons n)))
          (λ k. inr (tail k, λ r. absurd (alone k (sym r ∙ e)))) (cases_cons m)
      here e false l m =
          ⊎_elim
          (λ q. inr (head q, λ r. subst (λ y. expiry a ≤ expiry y) (sym q) (ltb-false _ _ l)))
          (λ k. inr (tail k, λ r. absurd (alone k (sym r ∙ e)))) (cases_cons m)

      go : (Mem x (hold route expiry a hs) → New a hs x ⊎ Old a hs x) → (t : Bool) → same_interfaces (route a) (route h) ≡ t
          → Mem x (if t then (if ltb (expiry h) (expiry a) then a else h) ∷ hs else h ∷ hold route expiry a hs) → New a (h ∷ hs) x ⊎ Old a (h ∷ hs) x
      go ih true e m = here (interfaces-eq _ _ e) (ltb (expiry h) (expiry a)) refl m
      go ih false e m =
          ⊎_elim
          (λ q. inr (head q, λ r. not-both (interfaces-same _ _ (r ∙ ap route q)) e))
          (λ k. ⊎_elim
          (λ w. inl (w.0, λ g n r. ⊎_elim (λ p. not-both (interfaces-same _ _ (sym r ∙ ap route p)) e) (λ l. w.1 g l r) (cases_cons n)))
          (λ w. inr (tail w.0, w.1)) (ih k)) (cases_cons m)

  -- ---- all

  pub all-keys : (held more : List A) → map route (hold_all route expiry held more) ≡ appearances (map route held) (map route more)
  unfolding hold_all appearances
  all-keys held [] = refl
  all-keys held (a ∷ more) = all-keys (hold route expiry a held) more ∙ ap (λ ks. appearances ks (map route more)) (hold-keys a held)

  pub all-mem : (held more : List A) {x : A} → Mem x (hold_all route expiry held more) → Mem x held ⊎ Mem x more
  unfolding hold_all
  all-mem held [] m = inl m
  all-mem held (a ∷ more) m =
      ⊎_elim (λ k. ⊎_elim (λ q. inr (head q)) inl (hold-mem a held k)) (λ k. inr (tail k)) (all-mem (hold route expiry a held) more m)

  -- what holds of those gone over and those held
  pub record Good (seen held : List A) : Type 0 where
    pub once : Once (map route held)
    pub covers : (d : A) → Mem d seen → Mem (route d) (map route held)
    pub best : (c : A) → Mem c held → Best route expiry seen c

  -- no one of the route lives longer than the best
  pub best-most : {seen : List A} {c : A} → Best route expiry seen c → (d : A) → Mem d seen → route d ≡ route c → expiry d ≤ expiry c
  best-most {seen} {c} w d m q =
      ⊎_elim (λ k. let l : expiry d < expiry c = w.sooner d k q in omega arith)
      (λ k. ⊎_elim (λ p. subst (λ y. expiry y ≤ expiry c) (sym p) (omega arith)) (λ n. w.later d n q) (cases_cons k))
      (append_cases w.before (subst (Mem d) w.place m))

  good_none : Good [] []
  good_none = record { once = tt; covers = λ d m. absurd (not-nil m); best = λ c m. absurd (not-nil m) }

  good_more : (seen held : List A) (a : A) → Good seen held → Good (seen ++ (a ∷ [])) (hold route expiry a held)
  good_more seen held a g =
      record {
        once = subst Once (sym (hold-keys a held)) (once-new (route a) (map route held) g.once);
        covers = λ d m.
            subst (Mem (route d)) (sym (hold-keys a held))
            (⊎_elim (λ k. new-old (route a) (map route held) (g.covers d k))
            (λ k. subst (λ y. Mem (route y) (add_new (route a) (map route held))) (sym (eq_of_singleton k)) (new-there (route a) (map route held)))
            (append_cases seen m));
        best = λ c m. ⊎_elim (fresh c) (stays c) (hold-cases a held g.once m);
      }
    where
      fresh : (c : A) → New a held c → Best route expiry (seen ++ (a ∷ [])) c
      fresh c w =
          record {
            before = seen;
            after = [];
            place = ap (λ y. seen ++ (y ∷ [])) (sym w.0);
            sooner = λ d m q.
                let v = map-mem route held (g.covers d m) in
                let e : route v.0 ≡ route a = sym v.2 ∙ q ∙ ap route w.0 in
                let k : expiry d ≤ expiry v.0 = best-most (g.best v.0 v.1) d m v.2 in
                let l : expiry v.0 < expiry a = w.1 v.0 v.1 e in
                subst (λ y. expiry d < expiry y) (sym w.0) (omega arith);
            later = λ d m q. absurd (not-nil m);
          }

      stays : (c : A) → Old a held c → Best route expiry (seen ++ (a ∷ [])) c
      stays c w =
          let o : Best route expiry seen c = g.best c w.0 in
          record {
            before = o.before;
            after = o.after ++ (a ∷ []);
            place = ap (λ l. l ++ (a ∷ [])) o.place ∙ append_assoc o.before (c ∷ o.after) (a ∷ []);
            sooner = o.sooner;
            later = λ d m q.
                ⊎_elim (λ k. o.later d k q)
                (λ k. let p : d ≡ a = eq_of_singleton k in subst (λ y. expiry y ≤ expiry c) (sym p) (w.1 (ap route (sym p) ∙ q)))
                (append_cases o.after m);
          }

  good-all : (more seen held : List A) → Good seen held → Good (seen ++ more) (hold_all route expiry held more)
  unfolding hold_all
  good-all [] seen held g = subst (λ l. Good l held) (sym (append-nil seen)) g
  good-all (a ∷ more) seen held g =
      subst (λ l. Good l (hold_all route expiry (hold route expiry a held) more)) (append_assoc seen (a ∷ []) more)
      (good-all more (seen ++ (a ∷ [])) (hold route expiry a held) (good_more seen held a g))

  pub good : (all : List A) → Good all (hold_all route expiry [] all)
  good all = good-all all [] [] good_none

  pub all_end : (held more : List A) (a : A) → hold_all route expiry held (more ++ (a ∷ [])) ≡ hold route expiry a (hold_all route expiry held more)
  unfolding hold_all
  all_end held [] a = refl
  all_end held (x ∷ more) a = all_end (hold route expiry x held) more a

-- ---- how many

module _ {A : Type 0} (route : A → List PathInterface) (expiry : A → ℕ) where
  hold-few : (a : A) (hs : List A) → length (hold route expiry a hs) ≤ length hs + 1
  unfolding hold
  hold-few a [] = omega arith
  hold-few a (h ∷ hs) = go (same_interfaces (route a) (route h)) (hold-few a hs)
    where
      go : (t : Bool) → length (hold route expiry a hs) ≤ length hs + 1 → length (if t then longer route expiry a h ∷ hs else h ∷ hold route expiry a hs) ≤ suc (length hs) + 1
      go true ih = omega arith
      go false ih = omega arith

  pub all-few : (held more : List A) → length (hold_all route expiry held more) ≤ length held + length more
  unfolding hold_all
  all-few held [] = omega arith
  all-few held (a ∷ more) = omega (arith, all-few (hold route expiry a held) more, hold-few a held)

-- ---- under a map that keeps routes and expiries

module _ {A B : Type 0} (g : A → B) (route : A → List PathInterface) (expiry : A → ℕ) (route' : B → List PathInterface) (expiry' : B → ℕ)
    (P : A → Type 0) (routes-kept : (a : A) → P a → route a ≡ route' (g a)) (expiries-kept : (a : A) → P a → expiry a ≡ expiry' (g a)) where
  hold-map : (a : A) (hs : List A) → P a → ((h : A) → Mem h hs → P h) → map g (hold route expiry a hs) ≡ hold route' expiry' (g a) (map g hs)
  unfolding hold longer
  hold-map a [] p ps = refl
  hold-map a (h ∷ hs) p ps =
      go (hold-map a hs p (λ x m. ps x (tail m))) (same_interfaces (route a) (route h))
      ∙ ap (λ t. if t then (if ltb (expiry' (g h)) (expiry' (g a)) then g a else g h) ∷ map g hs else g h ∷ hold route' expiry' (g a) (map g hs))
      (ap₂ same_interfaces (routes-kept a p) (routes-kept h (ps h (head refl))))
    where
      which : (t : Bool) → g (if t then a else h) ≡ (if t then g a else g h)
      which true = refl
      which false = refl

      longest : g (if ltb (expiry h) (expiry a) then a else h) ≡ (if ltb (expiry' (g h)) (expiry' (g a)) then g a else g h)
      longest =
          which (ltb (expiry h) (expiry a))
          ∙ ap₂ (λ x y. if ltb x y then g a else g h) (expiries-kept h (ps h (head refl))) (expiries-kept a p)

      go : map g (hold route expiry a hs) ≡ hold route' expiry' (g a) (map g hs) → (t : Bool)
          → map g (if t then (if ltb (expiry h) (expiry a) then a else h) ∷ hs else h ∷ hold route expiry a hs)
          ≡ (if t then (if ltb (expiry' (g h)) (expiry' (g a)) then g a else g h) ∷ map g hs else g h ∷ hold route' expiry' (g a) (map g hs))
      go ih true = ap (λ x. x ∷ map g hs) longest
      go ih false = ap (λ l. g h ∷ l) ih

  pub all_map : (held more : List A) → ((h : A) → Mem h held → P h) → ((a : A) → Mem a more → P a)
      → map g (hold_all route expiry held more) ≡ hold_all route' expiry' (map g held) (map g more)
  unfolding hold_all
  all_map held [] ps qs = refl
  all_map held (a ∷ more) ps qs =
      all_map (hold route expiry a held) more
      (λ h m. ⊎_elim (λ q. subst P (sym q) (qs a (head refl))) (ps h) (hold-mem route expiry a held m))
      (λ x m. qs x (tail m))
      ∙ ap (λ l. hold_all route' expiry' l (map g more)) (hold-map a held (qs a (head refl)) ps)

module _ {A B : Type 0} (g : A → B) (p : A → Bool) (p' : B → Bool) where
  pub filter_map : (xs : List A) → ((x : A) → Mem x xs → p x ≡ p' (g x)) → map g (filter p xs) ≡ filter p' (map g xs)
  unfolding filter
  filter_map [] h = refl
  filter_map (x ∷ xs) h =
      go (filter_map xs (λ y m. h y (tail m))) (p x) ∙ ap (λ t. if t then g x ∷ filter p' (map g xs) else filter p' (map g xs)) (h x (head refl))
    where
      go : map g (filter p xs) ≡ filter p' (map g xs) → (t : Bool)
          → map g (if t then x ∷ filter p xs else filter p xs) ≡ (if t then g x ∷ filter p' (map g xs) else filter p' (map g xs))
      go ih true = ap (λ l. g x ∷ l) ih
      go ih false = ih
