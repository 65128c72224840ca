-- The turns of the loops that answer about a book: what a definition's recursion says at one step, by cases of the tests.
-- What the code holds stands as a variable, beside the equation that says what it is.
-- Assumes nothing.
use mathlib.Core.Path.{◌≡◌, refl, sym, ap, ◌∙◌}
use mathlib.Core.Bool.{Bool, true, false, not}
use mathlib.Core.List.{List}
use Prim.Native.Nat.{ℕ, zero, suc, ◌+◌, ◌*◌, ◌-◌, ◌≤◌, ◌<◌}
use native.Mathlib.Decide.{ℕ_discrete}
use native.Mathlib.Omega.{arith}
use lib.ListN.{length, get_or}
use lib.Dec.{eqb, ltb}
use borrow.Author.Tests.{lt-ltb, le-ltb, ltb-true, ltb-false, eq-eqb, ne_eqb, eqb-true, not-false}
use Rattle.spec.specs.declared.Sizes.{Sizes}
use Rattle.spec.specs.declared.Refusal.{Refusal}
use Rattle.spec.specs.declared.Refusal.TheVariants.{Cut, Surplus, Oversize, Crowded, Long, Peers, Misfit}
use Rattle.std.specs.Prelude.{Ok, Err, if◌then◌else◌}
use Rattle.spec.specs.Book.{Verdict, segment_count, head_offset, body_total, entry_count_at, body_length_at, lengths_below, body_offset, whole_length, sizes_at, peer_count, entry_end, entries_verdict, body_verdict, ◌and_then◌, bodies_verdict, is_long, too_long, verdict}
use Rattle.spec.specs.Limits.{sizes_size, head_size, max_book, max_segments, max_entries, max_peers, entry_size, peer_size, peer_count_offset}
use Rattle.spec.specs.Basics.{any, range}
use Rattle.spec.specs.Octets.{be16}
use Rattle.spec.proofs.Membership.{not-both}
use Rattle.spec.proofs.OnceLaws.{any-mem}
use Rattle.spec.proofs.BookLaws.{passed, mem-range}
use Rattle.segment.proofs.Positions.{one_less, body_more, any-done}
use Rattle.segment.proofs.Fields.{total-read}
use Rattle.segment.proofs.Fitting.{end_is}
use Rattle.book.specs.Sizes.{sizes_verdict, Sized, Fronted, InBook}

-- ---- the entries of a body

-- the entries left of a body from an offset on, which lies past its end where the peers before it are lacking
unfoldable pub rest_verdict : List ℕ → ℕ → ℕ → ℕ → Verdict
rest_verdict b end at left = if ltb end at then Err Misfit else entries_verdict b end at left

module _ (b : List ℕ) (end at : ℕ) where
  rest-is : (left : ℕ) → at ≤ end → entries_verdict b end at left ≡ rest_verdict b end at left
  unfolding rest_verdict
  rest-is left h = rw (le-ltb end at h)

  pub rest-first : (n : ℕ) → at ≤ end → entries_verdict b end at n ≡ rest_verdict b end at (n - 0)
  rest-first n h = let e : n ≡ n - 0 = omega arith in ap (entries_verdict b end at) e ∙ rest-is (n - 0) h

  rest-past : (left : ℕ) → end < at → rest_verdict b end at left ≡ Err Misfit
  unfolding rest_verdict
  rest-past left h = rw (lt-ltb end at h)

  pub entries-lack : (left : ℕ) → end < at + entry_size → entries_verdict b end at (suc left) ≡ Err Misfit
  unfolding entries_verdict
  entries-lack left l = rw (lt-ltb end (at + entry_size) l)

  -- the entry here is refused, whatever is left after it
  pub rest-refused : (n i : ℕ) {r : Refusal} → i < n → ((left : ℕ) → entries_verdict b end at (suc left) ≡ Err r) → rest_verdict b end at (n - i) ≡ Err r
  rest-refused n i {r} h f = rw (one_less n i h) (go (ltb end at) refl)
    where
      go : (t : Bool) → ltb end at ≡ t → rest_verdict b end at (suc (n - (i + 1))) ≡ Err r
      go true q =
          let past = ltb-true end at q in
          rest-past _ past ∙ sym (entries-lack 0 (omega (arith, past))) ∙ f 0
      go false q = sym (rest-is _ (ltb-false end at q)) ∙ f _

  module _ (room : at + entry_size ≤ end) {peers : ℕ} (ep : peers ≡ peer_count b at) where
    pub entries-peers : (left : ℕ) → max_peers < peers → entries_verdict b end at (suc left) ≡ Err Peers
    unfolding entries_verdict
    entries-peers left p = rw (le-ltb end (at + entry_size) room, lt-ltb max_peers (peer_count b at) (rw ep at p))

    module _ (few : peers ≤ max_peers) where
      entries_next : (left : ℕ) → entries_verdict b end at (suc left) ≡ rest_verdict b end (entry_end b at) left
      unfolding entries_verdict rest_verdict
      entries_next left = rw (le-ltb end (at + entry_size) room, le-ltb max_peers (peer_count b at) (rw ep at few))

      pub rest-next : (n i : ℕ) → i < n → rest_verdict b end at (n - i) ≡ rest_verdict b end (at + (entry_size + peer_size * peers)) (n - (i + 1))
      rest-next n i h =
          sym (rest-is _ (omega arith)) ∙ rw (one_less n i h, end_is b at (ap (λ p. entry_size + peer_size * p) ep)) (entries_next (n - (i + 1)))

  pub rest-off : (n i : ℕ) → n ≤ i → (at ≡ end → ⊥) → rest_verdict b end at (n - i) ≡ Err Misfit
  rest-off n i h d = let e : n - i ≡ 0 = omega arith in rw e (go (ltb end at) refl)
    where
      short : at ≤ end → entries_verdict b end at 0 ≡ Err Misfit
      short l = unfold entries_verdict in rw (lt-ltb at end (omega (arith, d)))

      go : (t : Bool) → ltb end at ≡ t → rest_verdict b end at 0 ≡ Err Misfit
      go true q = rest-past _ (ltb-true end at q)
      go false q = sym (rest-is _ (ltb-false end at q)) ∙ short (ltb-false end at q)

  pub rest-fill : (n i : ℕ) → n ≤ i → at ≡ end → rest_verdict b end at (n - i) ≡ Ok tt
  unfolding entries_verdict
  rest-fill n i h l = let e : n - i ≡ 0 = omega arith in rw e (sym (rest-is 0 (omega arith)) ∙ rw (le-ltb at end (omega arith)))

pub peers-here : (b : List ℕ) (at : ℕ) → get_or b (at + peer_count_offset) 0 ≡ peer_count b at
unfolding peer_count
peers-here b at = refl

-- ---- the bodies by position

module _ (b : List ℕ) (n k : ℕ) where
  pub bodies-first : n ≡ segment_count b → bodies_verdict b 0 (segment_count b) ≡ bodies_verdict b 0 (n - 0)
  bodies-first h = let e : segment_count b ≡ n - 0 = omega arith in ap (bodies_verdict b 0) e

  pub bodies-refused : (r : Refusal) → k < n → body_verdict b k ≡ Err r → bodies_verdict b k (n - k) ≡ Err r
  unfolding bodies_verdict
  bodies-refused r h q = rw (one_less n k h, q)

  pub bodies-next : k < n → body_verdict b k ≡ Ok tt → bodies_verdict b k (n - k) ≡ bodies_verdict b (k + 1) (n - (k + 1))
  unfolding bodies_verdict
  bodies-next h q = rw (one_less n k h, q)

  pub bodies-done : n ≤ k → bodies_verdict b k (n - k) ≡ Ok tt
  unfolding bodies_verdict
  bodies-done h = let e : n - k ≡ 0 = omega arith in rw e

-- ---- the heads

pub heads-first : (b : List ℕ) → body_offset b 0 ≡ sizes_size + head_size * segment_count b
unfolding body_offset head_offset lengths_below
heads-first b = omega arith

pub heads-inside : (b : List ℕ) → Sized b → (k : ℕ) → k < segment_count b → sizes_size + head_size * k + head_size ≤ length b
unfolding body_offset head_offset
heads-inside b s k h = let w = s.whole in omega arith

pub count-read : (b : List ℕ) (k : ℕ) → be16 b (sizes_size + head_size * k + 6) ≡ entry_count_at b k
unfolding entry_count_at head_offset
count-read b k = refl

pub length-read : (b : List ℕ) (k : ℕ) → be16 b (sizes_size + head_size * k + 8) ≡ body_length_at b k
unfolding body_length_at head_offset
length-read b k = refl

pub long-all : (b : List ℕ) (n : ℕ) → n ≡ segment_count b → too_long b ≡ any (is_long b) (range 0 (n - 0))
unfolding too_long
long-all b n h = ap (λ m. any (is_long b) (range 0 m)) (omega arith)

module _ (b : List ℕ) (k : ℕ) {count : ℕ} (e : count ≡ entry_count_at b k) where
  pub is-long : max_entries < count → is_long b k ≡ true
  unfolding is_long
  is-long h = lt-ltb max_entries (entry_count_at b k) (rw e at h)

  pub not-long : count ≤ max_entries → is_long b k ≡ false
  unfolding is_long
  not-long h = le-ltb max_entries (entry_count_at b k) (rw e at h)

-- ---- the tests in order

whole_is : (b : List ℕ) {at : ℕ} {sizes : Sizes} → at ≡ body_offset b 0 → sizes ≡ sizes_at b → at + sizes.bodies ≡ whole_length b
unfolding body_offset whole_length lengths_below
whole_is b ea es = omega (arith, total-read b es)

-- the bodies end where the book does just when their lengths make up the total
sum-right : (b : List ℕ) (k : ℕ) → whole_length b ≡ length b → body_offset b k ≡ length b → lengths_below b k ≡ body_total b
unfolding body_offset whole_length
sum-right b k w e = omega arith

sum-wrong : (b : List ℕ) (k : ℕ) → whole_length b ≡ length b → lengths_below b k ≡ body_total b → body_offset b k ≡ length b
unfolding body_offset whole_length
sum-wrong b k w e = omega arith

module _ (b : List ℕ) where
  pub oversize : max_book < length b → sizes_verdict b ≡ Err Oversize
  unfolding sizes_verdict
  oversize h = rw (lt-ltb max_book (length b) h)

  module _ (small : length b ≤ max_book) where
    pub cut-sizes : length b < sizes_size → sizes_verdict b ≡ Err Cut
    unfolding sizes_verdict
    cut-sizes h = rw (le-ltb max_book (length b) small, lt-ltb (length b) sizes_size h)

    module _ (begun : sizes_size ≤ length b) {all : ℕ} (ea : all ≡ segment_count b) where
      pub crowded : max_segments < all → sizes_verdict b ≡ Err Crowded
      unfolding sizes_verdict
      crowded h = rw (le-ltb max_book (length b) small, le-ltb (length b) sizes_size begun, lt-ltb max_segments (segment_count b) (rw ea at h))

      module _ (crowd : all ≤ max_segments) {at : ℕ} (eo : at ≡ body_offset b 0) {sizes : Sizes} (es : sizes ≡ sizes_at b) where
        pub cut : length b < at + sizes.bodies → sizes_verdict b ≡ Err Cut
        unfolding sizes_verdict
        cut h =
            rw (le-ltb max_book (length b) small, le-ltb (length b) sizes_size begun, le-ltb max_segments (segment_count b) (rw ea at crowd), lt-ltb (length b) (whole_length b) (rw (whole_is b eo es) at h))

        module _ (there : at + sizes.bodies ≤ length b) where
          pub surplus : at + sizes.bodies < length b → sizes_verdict b ≡ Err Surplus
          unfolding sizes_verdict
          surplus h =
              rw (le-ltb max_book (length b) small, le-ltb (length b) sizes_size begun, le-ltb max_segments (segment_count b) (rw ea at crowd), le-ltb (length b) (whole_length b) (rw (whole_is b eo es) at there), lt-ltb (whole_length b) (length b) (rw (whole_is b eo es) at h))

          module _ (no_more : length b ≤ at + sizes.bodies) {t : Bool} (et : t ≡ too_long b) where
            -- past the tests on the sizes
            sized : sizes_verdict b ≡ (if t then Err Long else if not (eqb (lengths_below b all) (body_total b)) then Err Misfit else Ok tt)
            unfolding sizes_verdict
            sized =
                rw (le-ltb max_book (length b) small, le-ltb (length b) sizes_size begun, le-ltb max_segments (segment_count b) (rw ea at crowd), le-ltb (length b) (whole_length b) (rw (whole_is b eo es) at there), le-ltb (whole_length b) (length b) (rw (whole_is b eo es) at no_more), et, ea)

            whole : whole_length b ≡ length b
            whole = omega (arith, whole_is b eo es)

            pub long : t ≡ true → sizes_verdict b ≡ Err Long
            long h = sized ∙ rw h

            module _ (short : t ≡ false) {end : ℕ} (ee : end ≡ body_offset b all) where
              pub wrong-sum : (end ≡ length b → ⊥) → sizes_verdict b ≡ Err Misfit
              wrong-sum h = sized ∙ rw (short, ne_eqb (lengths_below b all) (body_total b) (λ e. h (ee ∙ sum-wrong b all whole e)))

              pub right-sum : end ≡ length b → sizes_verdict b ≡ Ok tt
              right-sum h = sized ∙ rw (short, eq-eqb (lengths_below b all) (body_total b) (sum-right b all whole (sym ee ∙ h)))

-- ---- the sizes, then the bodies

module _ (w : Verdict) where
  then_if : (t : Bool) (r : Refusal) (v x : Verdict) → (v and_then w) ≡ x → ((if t then Err r else v) and_then w) ≡ (if t then Err r else x)
  then_if true r v x q = refl
  then_if false r v x q = q

module _ (b : List ℕ) where
  then-bodies : (sizes_verdict b and_then bodies_verdict b 0 (segment_count b)) ≡ verdict b
  unfolding sizes_verdict verdict
  then-bodies =
      let w : Verdict = bodies_verdict b 0 (segment_count b) in
      then_if w (ltb max_book (length b)) Oversize _ _
      (then_if w (ltb (length b) sizes_size) Cut _ _
      (then_if w (ltb max_segments (segment_count b)) Crowded _ _
      (then_if w (ltb (length b) (whole_length b)) Cut _ _
      (then_if w (ltb (whole_length b) (length b)) Surplus _ _
      (then_if w (too_long b) Long _ _ (then_if w (not (eqb (lengths_below b (segment_count b)) (body_total b))) Misfit _ _ refl))))))

  pub by-sizes : {v : Verdict} {r : Refusal} → v ≡ sizes_verdict b → v ≡ Err r → v ≡ verdict b
  by-sizes {r = r} e q = q ∙ sym (ap (λ w. w and_then bodies_verdict b 0 (segment_count b)) (sym e ∙ q)) ∙ then-bodies

  module _ {s : Verdict} (e : s ≡ sizes_verdict b) (q : s ≡ Ok tt) where
    pub by-bodies : {v : Verdict} → v ≡ bodies_verdict b 0 (segment_count b) → v ≡ verdict b
    by-bodies p = p ∙ sym (ap (λ w. w and_then bodies_verdict b 0 (segment_count b)) (sym e ∙ q)) ∙ then-bodies

    pub sized-book : Sized b
    unfolding sizes_verdict
    sized-book =
        let p₁ = passed (ltb max_book (length b)) Oversize _ (sym e ∙ q) in
        let p₂ = passed (ltb (length b) sizes_size) Cut _ p₁.1 in
        let p₃ = passed (ltb max_segments (segment_count b)) Crowded _ p₂.1 in
        let p₄ = passed (ltb (length b) (whole_length b)) Cut _ p₃.1 in
        let p₅ = passed (ltb (whole_length b) (length b)) Surplus _ p₄.1 in
        let p₆ = passed (too_long b) Long _ p₅.1 in
        let p₇ = passed (not (eqb (lengths_below b (segment_count b)) (body_total b))) Misfit _ p₆.1 in
        record {
          small = ltb-false _ _ p₁.0;
          crowd = ltb-false _ _ p₃.0;
          short = p₆.0;
          whole = sum-wrong b (segment_count b) (omega (arith, ltb-false (length b) (whole_length b) p₄.0, ltb-false (whole_length b) (length b) p₅.0)) (eqb-true _ _ (not-false _ p₇.0));
        }

-- ---- a book whose sizes are right

offset-suc : (b : List ℕ) (k : ℕ) → body_offset b (suc k) ≡ body_offset b k + body_length_at b k
unfolding body_offset lengths_below
offset-suc b k = omega arith

offset_up : (b : List ℕ) (k n : ℕ) → k ≤ n → body_offset b k ≤ body_offset b n
offset_up b k zero h = let e : k ≡ 0 = omega arith in rw e (omega arith)
offset_up b k (suc n) h = go (offset_up b k n) (ℕ_discrete k (suc n))
  where
    go : (k ≤ n → body_offset b k ≤ body_offset b n) → Dec (k ≡ suc n) → body_offset b k ≤ body_offset b (suc n)
    go below (yes e) = rw e (omega arith)
    go below (no d) = omega (arith, below (omega (arith, d)), offset-suc b n)

module _ (b : List ℕ) (z : Sized b) (k : ℕ) (h : k < segment_count b) where
  head-short : entry_count_at b k ≤ max_entries
  unfolding too_long is_long
  head-short = go (ltb max_entries (entry_count_at b k)) refl
    where
      go : (t : Bool) → ltb max_entries (entry_count_at b k) ≡ t → entry_count_at b k ≤ max_entries
      go true q = not-both (any-mem (is_long b) (range 0 (segment_count b)) (mem-range 0 (segment_count b) k (omega arith) (omega arith)) q) z.short
      go false q = ltb-false _ _ q

  pub body-fits : {at size count : ℕ} → at ≡ body_offset b k → size ≡ body_length_at b k → count ≡ entry_count_at b k → InBook b (max_entries * k) at (at + size) count
  body-fits ea es ec =
      record {
        position = omega (arith, z.crowd);
        entries = omega (arith, head-short);
        filled = omega arith;
        inside = omega (arith, offset_up b (k + 1) (segment_count b) (omega arith), body_more b k, z.whole);
        small = z.small;
      }

-- ---- the one pass

-- a head that is counted up to
module _ (b : List ℕ) (k : ℕ) {head : ℕ} (eh : head ≡ sizes_size + head_size * k) where
  pub head-count : {x : ℕ} → x ≡ be16 b (head + 6) → x ≡ entry_count_at b k
  head-count e = e ∙ ap (λ o. be16 b (o + 6)) eh ∙ count-read b k

  pub head-length : {x : ℕ} → x ≡ be16 b (head + 8) → x ≡ body_length_at b k
  head-length e = e ∙ ap (λ o. be16 b (o + 8)) eh ∙ length-read b k

pub front : (b : List ℕ) → length b ≤ max_book → {all : ℕ} → all ≡ segment_count b → all ≤ max_segments → {sizes : Sizes} → sizes ≡ sizes_at b
    → sizes_size + head_size * all + sizes.bodies ≡ length b → Fronted b all (sizes_size + head_size * all)
front b small {all} ea crowd es l =
    let first : sizes_size + head_size * all ≡ body_offset b 0 = omega (arith, heads-first b) in
    record { small = small; crowd = crowd; all = ea; first = first; whole = sym (whole_is b first es) ∙ l }

module _ (b : List ℕ) {n start : ℕ} (z : Fronted b n start) where
  pub front-starts : start ≤ length b
  unfolding whole_length head_offset
  front-starts = omega (arith, z.first, z.whole, z.all, heads-first b)

  pub front-heads : (k : ℕ) → k < n → sizes_size + head_size * k + head_size ≤ length b
  front-heads k h = omega (arith, z.first, z.all, heads-first b, front-starts)

  pub front-body : (k : ℕ) → k < n → {row count at end : ℕ} → row ≡ max_entries * k → count ≤ max_entries → at ≤ end → end ≤ length b → InBook b row at end count
  front-body k h er few up l = record { position = omega (arith, z.crowd); entries = few; filled = up; inside = l; small = z.small }

  -- every head and every body passed, and the last body ends where the book does
  module _ {k at : ℕ} (done : n ≤ k) (last : k ≤ n) (ea : at ≡ body_offset b k) (full : at ≡ length b) where
    passed-sizes : too_long b ≡ any (is_long b) (range k (n - k)) → sizes_verdict b ≡ Ok tt
    unfolding sizes_verdict
    passed-sizes t =
        let e : k ≡ segment_count b = omega (arith, z.all) in
        let begun : sizes_size ≤ length b = omega (arith, z.first, heads-first b, front-starts) in
        rw (le-ltb max_book (length b) z.small, le-ltb (length b) sizes_size begun, le-ltb max_segments (segment_count b) (omega (arith, z.crowd, z.all)), z.whole, le-ltb (length b) (length b) (omega arith), t ∙ any-done (is_long b) n k done, eq-eqb (lengths_below b (segment_count b)) (body_total b) (sum-right b (segment_count b) z.whole (sym (ap (body_offset b) e) ∙ sym ea ∙ full)))

    pub passed-book : too_long b ≡ any (is_long b) (range k (n - k)) → bodies_verdict b 0 (segment_count b) ≡ bodies_verdict b k (n - k) → verdict b ≡ Ok tt
    passed-book t v = sym (by-bodies b refl (passed-sizes t) (sym (v ∙ bodies-done b n k done)))

pub not-accepted : {A : Type 0} {r : Refusal} → ◌≡◌ {A = Verdict} (Err r) (Ok tt) → A
not-accepted q = let z : ◌≡◌ {A = ℕ} 0 1 = cc in absurd (omega arith)
