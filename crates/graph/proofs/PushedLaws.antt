-- Chains pushed into slots, one after the other.
-- Assumes nothing.
use Prim.Native.Nat.{ℕ, suc, ◌+◌, ◌*◌, ◌≤◌, ◌<◌}
use native.Mathlib.Decide.{dec_le}
use native.Mathlib.Nat.{add-zero}
use native.Mathlib.Omega.{arith}
use mathlib.Core.Path.{◌≡◌, refl, sym, ap, ap₂, ◌∙◌, subst}
use mathlib.Core.List.Memᴰ.{head, tail}
use mathlib.Core.List.{List, [], ◌∷◌, ◌++◌, flat_map, append-nil, append_assoc, Memᴰ as Mem}
use lib.ListN.{length, drop, length-append, length-take, length-drop}
use lib.Seq.{take_at, drop_at, drop-drop}
use borrow.Author.Tests.{lt-ltb, le-ltb}
use Rattle.spec.specs.declared.Edge.{Edge}
use Rattle.spec.specs.Limits.{max_edges, solution_size}
use Rattle.std.specs.Prelude.{if◌then◌else◌}
use Rattle.spec.specs.Records.{solution_octets}
use Rattle.spec.proofs.LengthLaws.{solution-length}
use Rattle.graph.specs.Pushed.{Slots, put_at, push_record, push_one, pushed}

-- ---- one after the other

pub pushed-append : (slots : ℕ) (st : Slots) (xs ys : List (List Edge)) → pushed slots st (xs ++ ys) ≡ pushed slots (pushed slots st xs) ys
unfolding pushed
pushed-append slots st [] ys = refl
pushed-append slots st (x ∷ xs) ys = pushed-append slots (push_one slots st x) xs ys

pub pushed_none : (slots : ℕ) (st : Slots) → pushed slots st [] ≡ st
unfolding pushed
pushed_none slots st = refl

pub pushed-one : (slots : ℕ) (st : Slots) (c : List Edge) → pushed slots st (c ∷ []) ≡ push_record slots st (solution_octets c)
unfolding pushed push_one
pushed-one slots st c = refl

-- ---- with room left, and with none

pub record-room : (slots n : ℕ) (out r : List ℕ) → n < slots → push_record slots (n, out) r ≡ (n + 1, put_at out n r)
unfolding push_record
record-room slots n out r h = ap (λ t. if t then (n + 1, put_at out n r) else (slots + 1, out)) (lt-ltb n slots h)

pub record-full : (slots n : ℕ) (out r : List ℕ) → slots ≤ n → push_record slots (n, out) r ≡ (slots + 1, out)
unfolding push_record
record-full slots n out r h = ap (λ t. if t then (n + 1, put_at out n r) else (slots + 1, out)) (le-ltb n slots h)

-- a count past the slots stays
pub pushed-full : (slots n : ℕ) (out : List ℕ) (cs : List (List Edge)) → n ≡ slots + 1 → pushed slots (n, out) cs ≡ (n, out)
unfolding pushed push_one
pushed-full slots n out [] e = refl
pushed-full slots n out (c ∷ cs) e =
    ap (λ st. pushed slots st cs) (record-full slots n out (solution_octets c) (omega arith) ∙ ap (λ k. (k, out)) (sym e)) ∙ pushed-full slots n out cs e

pub pushed-over : (slots n : ℕ) (out : List ℕ) (cs : List (List Edge)) → n ≤ slots → slots < n + length cs → (pushed slots (n, out) cs).0 ≡ slots + 1
unfolding pushed push_one
pushed-over slots n out [] h l = omega arith
pushed-over slots n out (c ∷ cs) h l = go (dec_le slots n) (λ k. pushed-over slots (n + 1) (put_at out n (solution_octets c)) cs k (omega arith))
  where
    go : Dec (slots ≤ n) → (n + 1 ≤ slots → (pushed slots (n + 1, put_at out n (solution_octets c)) cs).0 ≡ slots + 1)
        → (pushed slots (push_record slots (n, out) (solution_octets c)) cs).0 ≡ slots + 1
    go (yes k) ih = ap (λ st. (pushed slots st cs).0) (record-full slots n out (solution_octets c) k) ∙ ap (λ st. st.0) (pushed-full slots (slots + 1) out cs refl)
    go (no k) ih = ap (λ st. (pushed slots st cs).0) (record-room slots n out (solution_octets c) (omega arith)) ∙ ih (omega arith)

-- the count is at most one past the slots
pub pushed_most : (slots n : ℕ) (out : List ℕ) (cs : List (List Edge)) → n ≤ slots + 1 → (pushed slots (n, out) cs).0 ≤ slots + 1
unfolding pushed push_one
pushed_most slots n out [] h = h
pushed_most slots n out (c ∷ cs) h =
    go (dec_le slots n) (λ k. pushed_most slots (n + 1) (put_at out n (solution_octets c)) cs k) (pushed_most slots (slots + 1) out cs (omega arith))
  where
    go : Dec (slots ≤ n) → (n + 1 ≤ slots + 1 → (pushed slots (n + 1, put_at out n (solution_octets c)) cs).0 ≤ slots + 1)
        → (pushed slots (slots + 1, out) cs).0 ≤ slots + 1 → (pushed slots (push_record slots (n, out) (solution_octets c)) cs).0 ≤ slots + 1
    go (yes k) ih full = subst (λ st. (pushed slots st cs).0 ≤ slots + 1) (sym (record-full slots n out (solution_octets c) k)) full
    go (no k) ih full = subst (λ st. (pushed slots st cs).0 ≤ slots + 1) (sym (record-room slots n out (solution_octets c) (omega arith))) (ih (omega arith))

-- ---- what the buffer holds

-- records have one size
abbrev pub Sized : List (List Edge) → Type 0
Sized cs = (c : List Edge) → Mem c cs → length c ≤ max_edges

put-length : (out : List ℕ) (n : ℕ) (r : List ℕ) → length r ≡ solution_size → solution_size * n + solution_size ≤ length out → length (put_at out n r) ≡ length out
unfolding put_at
put-length out n r e h = simp (length-append, length-take, length-drop) (omega arith)

put_next : (done rest : List ℕ) (n : ℕ) (r : List ℕ) → length done ≡ solution_size * n
    → put_at (done ++ rest) n r ≡ (done ++ r) ++ drop solution_size rest
unfolding put_at
put_next done rest n r e =
    ap (λ l. l ++ r ++ drop (solution_size * n + solution_size) (done ++ rest)) (take_at done rest (solution_size * n) e)
    ∙ ap (λ l. (done ++ r) ++ l) (sym (drop-drop solution_size (solution_size * n) (done ++ rest)) ∙ ap (drop solution_size) (drop_at done rest (solution_size * n) e))

pub pushed-length : (slots n : ℕ) (out : List ℕ) (cs : List (List Edge)) → Sized cs → solution_size * slots ≤ length out
    → length (pushed slots (n, out) cs).1 ≡ length out
unfolding pushed push_one
pushed-length slots n out [] z h = refl
pushed-length slots n out (c ∷ cs) z h =
    go (dec_le slots n) (λ k o l. pushed-length slots k o cs (λ d m. z d (tail m)) l)
  where
    r : List ℕ
    r = solution_octets c

    size : length r ≡ solution_size
    size = solution-length c (z c (head refl))

    go : Dec (slots ≤ n) → ((k : ℕ) (o : List ℕ) → solution_size * slots ≤ length o → length (pushed slots (k, o) cs).1 ≡ length o)
        → length (pushed slots (push_record slots (n, out) (solution_octets c)) cs).1 ≡ length out
    go (yes k) ih = ap (λ st. length (pushed slots st cs).1) (record-full slots n out (solution_octets c) k) ∙ ih (slots + 1) out h
    go (no k) ih =
        let e : length (put_at out n (solution_octets c)) ≡ length out = put-length out n (solution_octets c) size (omega arith) in
        ap (λ st. length (pushed slots st cs).1) (record-room slots n out (solution_octets c) (omega arith))
        ∙ ih (n + 1) (put_at out n (solution_octets c)) (omega arith) ∙ e

-- records that fill the slots from n on
pushed-next : (slots n : ℕ) (done rest : List ℕ) (cs : List (List Edge)) → Sized cs → length done ≡ solution_size * n → n + length cs ≤ slots
    → pushed slots (n, done ++ rest) cs ≡ (n + length cs, (done ++ flat_map solution_octets cs) ++ drop (solution_size * length cs) rest)
unfolding pushed push_one flat_map
pushed-next slots n done rest [] z e h =
    ap₂ (λ k l. (k, l ++ rest)) (sym (add-zero n)) (sym (append-nil done))
pushed-next slots n done rest (c ∷ cs) z e h =
    let r : List ℕ = solution_octets c in
    let size : length r ≡ solution_size = solution-length c (z c (head refl)) in
    let more : length (done ++ r) ≡ solution_size * (n + 1) = omega (arith, length-append done r) in
    let k : n + 1 + length cs ≡ n + suc (length cs) = omega arith in
    let i : solution_size + solution_size * length cs ≡ solution_size * suc (length cs) = omega arith in
    ap (λ st. pushed slots st cs) (record-room slots n (done ++ rest) r (omega arith) ∙ ap (λ l. (n + 1, l)) (put_next done rest n r e))
    ∙ pushed-next slots (n + 1) (done ++ r) (drop solution_size rest) cs (λ d m. z d (tail m)) more (omega arith)
    ∙ ap₂ (λ m l. (m, l)) k
    (ap₂ (λ a l. a ++ l) (append_assoc done r (flat_map solution_octets cs))
    (drop-drop (solution_size * length cs) solution_size rest ∙ ap (λ m. drop m rest) i))

-- all of them, from an empty count on
pub pushed-all : (slots : ℕ) (out : List ℕ) (cs : List (List Edge)) → Sized cs → length cs ≤ slots
    → pushed slots (0, out) cs ≡ (length cs, flat_map solution_octets cs ++ drop (solution_size * length cs) out)
pushed-all slots out cs z h =
    let e : 0 + length cs ≡ length cs = omega arith in
    pushed-next slots 0 [] out cs z (omega arith) (omega arith) ∙ ap (λ m. (m, flat_map solution_octets cs ++ drop (solution_size * length cs) out)) e
