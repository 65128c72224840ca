-- `sha256::Digest::rounds` meets its contract. The loops' invariants: the words before the next one are those of the schedule, and the
-- variables are those after 2 i rounds over the words there are.
use Rattle.std.proofs.Common.{◌≡◌, ℕ, zero, suc, ◌+◌, ◌*◌, ◌<◌, ◌≤◌, List, length, get_or, take, set, sym, refl, ap, ◌∙◌, ap₂, add-one, arith, rules, length-set, take_all, get_or-set_other, get_or-take}
use Rattle.std.proofs.lemmas.Grind.{take-set_at}
use Rattle.sha256.specs.declared.Digest.{Digest}
use Rattle.sha256.specs.Words.{next}
use Rattle.sha256.specs.Constants.{K}
use Rattle.sha256.specs.Hash.{words, schedule, round, rounds}
use Rattle.sha256.proofs.Digest.rounds.Goals as goal

-- the 16 words are the start of the schedule
start : (w m : List ℕ) → take 16 w ≡ words 16 m → take 16 w ≡ schedule 0 m
unfolding schedule
start w m e = e

-- the word that is stored is the one that follows in the schedule
grow : (w : List ℕ) (t : ℕ) (m : List ℕ) (r : ℕ) → length w ≡ 64 → t < 48 → take (t + 16) w ≡ schedule t m
    → r ≡ next (get_or w (t + 14) 0) (get_or w (t + 9) 0) (get_or w (t + 1) 0) (get_or w t 0)
    → take (t + 1 + 16) (set w (t + 16) r) ≡ schedule (t + 1) m
unfolding schedule
grow w t m r n h e f =
    let l : t + 16 < length w = omega arith in
    rw (
      take-set_at w (t + 16) (t + 1 + 16) r (omega arith) l,
      add-one,
      ← e,
      f,
      get_or-take (t + 16) w (t + 14) 0 (omega arith),
      get_or-take (t + 16) w (t + 9) 0 (omega arith),
      get_or-take (t + 16) w (t + 1) 0 (omega arith),
      get_or-take (t + 16) w t 0 (omega arith),
    )

-- and so the one after it
grow-next : (w : List ℕ) (t : ℕ) (m : List ℕ) (r : ℕ) → length w ≡ 64 → t + 1 < 48 → take (t + 1 + 16) w ≡ schedule (t + 1) m
    → r ≡ next (get_or w (t + 15) 0) (get_or w (t + 10) 0) (get_or w (t + 2) 0) (get_or w (t + 1) 0)
    → take (t + 2 + 16) (set w (t + 17) r) ≡ schedule (t + 2) m
grow-next w t m r n h e f =
    let p : t + 1 + 14 ≡ t + 15 = omega arith in
    let q : t + 1 + 9 ≡ t + 10 = omega arith in
    let s : t + 1 + 1 ≡ t + 2 = omega arith in
    let u : t + 1 + 16 ≡ t + 17 = omega arith in
    let z : t + 1 + 1 + 16 ≡ t + 2 + 16 = omega arith in
    let g : r ≡ next (get_or w (t + 1 + 14) 0) (get_or w (t + 1 + 9) 0) (get_or w (t + 1 + 1) 0) (get_or w (t + 1) 0) = rw (p, q, s) f in
    sym (ap₂ (λ i j. take i (set w j r)) z u) ∙ grow w (t + 1) m r n h e g ∙ ap (λ i. schedule i m) s

-- and the last word ends it
done : (w m : List ℕ) → length w ≡ 64 → take 64 w ≡ schedule 48 m → w ≡ schedule 48 m
done w m n e = sym (take_all 64 w (omega arith)) ∙ e

-- a word stored further on does not change the rounds before it
ahead : (t : ℕ) (w : List ℕ) (j x : ℕ) (v : Digest) → t ≤ j → rounds t (set w j x) v ≡ rounds t w v
unfolding rounds
ahead zero w j x v h = refl
ahead (suc t) w j x v h =
    let d : t ≡ j → ⊥ = λ e. omega arith in
    let l : t ≤ j = omega arith in
    ap (λ (y : ℕ). round (get_or K t 0) y (rounds t (set w j x) v)) (get_or-set_other w j t x 0 d) ∙ ap (round (get_or K t 0) (get_or w t 0)) (ahead t w j x v l)

-- one round more, with the table's constant
more : (t : ℕ) (w : List ℕ) (v₀ : Digest) {v r : Digest} → v ≡ rounds t w v₀ → r ≡ round (get_or K t 0) (get_or w t 0) v → r ≡ rounds (t + 1) w v₀
unfolding rounds
more t w v₀ e f = rw (add-one, ← e, f)

more-next : (t : ℕ) (w : List ℕ) (v₀ : Digest) {v r : Digest} → v ≡ rounds (t + 1) w v₀ → r ≡ round (get_or K (t + 1) 0) (get_or w (t + 1) 0) v → r ≡ rounds (t + 2) w v₀
more-next t w v₀ e f =
    let s : t + 1 + 1 ≡ t + 2 = omega arith in
    more (t + 1) w v₀ e f ∙ ap (λ i. rounds i w v₀) s

-- all of them, where the words are the whole schedule
all : (m : List ℕ) (v₀ : Digest) {w : List ℕ} {v : Digest} → w ≡ schedule 48 m → v ≡ rounds 64 w v₀ → v ≡ rounds 64 (schedule 48 m) v₀
all m v₀ e h = rw (← e) h

pub loop-i-init : goal.loop-i-init
unfolding rounds
loop-i-init c = (search rules, start c.words-w.result c.args.m.now c.words-w.ensures, refl)

pub loop-i-preserved : goal.loop-i-preserved
unfolding K
loop-i-preserved c =
    let l = c.loop-i in
    let a = c.args in
    let t : ℕ = l.i * 2 in
    let e : (l.i + 1) * 2 ≡ t + 2 = omega arith in
    let x = c.next.result in
    let y = c.next-in-loop-i.result in
    let w : List ℕ = set l.w (t + 16) x in
    let z : List ℕ = set w (t + 17) y in
    let n = length-set l.w (t + 16) x ∙ l.invariant.0 in
    let g = grow l.w t a.m.now x l.invariant.0 (omega arith) l.invariant.1 c.next.ensures in
    let r = more t w a.self (l.invariant.2 ∙ sym (ahead t l.w (t + 16) x a.self (omega arith))) c.round-v.ensures in (
      length-set w (t + 17) y ∙ n,
      rw e (grow-next w t a.m.now y n (omega arith) g c.next-in-loop-i.ensures),
      rw e (more-next t z a.self (r ∙ sym (ahead (t + 1) w (t + 17) y a.self (omega arith))) c.round-v-in-loop-i.ensures),
    )

pub loop-i-2-preserved : goal.loop-i-2-preserved
unfolding K
loop-i-2-preserved c =
    let l = c.loop-i-2 in
    let w = c.loop-i.w in
    let t : ℕ = l.i * 2 in
    let e : (l.i + 1) * 2 ≡ t + 2 = omega arith in
    rw e (more-next t w c.args.self (more t w c.args.self l.invariant c.round.ensures) c.round-v-in-loop-i-2.ensures)

pub returns : goal.returns
returns c =
    let l₂ = c.loop-i-2 in
    let l = c.loop-i in
    let i : l.i ≡ 24 = omega arith in
    let j : l₂.i ≡ 32 = omega arith in
    all c.args.m.now c.args.self (done l.w c.args.m.now l.invariant.0 (rw i at l.invariant.1)) (rw j at l₂.invariant)
