-- `sha256::words` meets its contract.
use Rattle.std.proofs.Common.{◌≡◌, ℕ, ◌+◌, ◌*◌, ◌<◌, List, length, take, set, ◌∙◌, add-one, arith, rules, refl}
use Rattle.std.proofs.lemmas.Grind.{take-set_at}
use Rattle.sha256.specs.Words.{word_at}
use Rattle.sha256.specs.Hash.{words}
use Rattle.sha256.proofs.words.Goals as goal

-- one word more of the block
copied : (w : List ℕ) (i : ℕ) (m : List ℕ) {r : ℕ} → length w ≡ 64 → i < 16 → take i w ≡ words i m → r ≡ word_at m (i * 4)
    → take (i + 1) (set w i r) ≡ words (i + 1) m
unfolding words
copied w i m {r} n h e f =
    take-set_at w i (i + 1) r refl (omega arith) ∙ rw (add-one, e, f) refl

pub loop-i-init : goal.loop-i-init
unfolding words
loop-i-init c = (refl, refl)

pub loop-i-preserved : goal.loop-i-preserved
loop-i-preserved c =
    let l = c.loop-i in
    let r : c.from_be_bytes.result ≡ word_at c.args.m.now (l.i * 4) = omega (arith, c.from_be_bytes.ensures) in
    (search (rules, l.invariant.0), copied l.w l.i c.args.m.now l.invariant.0 c.loop-i-test.true l.invariant.1 r)
