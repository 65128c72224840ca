-- `sha256::sha256` meets its contract.
use Rattle.std.proofs.Common.{◌≡◌, ℕ, zero, suc, ◌+◌, ◌-◌, ◌*◌, ◌/◌, ◌<◌, ◌≤◌, List, [], ◌∷◌, ◌++◌, length, take, drop, replicate, get_or, sym, refl, ap, ◌∙◌, add-one, arith, length-drop}
use Rattle.std.proofs.lemmas.List.{drop-drop}
use Rattle.std.specs.Simd.{first_chunks}
use Rattle.sha256.specs.declared.Digest.{Digest}
use Rattle.sha256.specs.Hash.{compress, output}
use Rattle.sha256.specs.Message.{pad, blocks, sha256}
use Rattle.sha256.proofs.Padding.{bits, pad-length, pad-block, block_size, block-end, block-mark}
use Rattle.sha256.proofs.sha256.Goals as goal
use Rattle.sha256.proofs.sha256.Goals.{then-zeros-lt8, else-zeros-lt8}

-- block k of a message, and where the message has it whole, that of the padded message
chunk : (k n : ℕ) (m : List ℕ) → k < n → get_or (first_chunks 64 n m) k [] ≡ take 64 (drop (k * 64) m)
chunk k zero m h = absurd (omega arith)
chunk zero (suc n) m h = refl
chunk (suc k) (suc n) m h =
    let e : 64 + k * 64 ≡ suc k * 64 = omega arith in
    chunk k n (drop 64 m) (omega arith) ∙ ap (take 64) (drop-drop (k * 64) 64 m ∙ ap (λ (i : ℕ). drop i m) e)

whole : (m : List ℕ) (k : ℕ) → k < length m / 64 → get_or (first_chunks 64 (length m / 64) m) k [] ≡ take 64 (drop (k * 64) (pad m))
whole m k h = chunk k (length m / 64) m h ∙ sym (pad-block m (k * 64) (omega arith))

-- the state after one block more of the padded message
more : (k : ℕ) (p : List ℕ) {d r : Digest} {b : List ℕ} → d ≡ blocks k p → b ≡ take 64 (drop (k * 64) p) → r ≡ compress d b → r ≡ blocks (k + 1) p
unfolding blocks
more k p e f g = rw (add-one, ← e, ← f) g

-- the state after all blocks
last : (m : List ℕ) (k : ℕ) {d : Digest} {r : List ℕ} → k ≡ (length m + 8) / 64 + 1 → d ≡ blocks k (pad m) → r ≡ output d → r ≡ sha256 m
unfolding sha256
last m k f e o =
    let n : length (pad m) / 64 ≡ k = omega (arith, pad-length m) in
    rw (n, ← e) o

-- what is left of the message and its length in one block, and in two
module _ (m : List ℕ) {d e : Digest} {s b z r : List ℕ} (k : ℕ) (i : k ≡ length m / 64) (h : d ≡ blocks k (pad m))
    (l : s ≡ drop (k * 64) m) (f : b ≡ s ++ 0x80 ∷ replicate (63 - length s) 0) (g : r ≡ output e) where
  one : 8 ≤ 63 - length s → z ≡ take 56 b ++ bits m → e ≡ compress d z → r ≡ sha256 m
  one t y x =
      let n : length s ≡ length m - k * 64 = rw l (length-drop (k * 64) m) in
      let w : b ≡ drop (k * 64) m ++ 0x80 ∷ replicate (63 - length (drop (k * 64) m)) 0 = rw (← l) f in
      last m (k + 1) (omega arith) (more k (pad m) h (block-end m k (omega arith) (omega arith) w y) x) g

  two : {c : Digest} → 63 - length s < 8 → c ≡ compress d b → z ≡ take 56 (replicate 64 0) ++ bits m → e ≡ compress c z → r ≡ sha256 m
  two t v y x =
      let n : length s ≡ length m - k * 64 = rw l (length-drop (k * 64) m) in
      let w : b ≡ drop (k * 64) m ++ 0x80 ∷ replicate (63 - length (drop (k * 64) m)) 0 = rw (← l) f in
      let a = more k (pad m) h (block-mark m k (omega arith) (omega arith) w) v in
      last m (k + 1 + 1) (omega arith) (more (k + 1) (pad m) a (block_size m (k + 1) (omega arith) (omega arith) y) x) g

pub loop-b-init : goal.loop-b-init
unfolding blocks
loop-b-init c = c.new-d.ensures

pub loop-b-preserved : goal.loop-b-preserved
loop-b-preserved c =
    let m = c.args.msg.now in
    let k = c.loop-b.b-index in
    let h : k < length m / 64 = omega (arith, c.as_chunks.ensures.front_len) in
    more k (pad m) c.loop-b.invariant (ap (λ (l : List (List ℕ)). get_or l k []) c.as_chunks.ensures.front ∙ whole m k h) c.block-d.ensures

pub returns : goal.returns
returns c =
    let m = c.args.msg.now in
    let k = c.loop-b.b-index in
    let i : k ≡ length m / 64 = omega (arith, c.as_chunks.ensures.front_len) in
    let l : c.as_chunks.result.1.now ≡ drop (k * 64) m = rw i c.as_chunks.ensures.back in
    elim c.if-zeros-lt8.branch [
      | then-zeros-lt8 w ↦ two m k i c.loop-b.invariant l c.marked-last.ensures c.bytes.ensures w.if-zeros-lt8.true w.block-d-then-zeros-lt8.ensures
          (rw w.last-is at c.sized.ensures) (rw w.d-is at c.block.ensures)
      | else-zeros-lt8 w ↦ one m k i c.loop-b.invariant l c.marked-last.ensures c.bytes.ensures w.if-zeros-lt8.false
          (rw w.last-is at c.sized.ensures) (rw w.d-is at c.block.ensures)
    ]
