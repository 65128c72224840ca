-- `sha256::Digest::bytes` meets its contract.
use Rattle.std.proofs.Common.{◌≡◌, ℕ, ◌+◌, ◌-◌, ◌*◌, ◌<◌, List, length, take, get_or, rules, arith, refl, sym, ap, ◌∙◌, take_all}
use Rattle.std.proofs.lemmas.Slice.{take-put_mid, overwrites}
use borrow.Rule.Slice.PartMut.{put_mid}
use Rattle.sha256.specs.Words.{octets}
use Rattle.sha256.specs.Hash.{output}
use Rattle.sha256.proofs.Bytes.{octets-of-word, joined, joined-more}
use Rattle.sha256.proofs.Digest.bytes.Goals as goal

-- one word more
stored : (out ys ws : List ℕ) (i : ℕ) → length out ≡ 32 → length ws ≡ 8 → i < 8 → take (i * 4) out ≡ joined (take i ws) → ys ≡ octets 4 (get_or ws i 0)
    → take ((i + 1) * 4) (put_mid (i * 4) (i * 4 + 4 - i * 4) out ys) ≡ joined (take (i + 1) ws)
stored out ys ws i n k h e f =
    let s : (i + 1) * 4 ≡ i * 4 + length ys = omega (arith, ap length f) in
    take-put_mid (i * 4) (i * 4 + 4 - i * 4) out ys ((i + 1) * 4) s (omega arith)
    ∙ rw (e, f, joined-more ws i (omega arith)) refl

pub loop-i-init : goal.loop-i-init
unfolding joined
loop-i-init c = (refl, refl)

pub loop-i-preserved : goal.loop-i-preserved
loop-i-preserved c =
    let l = c.loop-i in
    let bytes = c.copy_from_slice.ensures.after ∙ c.to_be_bytes.ensures ∙ octets-of-word _ in (
      search (rules, overwrites),
      stored l.out c.copy_from_slice.new.self _ l.i l.invariant.0 refl (omega arith) l.invariant.1 (bytes ∙ ap (octets 4) (search rules)),
    )

pub returns : goal.returns
unfolding joined output
returns c =
    let l = c.loop-i in
    let i : l.i ≡ 8 = omega arith in
    sym (take_all 32 l.out (omega arith)) ∙ rw i at l.invariant.1
