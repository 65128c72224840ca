-- `sha256::sized` meets its contract.
use Rattle.std.proofs.Common.{rules, ◌≡◌, ℕ, ◌*◌, ◌%◌, ◌^◌, List, ◌++◌, length, take, drop, ap, ◌∙◌, arith, length-drop, drop_of_length-le}
use borrow.Rule.Slice.PartMut.{put_mid}
use Rattle.sha256.specs.Words.{octets}
use Rattle.sha256.proofs.Bytes.{octets-of-size}
use Rattle.sha256.proofs.sized.Goals as goal

-- nothing stands after the eight bytes
ended : (b : List ℕ) (x : ℕ) {r : List ℕ} → length b ≡ 64 → r ≡ octets 8 x → put_mid 56 8 b r ≡ take 56 b ++ octets 8 x
ended b x n e =
    ap (put_mid 56 8 b) e
    ∙ ap (λ (l : List ℕ). take 56 b ++ (octets 8 x ++ l)) (drop_of_length-le (drop 56 b) {i = 8} (rw length-drop (omega arith)))

pub returns : goal.returns
returns c =
    let x : ℕ = c.args.n * 8 % 2 ^ 64 in
    ended c.args.b x (search rules) (c.copy_from_slice.ensures.after ∙ c.to_be_bytes.ensures ∙ octets-of-size x)
