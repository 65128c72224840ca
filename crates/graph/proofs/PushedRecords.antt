-- The record of a chain, pushed.
-- Assumes nothing.
use Prim.Native.Nat.{ℕ, ◌+◌, ◌*◌, ◌-◌, ◌≤◌, ◌<◌}
use native.Mathlib.Omega.{arith}
use mathlib.Core.Path.{◌≡◌, sym, ap, ap₂, ◌∙◌, subst}
use mathlib.Core.List.{List, [], ◌∷◌, ◌++◌, map, append_assoc}
use lib.ListN.{length, take, drop, replicate}
use lib.Seq.{drop-drop}
use Rattle.spec.specs.declared.Edge.{Edge}
use Rattle.spec.specs.declared.SolutionEdge.{SolutionEdge}
use Rattle.spec.specs.declared.Solution.{Solution}
use Rattle.spec.specs.Limits.{max_edges, solution_size}
use Rattle.spec.specs.Order.{cost, solution_edge}
use Rattle.spec.specs.Records.{no_edge, solution_of}
use Rattle.records.specs.Octets.{record_octets}
use Rattle.records.proofs.Octets.{record_of_lem}
use Rattle.graph.specs.Pushed.{Slots, put_at, push_record, pushed, Pushes}
use Rattle.graph.proofs.PushedLaws.{record-room, pushed-one, pushed_most}

-- ---- the record of a chain

pub solution-is : (c : List Edge) (s : Solution) (w n : ℕ) (es : List SolutionEdge) → s ≡ record { cost = w; count = n; edges = es }
    → w ≡ cost c → n ≡ length c → es ≡ map solution_edge c ++ replicate (max_edges - length c) no_edge → s ≡ solution_of c
unfolding solution_of
solution-is c s w n es e p q r = cc

-- ---- pushed

-- y over the bytes of slot n
pub put-over : (n : ℕ) (out : List ℕ) {y r : List ℕ} → y ≡ r
    → take (solution_size * n) out ++ (y ++ drop (solution_size * n + solution_size - solution_size * n) (drop (solution_size * n) out)) ≡ put_at out n r
unfolding put_at
put-over n out {r = r} q =
    let size : solution_size * n + solution_size - solution_size * n ≡ solution_size = omega arith in
    ap₂ (λ x k. take (solution_size * n) out ++ (x ++ drop k (drop (solution_size * n) out))) q size
    ∙ ap (λ z. take (solution_size * n) out ++ (r ++ z)) (drop-drop solution_size (solution_size * n) out)
    ∙ sym (append_assoc (take (solution_size * n) out) r (drop (solution_size * n + solution_size) out))

pub push-room : (slots n : ℕ) (out next : List ℕ) {r : List ℕ} (s : Solution) → n < slots → r ≡ record_octets s → next ≡ put_at out n r
    → (n + 1, next) ≡ push_record slots (n, out) (record_octets s)
push-room slots n out next s h e q = ap (λ z. (n + 1, z)) (q ∙ ap (put_at out n) e) ∙ sym (record-room slots n out (record_octets s) h)

pub pushes-one : (slots n r : ℕ) (out next : List ℕ) (c : List Edge) (s : Solution) → (r, next) ≡ push_record slots (n, out) (record_octets s)
    → s ≡ solution_of c → length c ≤ max_edges → n ≤ slots + 1 → Pushes slots (n, out) (r, next) (c ∷ [])
pushes-one slots n r out next c s e q h m =
    let st : (r, next) ≡ pushed slots (n, out) (c ∷ []) =
    e ∙ ap (λ t. push_record slots (n, out) (record_octets t)) q ∙ ap (push_record slots (n, out)) (record_of_lem c h) ∙ sym (pushed-one slots (n, out) c) in
    record { state = st; most = subst (λ (t : Slots). t.0 ≤ slots + 1) (sym st) (pushed_most slots n out (c ∷ []) m) }
