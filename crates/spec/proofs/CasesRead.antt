-- What the tables say: each question has the answer that stands beside it.
-- Assumes nothing.
use mathlib.Core.Path.{◌≡◌, ap, ◌∙◌}
use mathlib.Core.Logic.{⊎_elim}
use mathlib.Core.Bool.{Bool, true, ◌&&◌}
use mathlib.Core.List.Memᴰ.{cases_cons, not-nil}
use mathlib.Core.List.{List, [], ◌∷◌, ◌++◌, Memᴰ as Mem}
use Prim.Native.Nat.{ℕ}
use lib.Dec.{T}
use Rattle.sha256.specs.Message.{sha256}
use Rattle.spec.proofs.Membership.{T_true, true-T, and-true}
use Rattle.spec.proofs.AnswerLaws.{same_list-eq}
use Rattle.spec.proofs.CasesForm.{Case, answer, right, every}
use Rattle.spec.proofs.Cases
use Rattle.spec.proofs.PinnedCases
use Rattle.spec.proofs.RouteCases
use Rattle.spec.proofs.WireCases
use Rattle.spec.proofs.AddedCases
use Rattle.spec.proofs.DigestCases

every-mem : (p : Case → Bool) (cs : List Case) → T (every p cs) → (c : Case) → Mem c cs → p c ≡ true
unfolding every
every-mem p [] t c m = absurd (not-nil m)
every-mem p (d ∷ ds) t c m =
    let h = and-true (p d) (every p ds) (T_true (p d && every p ds) t) in
    ⊎_elim (λ q. ap p q ∙ h.0) (λ k. every-mem p ds (true-T (every p ds) h.1) c k) (cases_cons m)

pub answered : (digest : List ℕ → List ℕ) (cs : List Case) → T (every (right digest) cs) → (c : Case) → Mem c cs → answer digest c.question ≡ c.expected
unfolding right
answered digest cs t c m =
    same_list-eq (answer digest c.question) c.expected (every-mem (right digest) cs t c m)

-- the first table, for every digest
pub p-answer : (digest : List ℕ → List ℕ) (c : Case) → Mem c Cases.table → answer digest c.question ≡ c.expected
p-answer digest = answered digest Cases.table (Cases.all_right digest)

-- the second, the third and the fourth table, and the cases with SHA-256
abbrev added : List Case
added = AddedCases.table ++ PinnedCases.table ++ RouteCases.table

both : (s t : Bool) → T (s && t) → T s × T t
both s t h =
    let q = and-true s t (T_true (s && t) h) in
    (true-T s q.0, true-T t q.1)

pub added-answer : (c : Case) → Mem c added → answer AddedCases.unhashed c.question ≡ c.expected
added-answer =
    answered AddedCases.unhashed added (both (every (right AddedCases.unhashed) added) (every (right sha256) AddedCases.hashed) AddedCases.all_right).0

pub hashed-answer : (c : Case) → Mem c AddedCases.hashed → answer sha256 c.question ≡ c.expected
hashed-answer =
    answered sha256 AddedCases.hashed (both (every (right AddedCases.unhashed) added) (every (right sha256) AddedCases.hashed) AddedCases.all_right).1

-- the fifth table, for every digest
pub wire-answer : (digest : List ℕ → List ℕ) (c : Case) → Mem c (WireCases.table ++ WireCases.bytewise) → answer digest c.question ≡ c.expected
wire-answer digest = answered digest (WireCases.table ++ WireCases.bytewise) (WireCases.all_right digest)

-- the sixth table, its cases of chains, and those with SHA-256
pub digest-answer : (c : Case) → Mem c DigestCases.table → answer AddedCases.unhashed c.question ≡ c.expected
digest-answer =
    answered AddedCases.unhashed DigestCases.table
    (both (every (right AddedCases.unhashed) DigestCases.table) (every (right sha256) DigestCases.hashed) DigestCases.all_right).0

pub digest-chained-answer : (c : Case) → Mem c DigestCases.chained → answer AddedCases.unhashed c.question ≡ c.expected
digest-chained-answer = answered AddedCases.unhashed DigestCases.chained DigestCases.chains-right

pub digest-hashed-answer : (c : Case) → Mem c DigestCases.hashed → answer sha256 c.question ≡ c.expected
digest-hashed-answer =
    answered sha256 DigestCases.hashed
    (both (every (right AddedCases.unhashed) DigestCases.table) (every (right sha256) DigestCases.hashed) DigestCases.all_right).1
