-- What `chain_of` answers, and what assembly then is.
-- Assumes nothing.
use Prim.Native.Nat.{ℕ, ◌≤◌}
use native.Mathlib.Omega.{arith}
use mathlib.Core.Path.{◌≡◌, refl, sym, ap, ◌∙◌, subst}
use lib.ListN.{length}
use mathlib.Core.List.Memᴰ.{head, not-nil}
use mathlib.Core.List.{List, [], ◌∷◌, Memᴰ as Mem}
use Rattle.spec.specs.declared.IsdAsn.{IsdAsn}
use Rattle.spec.specs.declared.Edge.{Edge}
use Rattle.spec.specs.declared.Refusal.{Refusal}
use Rattle.spec.specs.declared.Refusal.TheVariants.{Stranger as StrangerRefusal}
use Rattle.std.specs.Prelude.{Ok, Err, None, Some}
use Rattle.spec.specs.Book.{Verdict, verdict}
use Rattle.spec.specs.Limits.{path_size}
use Rattle.spec.specs.Chains.{IsChain}
use Rattle.spec.specs.Records.{solution_octets}
use Rattle.spec.specs.Answers.{Assembled, path_number, assembly, path_answer, refused_path}
use Rattle.spec.proofs.AnswerLaws.{assembly-chain, assembly-stranger, assembly-refused}
use Rattle.graph.specs.Recorded.{Chain, chain_number, recorded_chains, recorded_on, recorded}
use Rattle.graph.proofs.RecordWalkLaws.{recorded-mem, mem-recorded}

-- ---- what is said, by the verdict

on-refused : (v : Verdict) (found : List (List Edge)) (x : Refusal) → recorded_on v found ≡ Err x → v ≡ Err x
on-refused (Ok tt) [] x q = let z : ◌≡◌ {A = ℕ} 0 1 = cc in absurd (omega arith)
on-refused (Ok tt) (c ∷ cs) x q = let z : ◌≡◌ {A = ℕ} 0 1 = cc in absurd (omega arith)
on-refused (Err y) found x q = cc

on-stranger : (v : Verdict) (found : List (List Edge)) → recorded_on v found ≡ Ok None → (v ≡ Ok tt) × (found ≡ [])
on-stranger (Ok tt) [] q = (refl, refl)
on-stranger (Ok tt) (c ∷ cs) q = let z : ◌≡◌ {A = ℕ} 0 1 = cc in absurd (omega arith)
on-stranger (Err y) found q = let z : ◌≡◌ {A = ℕ} 0 1 = cc in absurd (omega arith)

on-edges : (v : Verdict) (found : List (List Edge)) (n : ℕ) → recorded_on v found ≡ Ok (Some n) → (c : List Edge) × (v ≡ Ok tt) × Mem c found × (length c ≡ n)
on-edges (Ok tt) [] n q = let z : ◌≡◌ {A = ℕ} 0 1 = cc in absurd (omega arith)
on-edges (Ok tt) (c ∷ cs) n q = (c, refl, head refl, cc)
on-edges (Err y) found n q = let z : ◌≡◌ {A = ℕ} 0 1 = cc in absurd (omega arith)

-- ---- for those who call `chain_of`

module _ (b : List ℕ) (src dst : IsdAsn) (given : List ℕ) where
  -- no chain has the record
  pub record OfNone : Type 0 where
    pub ok : verdict b ≡ Ok tt
    pub none : (c : List Edge) → IsChain b src dst c → given ≡ solution_octets c → ⊥
    pub answer : (bytes : ℕ) → path_size ≤ bytes → assembly b src dst given bytes ≡ refused_path bytes StrangerRefusal

  -- it is the record of a chain
  pub record OfChain (c : List Edge) : Type 0 where
    pub ok : verdict b ≡ Ok tt
    pub chain : IsChain b src dst c
    pub its : given ≡ solution_octets c
    pub answer : (bytes : ℕ) → path_size ≤ bytes → assembly b src dst given bytes ≡ path_answer b bytes c

module _ (b : List ℕ) (src dst : IsdAsn) (given : List ℕ) (r : Chain) (said : r ≡ recorded b src dst given) where
  by-verdict : recorded_on (verdict b) (recorded_chains b src dst given) ≡ r
  unfolding recorded
  by-verdict = sym said

  -- a refused book
  pub said-refused : (x : Refusal) → r ≡ Err x → verdict b ≡ Err x
  said-refused x q = on-refused (verdict b) (recorded_chains b src dst given) x (by-verdict ∙ q)

  pub said-stranger : r ≡ Ok None → OfNone b src dst given
  said-stranger q =
      let h = on-stranger (verdict b) (recorded_chains b src dst given) (by-verdict ∙ q) in
      let n : (c : List Edge) → IsChain b src dst c → given ≡ solution_octets c → ⊥ =
      λ c p e. not-nil (subst (Mem c) h.1 (mem-recorded b src dst given c p e)) in
      record { ok = h.0; none = n; answer = λ bytes room. assembly-stranger b src dst bytes h.0 room given n }

  pub said-edges : (n : ℕ) → r ≡ Ok (Some n) → (c : List Edge) × OfChain b src dst given c × (length c ≡ n)
  said-edges n q =
      let h = on-edges (verdict b) (recorded_chains b src dst given) n (by-verdict ∙ q) in
      let m = recorded-mem b src dst given h.2 in (
        h.0,
        record {
          ok = h.1;
          chain = m.0;
          its = m.1;
          answer = λ bytes room. ap (λ g. assembly b src dst g bytes) m.1 ∙ assembly-chain b src dst bytes h.1 room h.0 m.0;
        },
        h.3,
      )

  -- where it is no chain's, its number is that of assembly's answer
  pub said-number : ((n : ℕ) → r ≡ Ok (Some n) → ⊥) → (bytes : ℕ) → path_size ≤ bytes → path_number (assembly b src dst given bytes).0 ≡ chain_number r
  unfolding refused_path
  said-number none bytes room = go r refl
    where
      go : (x : Chain) → r ≡ x → path_number (assembly b src dst given bytes).0 ≡ chain_number x
      go (Err x) q = ap (λ (a : Assembled). path_number a.0) (assembly-refused b src dst bytes given x (said-refused x q))
      go (Ok None) q = ap (λ (a : Assembled). path_number a.0) ((said-stranger q).answer bytes room)
      go (Ok (Some n)) q = absurd (none n q)
