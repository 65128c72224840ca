-- The lines of a solution, from what assembly of its record answers.
-- Assumes nothing.
use Prim.Native.Nat.{ℕ}
use native.Mathlib.Nat.{le_refl}
use mathlib.Core.Path.{◌≡◌, refl, sym, ap, ap₂, ◌∙◌, subst}
use mathlib.Core.Logic.{◌⊎◌, inl, inr}
use mathlib.Core.Bool.{Bool, true, false}
use mathlib.Core.List.Memᴰ.{cases_cons, head, not-nil, tail}
use mathlib.Core.List.{List, [], ◌∷◌, ◌++◌, flat_map, Memᴰ as Mem}
use lib.ListN.{length}
use Rattle.spec.specs.declared.IsdAsn.{IsdAsn}
use Rattle.spec.specs.declared.Edge.{Edge}
use Rattle.spec.specs.declared.Path.{Path as PathHead}
use Rattle.spec.specs.declared.Solution.{Solution}
use Rattle.spec.specs.declared.Refusal.{Refusal}
use Rattle.std.specs.Prelude.{Ok, Err, if◌then◌else◌}
use Rattle.spec.specs.Answers.{PathAnswer, Assembled, refused_path, output_of, path_answer, assembly}
use Rattle.spec.specs.Book.{Verdict, verdict}
use Rattle.spec.specs.declared.Outcome.{Outcome}
use Rattle.spec.specs.declared.Outcome.TheVariants.{Path, Loop, Bare}
use Rattle.spec.specs.Limits.{path_size}
use Rattle.spec.specs.Basics.{range, same_list, padded}
use Rattle.spec.specs.Octets.{Bytes}
use Rattle.spec.specs.Chains.{IsChain, chains}
use Rattle.spec.specs.Order.{cost}
use Rattle.spec.specs.Assembly.{combined_path, is_loop, is_bare, outcome}
use Rattle.spec.specs.Records.{solution_octets, solution_of, path_head, path_octets, path_head_in, record_interface, interfaces_in}
use Rattle.spec.specs.Router.{record_info, infos_in}
use Rattle.spec.specs.Printed.{ascii, decimal, item, newline, info_line, interface_line, path_lines, lines_by, outcome_lines, solution_lines}
use Rattle.spec.proofs.Lists.{flat-map}
use Rattle.spec.proofs.Membership.{not-both}
use Rattle.spec.proofs.ChainLaws.{chains-sound, chains-complete}
use Rattle.spec.proofs.AnswerLaws.{same_list-eq, same_list-refl, record-chain, assembly-chain, assembly-stranger, assembly-refused}
use Rattle.spec.proofs.BookLaws.{accepted}
use Rattle.spec.proofs.Bounds.{chain-bounds}
use Rattle.spec.proofs.ReadBack.{PathRead, path-read, solution-back}
use Rattle.path.specs.Places.{Wrote}
use Rattle.path.proofs.Writes.{wrote_none, wrote-join, wrote_as}
use Rattle.printed.specs.Lines.{fields_line, info_text, interface_text, lines_to, path_text}
use Rattle.printed.specs.Pieces.{start_text, text_by, lines_of_record, lines_on, solution_text}

-- ---- the chain that a record is of

module _ (b : List ℕ) (src dst : IsdAsn) (number : ℕ) where
  found-lines : (c : List Edge) → IsChain b src dst c → (cs : List (List Edge)) → ((d : List Edge) → Mem d cs → IsChain b src dst d) → Mem c cs
      → lines_of_record b number (solution_octets c) cs ≡ solution_lines b number c
  unfolding lines_of_record
  found-lines c p [] all m = absurd (not-nil m)
  found-lines c p (d ∷ ds) all m =
      go (found-lines c p ds (λ x k. all x (tail k))) (same_list (solution_octets c) (solution_octets d)) refl (cases_cons m)
    where
      go : (Mem c ds → lines_of_record b number (solution_octets c) ds ≡ solution_lines b number c) → (t : Bool)
          → same_list (solution_octets c) (solution_octets d) ≡ t → (c ≡ d) ⊎ Mem c ds
          → (if t then solution_lines b number d else lines_of_record b number (solution_octets c) ds) ≡ solution_lines b number c
      go ih true q k = ap (solution_lines b number) (sym (record-chain b src dst c d p (all d (head refl)) (same_list-eq _ _ q)))
      go ih false q (inl e) =
          not-both (subst (λ x. same_list (solution_octets c) (solution_octets x) ≡ true) e (same_list-refl (solution_octets c))) q
      go ih false q (inr k) = ih k

  strange-lines : (given : List ℕ) (cs : List (List Edge)) → ((c : List Edge) → Mem c cs → given ≡ solution_octets c → ⊥)
      → lines_of_record b number given cs ≡ []
  unfolding lines_of_record
  strange-lines given [] none = refl
  strange-lines given (d ∷ ds) none = go (strange-lines given ds (λ c m. none c (tail m))) (same_list given (solution_octets d)) refl
    where
      go : lines_of_record b number given ds ≡ [] → (t : Bool) → same_list given (solution_octets d) ≡ t
          → (if t then solution_lines b number d else lines_of_record b number given ds) ≡ []
      go ih true q = absurd (none d (head refl) (same_list-eq _ _ q))
      go ih false q = ih

  pub text-chain : verdict b ≡ Ok tt → (c : List Edge) → IsChain b src dst c → solution_text b src dst (solution_octets c) number ≡ solution_lines b number c
  unfolding solution_text
  text-chain ok c h =
      ap (λ v. lines_on v b number (solution_octets c) (chains b src dst)) ok
      ∙ found-lines c h (chains b src dst) (chains-sound b src dst) (chains-complete b src dst c h)

  pub text-stranger : verdict b ≡ Ok tt → (given : List ℕ) → ((c : List Edge) → IsChain b src dst c → given ≡ solution_octets c → ⊥)
      → solution_text b src dst given number ≡ []
  unfolding solution_text
  text-stranger ok given none =
      ap (λ v. lines_on v b number given (chains b src dst)) ok
      ∙ strange-lines given (chains b src dst) (λ c m. none c (chains-sound b src dst c m))

  pub text-refused : (r : Refusal) → verdict b ≡ Err r → (given : List ℕ) → solution_text b src dst given number ≡ []
  unfolding solution_text
  text-refused r q given = ap (λ v. lines_on v b number given (chains b src dst)) q

-- a list has an element whose record is the given one, or none
pub record_of_lem : (given : List ℕ) (cs : List (List Edge))
    → ((c : List Edge) × Mem c cs × (given ≡ solution_octets c)) ⊎ ((c : List Edge) → Mem c cs → given ≡ solution_octets c → ⊥)
record_of_lem given [] = inr (λ c m q. absurd (not-nil m))
record_of_lem given (d ∷ ds) = go (record_of_lem given ds) (same_list given (solution_octets d)) refl
  where
    go : ((c : List Edge) × Mem c ds × (given ≡ solution_octets c)) ⊎ ((c : List Edge) → Mem c ds → given ≡ solution_octets c → ⊥) → (t : Bool)
        → same_list given (solution_octets d) ≡ t
        → ((c : List Edge) × Mem c (d ∷ ds) × (given ≡ solution_octets c)) ⊎ ((c : List Edge) → Mem c (d ∷ ds) → given ≡ solution_octets c → ⊥)
    go ih true q = inl (d, head refl, same_list-eq _ _ q)
    go (inl w) false q = inl (w.0, tail w.1, w.2)
    go (inr none) false q = inr (λ c m e. other c e (cases_cons m))
      where
        other : (c : List Edge) → given ≡ solution_octets c → (c ≡ d) ⊎ Mem c ds → ⊥
        other c e (inl p) =
            not-both (subst (λ x. same_list given x ≡ true) (e ∙ ap solution_octets p) (same_list-refl given)) q
        other c e (inr m) = none c m e

-- ---- a path's lines, read from its record

infos-text : (p : List ℕ) → lines_to (info_text p) (path_head_in p).infos ≡ flat_map info_line (infos_in p)
unfolding lines_to info_text infos_in
infos-text p = sym (flat-map (record_info p) info_line (range 0 (path_head_in p).infos))

interfaces-text : (p : List ℕ) → lines_to (interface_text p) (path_head_in p).interfaces ≡ flat_map interface_line (interfaces_in p)
unfolding lines_to interface_text interfaces_in
interfaces-text p = sym (flat-map (record_interface p) interface_line (range 0 (path_head_in p).interfaces))

module _ (b : List ℕ) (c : List Edge) (n : ℕ) (read : PathRead b c n) where
  abbrev whole : List ℕ
  whole = padded n (path_octets (combined_path b c))

  path-text : path_text (padded n (path_octets (combined_path b c))) ≡ path_lines (combined_path b c)
  unfolding path_text path_lines fields_line path_head
  path-text =
      ap₂ (λ (x : List ℕ) y. x ++ y)
      (ap₂ (λ (h : PathHead) is. fields_line h.mtu h.expiry h.hops ++ is)
      read.head (infos-text whole ∙ ap (flat_map info_line) read.infos))
      (interfaces-text whole ∙ ap (flat_map interface_line) read.interfaces)

-- ---- from assembly's answer

module _ (b : List ℕ) (bytes : Bytes b) (src dst : IsdAsn) (number : ℕ) where
  module _ (ok : verdict b ≡ Ok tt) (c : List Edge) (h : IsChain b src dst c) where
    start-text : start_text (solution_octets c) number ≡ decimal number ++ item " cost " (cost c) ++ item " segments " (length c)
    unfolding start_text solution_of
    start-text =
        let s = chain-bounds b bytes (accepted b ok) src dst c h in
        ap (λ (x : Solution). decimal number ++ item " cost " x.cost ++ item " segments " x.count) (solution-back c s.count s.cost)

    chain-text : solution_lines b number c ≡ text_by (Ok (outcome (combined_path b c))) (output_of (outcome (combined_path b c)) path_size (combined_path b c)) (solution_octets c) number
    unfolding solution_lines outcome_lines outcome
    chain-text = go (is_loop (combined_path b c).interfaces) (is_bare (combined_path b c).interfaces)
      where
        by : Bool → Bool → Outcome
        by l e = if l then Loop else if e then Bare else Path

        go : (l e : Bool) → decimal number ++ item " cost " (cost c) ++ item " segments " (length c) ++ lines_by (Ok (by l e)) (combined_path b c)
            ≡ text_by (Ok (by l e)) (output_of (by l e) path_size (combined_path b c)) (solution_octets c) number
        go true e = ap (λ l. l ++ (ascii " loop" ++ newline)) (sym start-text)
        go false true = ap (λ l. l ++ (ascii " bare" ++ newline)) (sym start-text)
        go false false = ap₂ (λ (x : List ℕ) y. x ++ y) (sym start-text) (sym (path-text b c path_size (path-read b bytes c path_size)))

  abbrev answer : List ℕ → Assembled
  answer given = assembly b src dst given path_size

  pub solution-text : (given : List ℕ) → solution_text b src dst given number ≡ text_by (assembly b src dst given path_size).0 (assembly b src dst given path_size).1 given number
  unfolding refused_path path_answer
  solution-text given = on (verdict b) refl
    where
      of : verdict b ≡ Ok tt
          → ((c : List Edge) × Mem c (chains b src dst) × (given ≡ solution_octets c)) ⊎ ((c : List Edge) → Mem c (chains b src dst) → given ≡ solution_octets c → ⊥)
          → solution_text b src dst given number ≡ text_by (answer given).0 (answer given).1 given number
      of ok (inl w) =
          let c : List Edge = w.0 in
          let h : IsChain b src dst c = chains-sound b src dst c w.1 in
          subst (λ g. solution_text b src dst g number ≡ text_by (answer g).0 (answer g).1 g number) (sym w.2)
          (text-chain b src dst number ok c h ∙ chain-text ok c h
          ∙ sym (ap (λ (a : Assembled). text_by a.0 a.1 (solution_octets c) number) (assembly-chain b src dst path_size ok (le_refl path_size) c h)))
      of ok (inr none) =
          text-stranger b src dst number ok given (λ c h. none c (chains-complete b src dst c h))
          ∙ sym (ap (λ (a : Assembled). text_by a.0 a.1 given number)
          (assembly-stranger b src dst path_size ok (le_refl path_size) given (λ c h. none c (chains-complete b src dst c h))))

      on : (v : Verdict) → verdict b ≡ v → solution_text b src dst given number ≡ text_by (answer given).0 (answer given).1 given number
      on (Ok tt) ok = of ok (record_of_lem given (chains b src dst))
      on (Err r) q =
          text-refused b src dst number r q given
          ∙ sym (ap (λ (a : Assembled). text_by a.0 a.1 given number) (assembly-refused b src dst path_size given r q))

-- ---- what the code leaves, in the terms of the contracts

module _ (answer : PathAnswer) (p given : List ℕ) (number : ℕ) {d : List ℕ} {d' : List ℕ} {at : ℕ} {d'' : List ℕ} {r : ℕ} where
  pub wrote-path : answer ≡ Ok Path → Wrote d 0 (start_text given number) d' at → Wrote d' at (path_text p) d'' r → Wrote d 0 (text_by answer p given number) d'' r
  wrote-path q v w = wrote_as (ap (λ a. text_by a p given number) (sym q)) (wrote-join v w)

  pub wrote-loop : answer ≡ Ok Loop → Wrote d 0 (start_text given number) d' at → Wrote d' at (ascii " loop" ++ newline) d'' r → Wrote d 0 (text_by answer p given number) d'' r
  wrote-loop q v w = wrote_as (ap (λ a. text_by a p given number) (sym q)) (wrote-join v w)

  pub wrote-bare : answer ≡ Ok Bare → Wrote d 0 (start_text given number) d' at → Wrote d' at (ascii " bare" ++ newline) d'' r → Wrote d 0 (text_by answer p given number) d'' r
  wrote-bare q v w = wrote_as (ap (λ a. text_by a p given number) (sym q)) (wrote-join v w)

pub wrote-refused : (answer : PathAnswer) (p given : List ℕ) (number : ℕ) (d : List ℕ) (r : Refusal) → answer ≡ Err r → Wrote d 0 (text_by answer p given number) d 0
wrote-refused answer p given number d r q = wrote_as (ap (λ a. text_by a p given number) (sym q)) (wrote_none d 0)

pub wrote-solution : (b : List ℕ) → Bytes b → (src dst : IsdAsn) (given : List ℕ) (number n : ℕ) (answer : PathAnswer) (p : List ℕ)
    → (answer, p) ≡ assembly b src dst given n → n ≡ path_size
    → {d d' : List ℕ} {r : ℕ} → Wrote d 0 (text_by answer p given number) d' r → Wrote d 0 (solution_text b src dst given number) d' r
wrote-solution b bytes src dst given number n answer p q e w =
    wrote_as
    (ap (λ (a : Assembled). text_by a.0 a.1 given number) (q ∙ ap (assembly b src dst given) e) ∙ sym (solution-text b bytes src dst number given)) w
