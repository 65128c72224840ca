-- The writer and the reader over the exported functions.
-- Assumes nothing.
use Prim.Native.Nat.{ℕ, ◌≤◌, ◌<◌}
use native.Mathlib.Omega.{arith}
use mathlib.Core.Path.{◌≡◌, refl, sym, ap, ◌∙◌, subst}
use mathlib.Core.Bool.{Bool, true, false}
use mathlib.Core.List.Memᴰ.{head, tail}
use mathlib.Core.List.{List, [], ◌∷◌, Memᴰ as Mem}
use lib.ListN.{take}
use lib.Dec.{ltb}
use borrow.Author.Tests.{ltb-false}
use Rattle.spec.specs.declared.IsdAsn.{IsdAsn}
use Rattle.spec.specs.declared.Edge.{Edge}
use Rattle.spec.specs.declared.Refusal.TheVariants.{Small}
use Rattle.std.specs.Prelude.{Ok, Err, if◌then◌else◌}
use Rattle.spec.specs.Book.{Verdict, verdict}
use Rattle.spec.specs.Wire.{WireAnswer, Carried, wire_number, wire_router_ids, writing, reading}
use Rattle.spec.specs.declared.Outcome.TheVariants.{Path}
use Rattle.spec.specs.Limits.{path_size, wire_size}
use Rattle.spec.specs.Basics.{same_list}
use Rattle.spec.specs.Octets.{Bytes}
use Rattle.spec.specs.Chains.{chains, IsChain}
use Rattle.spec.specs.Records.{solution_octets}
use Rattle.spec.specs.Router.{infos_in, hops_in}
use Rattle.spec.specs.Answers.{refusals, refused_path, path_answer, path_of_record, assembly_on, assembly}
use Rattle.spec.specs.WireDemand.{front, WireAgrees}
use Rattle.spec.proofs.ChainLaws.{chains-sound}
use Rattle.spec.proofs.AnswerLaws.{same_list-eq}
use Rattle.spec.proofs.WireLaws.{reversible, sent}
use Rattle.combinator.specs.Exports.{isd_asn, numbered_path, numbered_wire, path_returned, write_returned, read_returned}
use Rattle.combinator.specs.WireDemand.{counted, OnWire, RoundTrip}
use Rattle.combinator.proofs.Demand3.{zero-path}

-- a number below the refusals' is a count
count_of : (a : WireAnswer) → wire_number a < refusals → (n : ℕ) × (a ≡ Ok n)
count_of (Ok n) h = (n, refl)
count_of (Err r) h = absurd (omega arith)

-- what a count counts
counted-front : (c : Carried) (n : ℕ) → c.0 ≡ Ok n → counted (numbered_wire c) ≡ front n c
unfolding numbered_wire
counted-front c n q = ap (λ a. take (wire_number a) c.1) q

within : (a : WireAnswer) (n : ℕ) → n ≤ wire_size → a ≡ Ok n → wire_number a ≤ wire_size
within a n h q = let e : wire_number a ≡ n = ap wire_number q in omega arith

few : (a : WireAnswer) (n : ℕ) → n ≤ path_size → a ≡ Ok n → wire_number a < refusals
few a n h q = let e : wire_number a ≡ n = ap wire_number q in omega arith

-- ---- what assembly is given where it leaves a path

-- the record of one of the chains
record_of_lem : (b : List ℕ) (bytes : ℕ) (given : List ℕ) (cs : List (List Edge)) → (path_of_record b bytes given cs).0 ≡ Ok Path
    → (c : List Edge) × Mem c cs × (given ≡ solution_octets c)
unfolding path_of_record refused_path
record_of_lem b bytes given [] q = let z : ◌≡◌ {A = ℕ} 0 1 = cc in absurd (omega arith)
record_of_lem b bytes given (c ∷ cs) q = go (same_list given (solution_octets c)) refl q (record_of_lem b bytes given cs)
  where
    go : (t : Bool) → same_list given (solution_octets c) ≡ t → (if t then path_answer b bytes c else path_of_record b bytes given cs).0 ≡ Ok Path
        → ((path_of_record b bytes given cs).0 ≡ Ok Path → (d : List Edge) × Mem d cs × (given ≡ solution_octets d)) → (d : List Edge) × Mem d (c ∷ cs) × (given ≡ solution_octets d)
    go true e q ih = (c, head refl, same_list-eq given (solution_octets c) e)
    go false e q ih = let w = ih q in (w.0, tail w.1, w.2)

module _ (b : List ℕ) (src dst : IsdAsn) (given : List ℕ) (bytes : ℕ) where
  -- an accepted book, an output that is not Small, a chain's record
  record Left : Type 0 where
    ok : verdict b ≡ Ok tt
    big : path_size ≤ bytes
    chain : List Edge
    is-chain : IsChain b src dst chain
    of-chain : given ≡ solution_octets chain

  left : (assembly b src dst given bytes).0 ≡ Ok Path → Left
  unfolding assembly refused_path
  left q = go (verdict b) refl q
    where
      big-by : (t : Bool) → ltb bytes path_size ≡ t → verdict b ≡ Ok tt
          → (if t then refused_path bytes Small else path_of_record b bytes given (chains b src dst)).0 ≡ Ok Path → Left
      big-by true e ok q = let z : ◌≡◌ {A = ℕ} 0 1 = cc in absurd (omega arith)
      big-by false e ok q =
          let w = record_of_lem b bytes given (chains b src dst) q in
          record { ok = ok; big = ltb-false bytes path_size e; chain = w.0; is-chain = chains-sound b src dst w.0 w.1; of-chain = w.2 }

      go : (v : Verdict) → verdict b ≡ v → (assembly_on v b bytes given (chains b src dst)).0 ≡ Ok Path → Left
      go (Ok tt) e q = big-by (ltb bytes path_size) refl e q
      go (Err r) e q = let z : ◌≡◌ {A = ℕ} 0 1 = cc in absurd (omega arith)

-- Whatever the book, the two ends, the record and the output: a path that assembly leaves goes on the wire, and leads a router by the ids of its segments.
pub on-wire : (b : List ℕ) → Bytes b → (src dst : ℕ) (given : List ℕ) (bytes room : ℕ) → wire_size ≤ room
    → (path_returned b src dst given bytes).0 ≡ 0 → OnWire b src dst given bytes room
unfolding path_returned numbered_path write_returned numbered_wire
on-wire b bs src dst given bytes room enough q =
    let p : (assembly b (isd_asn src) (isd_asn dst) given bytes).0 ≡ Ok Path = zero-path _ q in
    let l : Left b (isd_asn src) (isd_asn dst) given bytes = left b (isd_asn src) (isd_asn dst) given bytes p in
    let c : List Edge = l.chain in
    let r : List ℕ = solution_octets c in
    let s = sent b bs l.ok (isd_asn src) (isd_asn dst) c l.is-chain bytes room l.big enough (ap (λ g. (assembly b (isd_asn src) (isd_asn dst) g bytes).0) (sym l.of-chain) ∙ p) in
    let e : writing (assembly b (isd_asn src) (isd_asn dst) given bytes).1 room ≡ writing (assembly b (isd_asn src) (isd_asn dst) r bytes).1 room =
    ap (λ g. writing (assembly b (isd_asn src) (isd_asn dst) g bytes).1 room) l.of-chain in
    record {
      accepted = l.ok;
      chain = c;
      is-chain = l.is-chain;
      of-chain = l.of-chain;
      taken = within _ s.0 s.1 (ap (λ (x : Carried). x.0) e ∙ s.2);
      agrees = subst (λ (x : Carried). WireAgrees b c (counted (numbered_wire x))) (sym e) (subst (WireAgrees b c) (sym (counted-front _ s.0 s.2)) s.3);
    }

-- For every list of bytes.
pub round_trip : (x : List ℕ) → Bytes x → RoundTrip x
unfolding write_returned read_returned numbered_wire
round_trip x bs =
    let d = reversible x bs in
    record {
      back = λ bytes room h big.
          let k = count_of _ h in
          let b = d.back k.0 bytes room k.1 big in
          let e : counted (numbered_wire (writing x bytes)) ≡ front k.0 (writing x bytes) = counted-front (writing x bytes) k.0 k.1 in (
            few _ b.0 b.1 (ap (λ w. (reading w room).0) e ∙ b.2),
            ap (λ w. infos_in (reading w room).1) e ∙ b.3,
            ap (λ w. hops_in (reading w room).1) e ∙ b.4,
          );
      router = λ bytes h. let k = count_of _ h in ap wire_router_ids (counted-front (writing x bytes) k.0 k.1) ∙ d.router k.0 bytes k.1;
      again = λ bytes room h big.
          let k = count_of _ h in
          ap (λ r. numbered_wire (writing r room)) (counted-front (reading x bytes) k.0 k.1) ∙ ap numbered_wire (d.again k.0 bytes room k.1 big);
      produced = λ r rs bytes room h e big.
          let k = count_of _ h in
          let p = d.produced r rs k.0 bytes room k.1 (sym (counted-front (writing r bytes) k.0 k.1) ∙ e) big in
          few _ p.0 p.1 p.2;
      only = λ bytes h.
          let k = count_of _ h in
          let o = d.only k.0 bytes k.1 in
          (o.0, o.1, λ room big. ap numbered_wire (o.2 room big));
      written = λ bytes h. let k = count_of _ h in ap wire_number k.1 ∙ (d.wire-count k.0 bytes k.1).0;
      read = λ bytes h. let k = count_of _ h in ap wire_number k.1 ∙ (d.record-count k.0 bytes k.1).0;
    }
