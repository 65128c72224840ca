-- What `assemble` answers, by what `graph::chain_of` says.
-- Assumes nothing.
use Prim.Native.Nat.{ℕ, ◌≤◌, ◌<◌}
use native.Mathlib.Omega.{arith}
use mathlib.Core.Path.{◌≡◌, refl, sym, ap, ap₂, ◌∙◌, subst}
use mathlib.Core.List.{List, [], ◌∷◌, ◌++◌, map, flat_map, map-map, Memᴰ as Mem}
use lib.ListN.{length, length-map}
use Rattle.spec.specs.declared.IsdAsn.{IsdAsn}
use Rattle.spec.specs.declared.Edge.{Edge}
use Rattle.spec.specs.declared.Outcome.{Outcome}
use Rattle.spec.specs.declared.Refusal.{Refusal}
use Rattle.spec.specs.declared.Refusal.TheVariants.{Small, Stranger as StrangerRefusal}
use Rattle.std.specs.Prelude.{Ok, Err, None, Option, Some}
use Rattle.std.specs.Result.{is_err}
use mathlib.Core.Bool.{true, false}
use Rattle.spec.specs.Answers.{PathAnswer, Assembled, assembly, output_of, path_answer, refused_path}
use Rattle.spec.specs.Limits.{max_edges, max_mtu, max_time, path_size}
use Rattle.spec.specs.Basics.{range, padded}
use Rattle.spec.specs.Octets.{octets2}
use Rattle.spec.specs.Book.{verdict}
use Rattle.spec.specs.Order.{solution_edge}
use Rattle.spec.specs.Assembly.{least, is_peer_edge, at_shortcut, is_peer_hop, hop_count, used_entries, hop_of, mtus_at, interfaces_at, stop_at, hops_of, interfaces_of, mtus_of, info_of, expiry_of, segment_of, info_on, hops_on, interfaces_on, mtus_on, expiry_on, CombinedPath, combined_path, outcome}
use Rattle.spec.specs.Records.{record_edge, solution_in, solution_octets}
use Rattle.spec.specs.ByRecord.{edges_in as edges_named}
use Rattle.spec.proofs.Lists.{map_same}
use Rattle.spec.proofs.Membership.{map-mem}
use Rattle.spec.proofs.BookLaws.{stored}
use Rattle.spec.proofs.ByteLaws.{edges-back}
use Rattle.spec.proofs.ChainLaws.{allowed-length}
use Rattle.spec.proofs.LengthLaws.{solution-length}
use Rattle.spec.proofs.AnswerLaws.{assembly-refused, assembly-small, assembly-chain}
use Rattle.spec.specs.Chains.{IsChain}
use Rattle.path.specs.Slots.{path_in, OfBook}
use Rattle.output.specs.Write.{zeroed}
use Rattle.output.proofs.Writing.{zeroed-all}
use Rattle.book.specs.Offsets.{open_table}
use Rattle.book.proofs.Tables.{open-accepted}
use Rattle.graph.specs.Recorded.{Chain, recorded}
use Rattle.graph.proofs.RecordedLaws.{OfChain, said-refused, said-stranger, said-edges}
use Rattle.graph.specs.Ready.{Ready}
use Rattle.path.specs.Refusing.{zeros_if_refused}
use Rattle.path.specs.Edges.{edge_by, InBook, edge_in, edges_in, EdgesInBook, RecordInBook}

-- ---- assembly knows an edge by what a record has of it

abbrev again : Edge → Edge
again e = edge_by (solution_edge e)

module _ (b : List ℕ) (e : Edge) where
  same-info : info_on b (again e) ≡ info_on b e
  unfolding info_on info_of hop_count stop_at is_peer_edge segment_of solution_edge
  same-info = refl

  same-hops : hops_on b (again e) ≡ hops_on b e
  unfolding hops_on hops_of used_entries hop_count hop_of is_peer_hop at_shortcut is_peer_edge segment_of solution_edge
  same-hops = refl

  same-interfaces : interfaces_on b (again e) ≡ interfaces_on b e
  unfolding interfaces_on interfaces_of interfaces_at used_entries hop_count hop_of is_peer_hop at_shortcut is_peer_edge segment_of solution_edge
  same-interfaces = refl

  same-mtus : mtus_on b (again e) ≡ mtus_on b e
  unfolding mtus_on mtus_of mtus_at used_entries hop_count is_peer_hop at_shortcut is_peer_edge segment_of solution_edge
  same-mtus = refl

  same-expiry : expiry_on b (again e) ≡ expiry_on b e
  unfolding expiry_on expiry_of hops_of used_entries hop_count hop_of is_peer_hop at_shortcut is_peer_edge segment_of solution_edge
  same-expiry = refl

  same-in-book : InBook b e → InBook b (again e)
  unfolding segment_of solution_edge
  same-in-book u = record { position = u.position; shortcut = u.shortcut; peer = u.peer }

module _ {A : Type 0} where
  map-again : (f : Edge → A) → ((e : Edge) → f (again e) ≡ f e) → (c : List Edge) → map f (map again c) ≡ map f c
  map-again f h c = map-map f again c ∙ map_same (λ e. f (again e)) f h c

  flat-again : (f : Edge → List A) → ((e : Edge) → f (again e) ≡ f e) → (c : List Edge) → flat_map f (map again c) ≡ flat_map f c
  unfolding flat_map
  flat-again f h [] = refl
  flat-again f h (e ∷ c) = ap₂ (λ x l. x ++ l) (h e) (flat-again f h c)

same-path : (b : List ℕ) (c : List Edge) → combined_path b (map again c) ≡ combined_path b c
unfolding combined_path
same-path b c =
    let i = map-again (info_on b) (same-info b) c in
    let h = flat-again (hops_on b) (same-hops b) c in
    let s = flat-again (interfaces_on b) (same-interfaces b) c in
    let m = ap (least max_mtu) (flat-again (mtus_on b) (same-mtus b) c) in
    let x = ap (least max_time) (map-again (expiry_on b) (same-expiry b) c) in
    λ k. record { infos = i k; hops = h k; interfaces = s k; mtu = m k; expiry = x k }

same_answer : (b : List ℕ) (bytes : ℕ) (c : List Edge) → path_answer b bytes (map again c) ≡ path_answer b bytes c
unfolding path_answer
same_answer b bytes c = ap (λ (p : CombinedPath). (Ok (outcome p), output_of (outcome p) bytes p)) (same-path b c)

-- ---- the edges of a chain's record

record-edges : (c : List Edge) → map (record_edge (solution_octets c)) (range 0 (length c)) ≡ map solution_edge c
unfolding edges_named solution_in solution_octets padded octets2
record-edges c = edges-back c

edges-again : (c : List Edge) → edges_in (solution_octets c) (length c) ≡ map again c
unfolding edges_in edge_in
edges-again c =
    sym (map-map edge_by (record_edge (solution_octets c)) (range 0 (length c)))
    ∙ ap (map edge_by) (record-edges c)
    ∙ map-map edge_by solution_edge c

count-back : (c : List Edge) → (solution_in (solution_octets c)).count ≡ length c
unfolding solution_in solution_octets padded octets2
count-back c = refl

-- a chain's record has the chain's path
pub path-back : (b : List ℕ) (c : List Edge) → length c ≤ max_edges → path_in b (solution_octets c) ≡ combined_path b c
unfolding path_in
path-back b c few = ap (combined_path b) (ap (edges_in (solution_octets c)) (count-back c) ∙ edges-again c) ∙ same-path b c

-- ---- what the assembly of a chain goes by

module _ (b : List ℕ) (src dst : IsdAsn) (given : List ℕ) (n : ℕ) (of : (c : List Edge) × OfChain b src dst given c × (length c ≡ n)) where
  abbrev c : List Edge
  c = of.0

  few : length c ≤ max_edges
  few = allowed-length c of.1.chain.kinds

  chain-edges : edges_in given n ≡ map again c
  chain-edges = ap₂ edges_in of.1.its (sym of.2) ∙ edges-again c

  pub chain-in-book : RecordInBook b given n
  chain-in-book =
      record {
        edges = subst (EdgesInBook b) (sym chain-edges) usable;
        room = omega (arith, ap length of.1.its, solution-length c few);
      }
    where
      edge : (e : Edge) → Mem e c → InBook b e
      edge e m =
          let s = stored b (of.1.chain.stored e m) in
          record { position = s.position; shortcut = s.edge.shortcut; peer = s.edge.peer }

      usable : EdgesInBook b (map again c)
      usable =
          record {
            edges = λ e m. let w = map-mem again c m in subst (InBook b) (sym w.2) (same-in-book b w.0 (edge w.0 w.1));
            few = omega (arith, length-map c again, few);
          }

  pub path-answer : (bytes : ℕ) → path_size ≤ bytes → (r : Outcome) (o : List ℕ)
      → (Ok r ≡ (path_answer b bytes (edges_in given n)).0) × (o ≡ (path_answer b bytes (edges_in given n)).1)
      → ◌≡◌ {A = Assembled} (Ok r, zeros_if_refused (Ok r) o) (assembly b src dst given bytes)
  unfolding zeros_if_refused
  path-answer bytes room r o p =
      ap₂ (λ x l. (x, l)) p.0 p.1 ∙ ap (path_answer b bytes) chain-edges ∙ same_answer b bytes c ∙ sym (of.1.answer bytes room)

-- a chain's record is the book's
pub of-book : (b : List ℕ) (src dst : IsdAsn) (c : List Edge) → verdict b ≡ Ok tt → IsChain b src dst c → OfBook b (solution_octets c)
of-book b src dst c ok h =
    subst (RecordInBook b (solution_octets c)) (sym (count-back c))
    (chain-in-book b src dst (solution_octets c) (length c)
    (c, record { ok = ok; chain = h; its = refl; answer = λ bytes room. assembly-chain b src dst bytes ok room c h }, refl))

pub table-ready : (b table : List ℕ) → verdict b ≡ Ok tt → table ≡ open_table b → Ready b table
table-ready b table ok q = record { ok = ok; table = q ∙ open-accepted b refl ok }

-- ---- the answers

module _ (b : List ℕ) (src dst : IsdAsn) (given : List ℕ) (chain : Chain) (said : chain ≡ recorded b src dst given) (out : List ℕ) where
  refuses : (x : Refusal) → assembly b src dst given (length out) ≡ refused_path (length out) x
      → ◌≡◌ {A = Assembled} (Err x, zeros_if_refused (Err x) out) (assembly b src dst given (length out))
  unfolding refused_path zeros_if_refused
  refuses x q = sym q

  pub refused-answer : (x : Refusal) → chain ≡ Err x → ◌≡◌ {A = Assembled} (Err x, zeros_if_refused (Err x) out) (assembly b src dst given (length out))
  refused-answer x q = refuses x (assembly-refused b src dst (length out) given x (said-refused b src dst given chain said x q))

  accepted-by : (n : Option ℕ) → chain ≡ Ok n → verdict b ≡ Ok tt
  accepted-by None q = (said-stranger b src dst given chain said q).ok
  accepted-by (Some n) q = (said-edges b src dst given chain said n q).1.ok

  pub small-answer : (n : Option ℕ) → chain ≡ Ok n → length out < path_size
      → ◌≡◌ {A = Assembled} (Err Small, zeros_if_refused (Err Small) out) (assembly b src dst given (length out))
  small-answer n q l = refuses Small (assembly-small b src dst (length out) given (accepted-by n q) l)

  pub stranger-answer : (n : Option ℕ) → chain ≡ Ok n → ((k : ℕ) → n ≡ Some k → ⊥) → path_size ≤ length out
      → ◌≡◌ {A = Assembled} (Err StrangerRefusal, zeros_if_refused (Err StrangerRefusal) out) (assembly b src dst given (length out))
  stranger-answer None q h room = refuses StrangerRefusal ((said-stranger b src dst given chain said q).answer (length out) room)
  stranger-answer (Some k) q h room = absurd (h k refl)

-- what is left once the output of a refusal is zeroed
module _ (whole : Assembled) (d : List ℕ) where
  pub zeroed-refusal : (r : PathAnswer) → is_err r ≡ true → (d' : List ℕ) → d' ≡ zeroed d 0 → (r, zeros_if_refused r d) ≡ whole → (r, d') ≡ whole
  unfolding zeros_if_refused
  zeroed-refusal (Err x) t d' z q = ap (λ l. (Err x, l)) (z ∙ zeroed-all d) ∙ q
  zeroed-refusal (Ok o) t d' z q = let y : ◌≡◌ {A = ℕ} 0 1 = cc in absurd (omega arith)

  pub kept-answer : (r : PathAnswer) → is_err r ≡ false → (r, zeros_if_refused r d) ≡ whole → (r, d) ≡ whole
  unfolding zeros_if_refused
  kept-answer (Ok o) t q = q
  kept-answer (Err x) t q = let y : ◌≡◌ {A = ℕ} 0 1 = cc in absurd (omega arith)
