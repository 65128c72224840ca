-- A book in which a segment passes one AS twice is refused by every exported function.
-- Assumes nothing.
use Prim.Native.Nat.{ℕ, ◌<◌}
use mathlib.Core.Path.{◌≡◌, refl, ap}
use mathlib.Core.Bool.{true}
use mathlib.Core.List.{List}
use Rattle.sha256.specs.Message.{sha256}
use Rattle.spec.specs.declared.Refusal.{Refusal}
use Rattle.std.specs.Prelude.{Ok, Err}
use Rattle.spec.specs.Book.{Verdict, segment_count, passes_twice, verdict}
use Rattle.spec.specs.Chains.{chains}
use Rattle.spec.specs.Order.{solutions}
use Rattle.spec.specs.Answers.{refused_list, refused_path, listing_on, listing, assembly_on, assembly}
use Rattle.spec.specs.Routes.{routing_on, routing}
use Rattle.spec.proofs.Membership.{not-both}
use Rattle.spec.proofs.BookLaws.{accepted}
use Rattle.spec.proofs.BodyLaws.{not-twice}
use Rattle.combinator.specs.Exports.{isd_asn, numbered_list, numbered_path, list_returned, routes_returned, path_returned}
use Rattle.combinator.specs.Twice.{AllRefuse}

-- the refusal of a book is the answer of every function: 11 too
pub all-refuse : (b : List ℕ) (r : Refusal) → verdict b ≡ Err r → AllRefuse b r
unfolding list_returned routes_returned path_returned numbered_list numbered_path listing routing assembly refused_list refused_path
all-refuse b r q =
    record {
      listed = λ src dst bytes. ap (λ v. numbered_list (listing_on v bytes (solutions sha256 b (isd_asn src) (isd_asn dst)))) q;
      routed = λ src dst bytes. ap (λ v. numbered_list (routing_on v bytes b (solutions sha256 b (isd_asn src) (isd_asn dst)))) q;
      assembled = λ src dst given bytes. ap (λ v. numbered_path (assembly_on v b bytes given (chains b (isd_asn src) (isd_asn dst)))) q;
    }

-- where a segment passes one AS twice, there is such a refusal: Twice, or one that is tested before it
pub twice-refused : (b : List ℕ) (k : ℕ) → k < segment_count b → passes_twice b k ≡ true → (r : Refusal) × AllRefuse b r
twice-refused b k h t = go (verdict b) refl
  where
    go : (v : Verdict) → verdict b ≡ v → (r : Refusal) × AllRefuse b r
    go (Ok tt) q = not-both t (not-twice b (accepted b q) k h)
    go (Err r) q = (r, all-refuse b r q)
