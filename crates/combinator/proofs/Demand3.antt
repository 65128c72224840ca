-- Demand 3 over the exported functions.
-- Assumes nothing.
use Prim.Native.Nat.{ℕ}
use native.Mathlib.Omega.{arith}
use mathlib.Core.Path.{◌≡◌, refl, ap}
use mathlib.Core.List.{List}
use Rattle.sha256.specs.Message.{sha256}
use Rattle.std.specs.Prelude.{Ok, Err}
use Rattle.spec.specs.Answers.{PathAnswer, path_number}
use Rattle.spec.specs.declared.Outcome.TheVariants.{Path, Loop, Bare}
use Rattle.spec.specs.Octets.{Bytes}
use Rattle.spec.specs.Book.{verdict}
use Rattle.spec.proofs.AnswerLaws.{demand-3 as demand-3-of}
use Rattle.combinator.specs.Exports.{isd_asn, numbered_list, numbered_path, list_returned, path_returned}
use Rattle.combinator.specs.Demand3.{Demand3}

pub zero-path : (a : PathAnswer) → path_number a ≡ 0 → a ≡ Ok Path
zero-path (Ok Path) q = refl
zero-path (Ok Loop) q = absurd (omega arith)
zero-path (Ok Bare) q = absurd (omega arith)
zero-path (Err r) q = absurd (omega arith)

-- For every book of bytes that is accepted, every source and every destination: what `combinator_list` returns is the count of all chains, with their
-- records in order, or Full where there are fewer slots; and what `combinator_assemble` returns of a chain's record is a path whose infos and hops
-- lead a router by the ids of the chain's segments, or Loop or Bare just where the chain's interfaces say so, and of any other record Stranger.
pub demand-3 : (b : List ℕ) → Bytes b → verdict b ≡ Ok tt → (src dst : ℕ) → Demand3 b src dst
unfolding list_returned path_returned numbered_list numbered_path
demand-3 b bs ok src dst =
    let d = demand-3-of sha256 b bs ok (isd_asn src) (isd_asn dst) in
    record {
      sound = d.sound;
      complete = d.complete;
      once = d.once;
      ordered = d.ordered;
      listed = λ bytes h. ap numbered_list (d.listed bytes h);
      full = λ bytes h. ap numbered_list (d.full bytes h);
      path = λ c h bytes room p q. ap numbered_path (d.path c h bytes room p q);
      loop = λ c h bytes room p. ap numbered_path (d.loop c h bytes room p);
      bare = λ c h bytes room q. ap numbered_path (d.bare c h bytes room q);
      stranger = λ given none bytes room. ap numbered_path (d.stranger given none bytes room);
      routed = λ c h bytes room q. d.routed c h bytes room (zero-path _ q);
    }
