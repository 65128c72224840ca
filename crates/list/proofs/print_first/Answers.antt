-- `print_first` meets its contract.
use native.Mathlib.Omega.{arith}
use mathlib.Core.Path.{◌≡◌, ap, ◌∙◌}
use lib.ListN.{length, take}
use Rattle.printed.specs.Pieces.{listed, first_line, count_of}
use Rattle.list.proofs.Fronts.{wrote-front}
use Rattle.list.proofs.print_first.Goals as goal

pub write_first-written-requires : goal.write_first-written-requires
write_first-written-requires g c =
    wrote-front _ _ _ _ c.first_line-first.ensures.2 c.first_line-first.ensures.3 (omega (arith, c.first_line-first.ensures.4)) ∙ ap (first_line c.args.input.now) c.requires

pub returns : goal.returns
returns g c =
    let n = c.first_line-first.result.length in
    let line : take n c.first_line-first.new.out ≡ first_line c.args.input.now (length c.args.records.now) =
    wrote-front _ _ _ _ c.first_line-first.ensures.2 c.first_line-first.ensures.3 (omega (arith, c.first_line-first.ensures.4)) in record {
      solutions_value = (
        c.first_line-first.ensures.1 ∙ ap (λ n. count_of (listed c.args.input.now n).0) c.requires,
        c.first_line-first.ensures.0 ∙ ap (λ n. (listed c.args.input.now n).1) c.requires,
      );
      length_value = (
        c.write_first-written.ensures ∙ ap length line ∙ ap (λ n. length (first_line c.args.input.now n)) c.requires,
        omega (arith, c.write_first-written.ensures ∙ ap length line, c.first_line-first.ensures.3, c.first_line-first.ensures.4),
      );
    }
