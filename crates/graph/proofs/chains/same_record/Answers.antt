-- `same_record` meets its contract.
use mathlib.Core.Path.{ap, ◌∙◌}
use Rattle.spec.specs.Basics.{same_list}
use Rattle.graph.proofs.RecordWalkTurns.{own-size}
use Rattle.graph.proofs.chains.same_record.Goals as goal

pub same_words-requires : goal.same_words-requires
same_words-requires c = record { a_len = c.requires; b_len = own-size _ c.solution_octets-own.ensures }

pub returns : goal.returns
returns c = c.same_words.ensures ∙ ap (same_list c.args.given.now) c.solution_octets-own.ensures
