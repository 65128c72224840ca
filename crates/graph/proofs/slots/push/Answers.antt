-- A record is written over a slot's bytes, if there is a slot left.
use native.Mathlib.Omega.{arith}
use mathlib.Core.Path.{sym}
use Rattle.graph.proofs.PushedLaws.{record-full}
use Rattle.graph.proofs.PushedRecords.{push-room}
use Rattle.graph.proofs.slots.push.Goals as goal

pub returns-then-n-slots : goal.returns-then-n-slots
returns-then-n-slots c = push-room _ _ _ _ _ c.if-n-slots.true c.solution_octets.ensures c.put_record.ensures

pub returns : goal.returns
returns c = sym (record-full _ _ _ _ (omega arith))
