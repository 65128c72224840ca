-- `list_accepted` meets its contract: search, sort and zeros, one after the other.
use native.Mathlib.Omega.{arith}
use Rattle.graph.proofs.ListLaws.{full-answer, count-answer, room_fits, few}
use Rattle.graph.proofs.list_accepted.Goals as goal

pub search-n-requires : goal.search-n-requires
search-n-requires c = record { room = record { room = room_fits _ _ c.slots_of-room.ensures; most = omega arith } }

pub returns-then-room-n : goal.returns-then-room-n
returns-then-room-n c = full-answer _ c.args.opened.now.ready.ok _ _ _ _ _ _ _ c.slots_of-room.ensures c.search-n.ensures.state c.if-room-n.true c.zero.ensures

pub overflow_mul-n : goal.overflow_mul-n
overflow_mul-n c = omega (arith, few _ _ _ c.slots_of-room.ensures c.search-n.ensures.most)

pub returns : goal.returns
returns c = count-answer _ c.args.opened.now.ready.ok _ _ _ _ _ _ _ _ c.slots_of-room.ensures c.search-n.ensures.state c.if-room-n.false c.sort.ensures c.zero-2.ensures
