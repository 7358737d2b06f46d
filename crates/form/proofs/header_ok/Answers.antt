use native.Mathlib.Omega.{arith}
use Rattle.layout.proofs.Laws.{fitted_count, fitted_hand, fitted_live, fitted_spots}
use Rattle.form.proofs.Steps.{header_is}
use Rattle.form.proofs.header_ok.Goals as goal

pub word-live-requires : goal.word-live-requires
word-live-requires c = omega (arith, fitted_live _ _ c.requires)

pub word-hand-requires : goal.word-hand-requires
word-hand-requires c = omega (arith, fitted_hand _ _ c.requires)

pub word-records-requires : goal.word-records-requires
word-records-requires c = omega (arith, fitted_count _ _ c.requires)

pub overflow_add-c : goal.overflow_add-c
overflow_add-c c = omega (arith, fitted_spots _ _ c.requires)

pub word-n1-requires : goal.word-n1-requires
word-n1-requires c = omega (arith, fitted_count _ _ c.requires)

pub overflow_add-c-2 : goal.overflow_add-c-2
overflow_add-c-2 c = omega (arith, fitted_spots _ _ c.requires)

pub word-n2-requires : goal.word-n2-requires
word-n2-requires c = omega (arith, fitted_count _ _ c.requires)

pub overflow_add-c-3 : goal.overflow_add-c-3
overflow_add-c-3 c = omega (arith, fitted_spots _ _ c.requires)

pub word-n3-requires : goal.word-n3-requires
word-n3-requires c = omega (arith, fitted_count _ _ c.requires)

pub returns : goal.returns
returns c = rw (← header_is c.args.z c.args.s.now, c.word-live.ensures.0, c.word-hand.ensures.0, c.word-records.ensures.0, c.word-n1.ensures.0, c.word-n2.ensures.0, c.word-n3.ensures.0, c.room_of-k1.ensures, c.room_of-k2.ensures, c.room_of-k3.ensures, c.top_capacity-room.ensures, c.places-places.ensures, c.key_limit-most.ensures)
