use native.Mathlib.Omega.{arith}
use Rattle.blocks.proofs.Laws.{in_store, ends}
use Rattle.joins.proofs.append_block.Goals as goal

pub word-n-requires : goal.word-n-requires
word-n-requires c = rw c.place_start-at.ensures (omega (arith, in_store c.args.z c.args.s.now c.requires.sized c.args.q 0 c.requires.place (omega arith)))

pub append_words-requires : goal.append_words-requires
append_words-requires c =
    let f = c.requires.few in
    let b = c.requires.sized.b_high in
    rw (c.word-n.ensures.0, c.place_start-at.ensures) (ends c.args.z c.args.s.now c.requires.sized c.args.q c.requires.place, omega arith, b, omega arith, c.requires.clean)

pub returns : goal.returns
returns c = rw (c.append_words.ensures, c.word-n.ensures.0, c.place_start-at.ensures)
