use borrow.Author.Tests.{eq-eqb, ne_eqb}
use native.Mathlib.Omega.{arith}
use Rattle.stream.specs.Machine.{flushed}
use Rattle.blocks.proofs.Laws.{free_low}
use Rattle.stream.proofs.Desk.flush.Goals as goal

pub returns-then-n-eq0 : goal.returns-then-n-eq0
unfolding flushed
returns-then-n-eq0 c = rw (eq-eqb _ _ c.if-n-eq0.true)

pub bounds-self-q : goal.bounds-self-q
bounds-self-q c = rw c.first_free-q.ensures (omega (arith, free_low c.args.z.p c.args.z.p c.args.self.now.used c.args.self.now.st.cursor c.requires.cursor, c.requires.sized.places))

pub write_block-requires : goal.write_block-requires
write_block-requires c = (c.requires.sized, rw c.first_free-q.ensures (free_low c.args.z.p c.args.z.p c.args.self.now.used c.args.self.now.st.cursor c.requires.cursor), c.requires.full)

pub overflow_cast-self : goal.overflow_cast-self
overflow_cast-self c = rw c.first_free-q.ensures (omega (arith, free_low c.args.z.p c.args.z.p c.args.self.now.used c.args.self.now.st.cursor c.requires.cursor, c.requires.sized.places))

pub returns : goal.returns
unfolding flushed
returns c = rw (ne_eqb _ _ c.if-n-eq0.false, c.default-self.ensures, c.write_block.ensures.0, c.first_free-q.ensures)
