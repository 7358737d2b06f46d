use native.Mathlib.Omega.{arith}
use mathlib.Core.Path.{◌∙◌}
use Rattle.blocks.proofs.Laws.{search_first, search_here, search_on, after_by_low}
use borrow.Author.Rules.{rules}
use Rattle.blocks.proofs.first_free.Goals as goal

pub loop-q-init : goal.loop-q-init
loop-q-init c = (search rules, (omega (arith, c.requires.1), search_first _ _ _ c.requires.1))

pub bounds-used-q : goal.bounds-used-q
bounds-used-q c = rw c.place_after-q.ensures (omega (arith, c.requires.0, after_by_low c.args.p c.args.cursor c.loop-q.k c.requires.1 c.loop-q.invariant.1.0))

pub loop-q-preserved : goal.loop-q-preserved
loop-q-preserved c =
    let n = search_on _ _ c.args.cursor c.requires.1 c.requires.2 c.loop-q.k c.loop-q.invariant.0 c.loop-q.invariant.1.0 c.loop-q.invariant.1.1 (cc) in
    (omega arith, n)

pub returns : goal.returns
returns c = c.place_after-q.ensures ∙ search_here _ _ c.args.cursor c.requires.1 c.loop-q.k c.loop-q.invariant.0 c.loop-q.invariant.1.0 c.loop-q.invariant.1.1 (cc)
