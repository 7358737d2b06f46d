use Rattle.std.proofs.Common.{◌∙◌, sym, eq-eqb, ne_eqb}
use Rattle.slices.proofs.Ranks.{search_found, search_above}
use Rattle.slices.proofs.rank_of.Goals as goal

pub returns-then-key-k : goal.returns-then-key-k
returns-then-key-k c =
    let e = c.count_below-below.ensures in
    let f = search_found c.args.k c.args.from c.args.n c.args.s.now c.requires.0 c.requires.1.0 _ e c.if-below-n.true in
    rw (sym f ∙ eq-eqb _ _ (sym c.word-key.ensures.0 ∙ c.if-key-k.true), e)

pub returns-else-key-k : goal.returns-else-key-k
returns-else-key-k c =
    let e = c.count_below-below.ensures in
    let f = search_found c.args.k c.args.from c.args.n c.args.s.now c.requires.0 c.requires.1.0 _ e c.if-below-n.true in
    rw (sym f ∙ ne_eqb _ _ (λ g. c.if-key-k.false (c.word-key.ensures.0 ∙ g)), e)

pub returns-else-below-n : goal.returns-else-below-n
returns-else-below-n c =
    let e = c.count_below-below.ensures in
    rw (sym (search_above c.args.k c.args.from c.args.n c.args.s.now c.requires.0 c.requires.1.0 (rw (← e) c.if-below-n.false)), e)
