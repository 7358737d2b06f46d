use Rattle.std.proofs.Common.{arith}
use Rattle.search.proofs.Laws.{chunk_ready, rank_ready}
use Rattle.search.proofs.Enclose.{enclosed_empty, enclosed_read}
use Rattle.search.proofs.enclosing.Goals as goal

pub returns-then-dir-eq0 : goal.returns-then-dir-eq0
returns-then-dir-eq0 c = rw (enclosed_empty c.args.s.now c.args.dir c.args.k (omega (arith, c.if-dir-eq0.true)))

pub word-first-requires : goal.word-first-requires
word-first-requires c =
    let p = chunk_ready _ _ c.requires.0 _ c.seek_chunk-i.ensures.inside _ c.chunk_at-chunk.ensures in
    omega (arith, p.0.keys_end, p.1.0)

pub count_below-below-requires : goal.count_below-below-requires
count_below-below-requires c = let p = rank_ready _ _ c.requires.0 _ c.seek_chunk-i.ensures.inside _ c.chunk_at-chunk.ensures in (p.0, (p.1, c.requires.1))

pub returns-then-held : goal.returns-then-held
returns-then-held c =
    rw (enclosed_read c.args.s.now c.args.dir c.args.k c.requires.0 _ c.seek_chunk-i.ensures _ c.chunk_at-chunk.ensures _ _ c.word-first.ensures.0 c.count_below-below.ensures, c.if-held.true)

pub returns : goal.returns
returns c =
    rw (enclosed_read c.args.s.now c.args.dir c.args.k c.requires.0 _ c.seek_chunk-i.ensures _ c.chunk_at-chunk.ensures _ _ c.word-first.ensures.0 c.count_below-below.ensures, c.if-held.false)
