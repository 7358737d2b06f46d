use Rattle.std.proofs.Common.{arith}
use Rattle.search.proofs.Laws.{empty_level, rank_ready, level_here, level_absent}
use Rattle.search.proofs.find_in.Goals as goal

pub returns-then-dir-eq0 : goal.returns-then-dir-eq0
returns-then-dir-eq0 c = rw (empty_level c.args.s.now c.args.dir c.args.k (omega (arith, c.if-dir-eq0.true)))

pub rank_of-requires : goal.rank_of-requires
rank_of-requires c = let p = rank_ready _ _ c.requires.0 _ c.seek_chunk-i.ensures.inside _ c.chunk_at-chunk.ensures in (p.0, (p.1, c.requires.1))

pub returns-in_default : goal.returns-in_default
returns-in_default c =
    rw (level_absent _ _ c.requires.0 _ _ c.seek_chunk-i.ensures _ c.chunk_at-chunk.ensures _ c.in_default.ensures)

pub overflow_cast-result : goal.overflow_cast-result
overflow_cast-result c =
    omega (arith, (level_here _ _ c.requires.0 _ _ c.seek_chunk-i.ensures _ c.chunk_at-chunk.ensures _ c.in-Ok.ensures).0)

pub overflow_shr-result : goal.overflow_shr-result
overflow_shr-result c =
    omega (arith, (level_here _ _ c.requires.0 _ _ c.seek_chunk-i.ensures _ c.chunk_at-chunk.ensures _ c.in-Ok.ensures).0)

pub overflow_add-result : goal.overflow_add-result
overflow_add-result c =
    omega (arith, (level_here _ _ c.requires.0 _ _ c.seek_chunk-i.ensures _ c.chunk_at-chunk.ensures _ c.in-Ok.ensures).1, c.requires.0.within.short)

pub offset_bounds-s-chunk : goal.offset_bounds-s-chunk
offset_bounds-s-chunk c =
    omega (arith, (level_here _ _ c.requires.0 _ _ c.seek_chunk-i.ensures _ c.chunk_at-chunk.ensures _ c.in-Ok.ensures).1, c.requires.0.within.short)

pub bounds-s-chunk : goal.bounds-s-chunk
bounds-s-chunk c = (level_here _ _ c.requires.0 _ _ c.seek_chunk-i.ensures _ c.chunk_at-chunk.ensures _ c.in-Ok.ensures).1

pub returns : goal.returns
returns c = rw ((level_here _ _ c.requires.0 _ _ c.seek_chunk-i.ensures _ c.chunk_at-chunk.ensures _ c.in-Ok.ensures).2)
