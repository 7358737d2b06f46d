use mathlib.Core.Path.{◌≡◌, refl}
use native.Mathlib.Omega.{arith}
use Rattle.levels.specs.Map.{unmarked}
use Rattle.shares.specs.Shadow.{shadow_from}
use Rattle.shares.proofs.Rows.{Counts, counts_of_lem}
use Rattle.shares.proofs.shown.Goals as goal
use Rattle.shares.proofs.shown.Goals.{After-chunk_at-chunk}

pub loop-i-init : goal.loop-i-init
unfolding shadow_from unmarked
loop-i-init c = (omega arith, (omega arith, refl))

pub chunk_at-chunk-requires : goal.chunk_at-chunk-requires
chunk_at-chunk-requires c = (c.requires.0.within, omega arith)

-- what holds where the chunk is known
counts : (c : After-chunk_at-chunk)
    → let a = c.args in
    Counts a.s.now a.dir a.gone.now c.loop-i.i c.chunk_at-chunk.result
counts c =
    counts_of_lem c.args.s.now c.args.dir c.args.gone.now c.loop-i.i c.requires.0 (omega arith) c.chunk_at-chunk.result c.chunk_at-chunk.ensures

pub overflow_cast-used : goal.overflow_cast-used
overflow_cast-used c = record { fits = omega (arith, (counts (goal.at.overflow_cast-used c).After-chunk_at-chunk).few) }

pub overflow_shl-used : goal.overflow_shl-used
overflow_shl-used c = omega (arith, (counts (goal.at.overflow_shl-used c).After-chunk_at-chunk).few)

pub overflow_cast-total : goal.overflow_cast-total
overflow_cast-total c = let w = counts (goal.at.overflow_cast-total c).After-chunk_at-chunk in record { fits = omega (arith, w.few, w.hidden_few) }

pub overflow_sub-total : goal.overflow_sub-total
overflow_sub-total c = (counts (goal.at.overflow_sub-total c).After-chunk_at-chunk).hidden_few

pub overflow_add-total : goal.overflow_add-total
overflow_add-total c = let h = c.requires.0.within.chunks_high in record { fits = omega (arith, (counts (goal.at.overflow_add-total c).After-chunk_at-chunk).few) }

pub loop-i-preserved : goal.loop-i-preserved
loop-i-preserved c = let l = c.loop-i in let w = counts (goal.at.loop-i-preserved c).After-chunk_at-chunk in (omega arith, (omega (arith, w.few), w.more l.total l.invariant.1.1))

pub returns : goal.returns
returns c =
    let l = c.loop-i in
    let h = c.requires.0.within.chunks_high in
    let e : l.i ≡ c.args.dir.chunks = omega arith in
    (rw e at l.invariant.1.1, omega arith)
