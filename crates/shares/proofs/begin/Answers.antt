use Prim.Native.Nat.{◌*◌, ◌%◌}
use mathlib.Core.Path.{refl, ap}
use native.Mathlib.Omega.{arith}
use lib.ListN.{length-set}
use Rattle.chunks.specs.declared.Chunk.{Chunk}
use Rattle.directory.proofs.Laws.{chunk_room}
use Rattle.shares.proofs.Rows.{filled_set, marks_show}
use Rattle.shares.proofs.begin.Goals as goal

pub loop-i-init : goal.loop-i-init
loop-i-init c = (omega arith, (refl, (refl, (λ j l. absurd (omega arith), λ j l. absurd (omega arith)))))

pub chunk_at-chunk-requires : goal.chunk_at-chunk-requires
chunk_at-chunk-requires c = (c.requires.0.within, omega arith)

pub overflow_cast-starts : goal.overflow_cast-starts
overflow_cast-starts c =
    let f = c.requires.0 in
    let r = chunk_room _ _ f.within _ c.loop-i-test.true in
    record { fits = rw c.chunk_at-chunk.ensures (omega (arith, r.0, f.within.short)) }

pub bounds-starts-i : goal.bounds-starts-i
bounds-starts-i c = let p = c.requires.1.0 in omega (arith, c.loop-i.invariant.1.0, c.loop-i-test.true)

pub bounds-gone-i : goal.bounds-gone-i
bounds-gone-i c = let p = c.requires.1.1 in omega (arith, c.loop-i.invariant.1.1.0, c.loop-i-test.true)

pub loop-i-preserved : goal.loop-i-preserved
loop-i-preserved c =
    let l = c.loop-i in
    let v = l.invariant in
    let p = c.requires.1 in (
      omega arith,
      (
        simp length-set v.1.0,
        (
          simp length-set v.1.1.0,
          (
            filled_set _ l.starts l.i _ (omega (arith, v.1.0, p.0)) (ap (λ (h : Chunk). h.keys) c.chunk_at-chunk.ensures) v.1.1.1.0,
            filled_set _ l.gone l.i _ (omega (arith, v.1.1.0, p.1)) (ap (λ (h : Chunk). h.marks % 65536 * 2) c.chunk_at-chunk.ensures) v.1.1.1.1,
          ),
        ),
      ),
    )

pub shape_of-starts : goal.shape_of-starts
shape_of-starts c = c.loop-i.invariant.1.0

pub shape_of-gone : goal.shape_of-gone
shape_of-gone c = c.loop-i.invariant.1.1.0

pub returns : goal.returns
returns c =
    let v = c.loop-i.invariant in
    (marks_show _ _ _ c.requires.0 (λ j h. v.1.1.1.1 j (omega arith)), record { room = omega (arith, v.1.0, c.requires.1.0); start = λ j h. v.1.1.1.0 j (omega arith) })
