use borrow.Author.Tests.{lt-leb, le-leb}
use Rattle.directory.specs.Directory.{kept_of}
use Rattle.directory.proofs.kept.Goals as goal
use Rattle.directory.proofs.kept.Goals.{then-n-lt1-via-then-n-lt1, then-n-lt1-via-else-n-lt1+then-width-n}

pub returns-then-n-lt1 : goal.returns-then-n-lt1
unfolding kept_of
returns-then-n-lt1 c =
    elim c.then-n-lt1.branch [
      | then-n-lt1-via-then-n-lt1 w ↦ rw (lt-leb 1 _ w.if-n-lt1.true)
      | then-n-lt1-via-else-n-lt1+then-width-n w ↦ rw (le-leb 1 _ w.if-n-lt1.false, lt-leb _ _ w.if-width-n.true)
    ]

pub returns-then-dir-before : goal.returns-then-dir-before
unfolding kept_of
returns-then-dir-before c = rw (le-leb 1 _ c.if-n-lt1.false, le-leb _ _ c.if-width-n.false, c.if-dir-before.true)

pub returns-then-dir-chunk : goal.returns-then-dir-chunk
unfolding kept_of
returns-then-dir-chunk c =
    rw (le-leb 1 _ c.if-n-lt1.false, le-leb _ _ c.if-width-n.false, c.if-dir-before.false, c.if-dir-chunk.true)

pub returns-then-zeros : goal.returns-then-zeros
unfolding kept_of
returns-then-zeros c =
    rw (le-leb 1 _ c.if-n-lt1.false, le-leb _ _ c.if-width-n.false, c.if-dir-before.false, c.if-dir-chunk.false, ← c.zeros.ensures, c.if-zeros.true) c.zeros-then-zeros.ensures

pub returns-else-zeros : goal.returns-else-zeros
unfolding kept_of
returns-else-zeros c =
    rw (le-leb 1 _ c.if-n-lt1.false, le-leb _ _ c.if-width-n.false, c.if-dir-before.false, c.if-dir-chunk.false, ← c.zeros.ensures, c.if-zeros.false)
