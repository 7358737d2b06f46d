use Rattle.sides.specs.Sides.{chunk_of}
use Rattle.sides.proofs.chunk_at.Goals as goal

pub returns-then-pages : goal.returns-then-pages
unfolding chunk_of
returns-then-pages c = rw c.if-pages.true c.page_chunk.ensures

pub returns : goal.returns
unfolding chunk_of
returns c = rw (c.if-pages.false, c.block_chunk.ensures)
