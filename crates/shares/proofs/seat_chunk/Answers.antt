use mathlib.Core.Path.{refl}
use Rattle.shares.proofs.Seating.{chunk_seated}
use Rattle.shares.proofs.seat_chunk.Goals as goal

pub returns : goal.returns
returns c =
    chunk_seated _ _ _ c.args.width c.args.from _ _ _ c.requires.1.1.0 c.requires.1.1.1 c.load.ensures refl c.fences.ensures
