-- What a store says but its blocks, in two halves: a merge changes level 0 at once, the lists wait in a work array for its end.
use Rattle.std.specs.Prelude.{◌+◌, List, [], ◌∷◌, map, length}
use Rattle.layout.specs.declared.Layout.{Layout}
use Rattle.levels.specs.Record.{Level}
use Rattle.levels.specs.Store.{Store}
use Rattle.pieces.specs.Pieces.{Piece, piece}
use Rattle.words.specs.Stores.{pad, top_pieces, list_pieces}

-- live, c and level 0
abbrev pub top_part : Layout → Store → List Piece
top_part z s = piece z.live (s.live ∷ []) ∷ piece z.count (length s.top ∷ []) ∷ top_pieces z s.top

-- hand, the block counts and the lists
abbrev pub list_part : Layout → Store → List Piece
list_part z s = piece z.hand (s.cursor ∷ []) ∷ piece (z.count + 1) (pad 3 (map (λ (l : Level). length l) s.levels)) ∷ list_pieces z 1 s.levels
