-- What the parts of format write.
use Rattle.std.specs.Prelude.{ℕ, ◌-◌, List, [], ◌∷◌, get_or}
use Rattle.layout.specs.declared.Layout.{Layout}
use Rattle.pieces.specs.Pieces.{piece, lay_all}

-- "the six of the geometry and hand = P − 1", over other words: P is the sixth
unfoldable pub headed : Layout → List ℕ → List ℕ → List ℕ
headed z six ws = lay_all (piece z.six six ∷ piece z.hand ((get_or six 5 0 - 1) ∷ []) ∷ []) ws
