-- What words hold of a store while its place lists stand apart from them.
use Rattle.std.specs.Prelude.{ℕ, ◌≡◌, List, length}
use Rattle.layout.specs.declared.Layout.{Layout}
use Rattle.levels.specs.Store.{Store}
use Rattle.levels.specs.Every.{Every}
use Rattle.pieces.specs.Pieces.{Held}
use Rattle.words.specs.Stores.{geometry_from}
use Rattle.words.specs.Halves.{top_part}
use Rattle.words.specs.Passed.{Standing}

-- The words hold the store, but for the cursor, the block counts and the place lists.
pub record HoldsBut (z : Layout) (ws : List ℕ) (t : Store) : Type 0 where
  pub long : length ws ≡ z.length
  pub six : geometry_from ws z.six ≡ z.geo
  pub held : Every (Held ws) (top_part z t)
  pub standing : Standing z ws t.levels
