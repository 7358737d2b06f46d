-- The fences that the words hold: of listed blocks, and of the pages of level 0.
use Rattle.std.specs.Prelude.{ℕ, ◌≤◌, ◌<◌, List, [], ◌++◌, drop, get_or}
use Rattle.levels.specs.Basics.{each}
use Rattle.levels.specs.Record.{new, pages}
use Rattle.words.specs.Stores.{word, record_count, block_at, top_recs}
use Rattle.choice.specs.declared.Fence.{Fence}
use Rattle.choice.specs.Fences.{fence_of}
use Rattle.layout.specs.declared.Layout.{Layout}

-- A list whose first n entries are f(0) .. f(n − 1), the others as before.
unfoldable pub fill : {A : Type 0} → (ℕ → A) → ℕ → List A → List A
fill f n xs = each f 0 n ++ drop n xs

-- the fence of the i-th block of a place list, and of page i of level 0
unfoldable pub listed_fence : Layout → List ℕ → List ℕ → ℕ → Fence
listed_fence z ws list i = fence_of (block_at z ws (word list i))

unfoldable pub page_fence : Layout → List ℕ → ℕ → Fence
page_fence z ws i = fence_of (get_or (pages z.geo.b (top_recs z ws)) i (new []))

-- a place whose block can be read: it is one of the P places, and its block has 1 to B records
pub record Readable (z : Layout) (ws : List ℕ) (place : ℕ) : Type 0 where
  pub inside : place < z.geo.p
  pub filled : 1 ≤ record_count z ws place
  pub fits : record_count z ws place ≤ z.geo.b
