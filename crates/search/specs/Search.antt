-- The answers of the searches in a level.
use Rattle.std.specs.Prelude.{ℕ, zero, suc, ◌+◌, ◌≤◌, ◌<◌, Bool, List, Option, Some, None}
use Rattle.std.proofs.Math.Option.{none, some}
use Rattle.std.proofs.Math.Option as math
use Rattle.levels.specs.Basics.{if◌then◌otherwise◌}
use Rattle.geometry.specs.Geometry.{within}
use Rattle.levels.specs.Record.{Rec, first_key, last_key}
use Rattle.words.specs.Stores.{word}
use Rattle.chunks.specs.Chunks.{chunk_recs}
use Rattle.directory.specs.declared.Directory.{Directory}
use Rattle.directory.specs.Directory.{chunk_at}
use Rattle.search.specs.declared.Held.{Held}

-- the answer for the record with a key
abbrev pub found_of : math.Option Rec → Option Held
found_of none = None
found_of (some r) = Some (record { mark = r.tombstone; pay = r.pay })

-- the first key of chunk i
unfoldable pub first_at : List ℕ → Directory → ℕ → ℕ
first_at ws d i = word ws (chunk_at ws d i).keys

-- r is the last chunk whose first key is not above k, or the first chunk
pub record Sought (ws : List ℕ) (d : Directory) (k r : ℕ) : Type 0 where
  pub inside : r < d.chunks
  pub starts : 1 ≤ r → first_at ws d r ≤ k
  pub next_starts : r + 1 < d.chunks → k < first_at ws d (r + 1)

-- "whose first to last key encloses k"
abbrev pub encloses : ℕ → List Rec → Bool
encloses k rs = within (first_key rs) (last_key rs) k

-- the first of the n chunks from chunk i on that encloses k
unfoldable pub enclosed_from : List ℕ → Directory → ℕ → ℕ → ℕ → Option ℕ
enclosed_from ws d k i zero = None
enclosed_from ws d k i (suc n) = if encloses k (chunk_recs ws (chunk_at ws d i)) then Some i otherwise enclosed_from ws d k (suc i) n

-- the first chunk of a level that encloses k
unfoldable pub enclosed_of : List ℕ → Directory → ℕ → Option ℕ
enclosed_of ws d k = enclosed_from ws d k 0 d.chunks
