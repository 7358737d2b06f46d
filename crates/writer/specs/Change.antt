-- Put and delete: what their parts do.
use Rattle.std.specs.Prelude.{ℕ, ◌≡◌, Bool, false, not, ◌||◌, List, ltb, set, Option, Some, None, Result, is_ok}
use Rattle.geometry.specs.Geometry.{top_capacity_of}
use Rattle.levels.specs.Record.{Rec}
use Rattle.levels.specs.Call.{Merge, after_merges}
use Rattle.levels.specs.Put.{insert, merges_for, with_record}
use Rattle.levels.specs.Count.{counts_of}
use Rattle.words.specs.Stores.{top_count_at, top_recs, store_at}
use Rattle.words.specs.Calls.{left_words}
use Rattle.search.specs.declared.Held.{Held}
use Rattle.top.specs.Top.{with_top}
use Rattle.steps.specs.Running.{Tally, numbers_of, counts_in}
use Rattle.layout.specs.declared.Layout.{Layout}

-- a tombstone or no record is not live
abbrev pub live_found : Option Held → Bool
live_found None = false
live_found (Some h) = not h.mark

-- "a key found in level 0 is overwritten there; otherwise, if c = K(0)×B, level 0 is merged first": it need not be, by
-- where the key stands
unfoldable pub room_at : Layout → List ℕ → Result ℕ ℕ → Bool
room_at z ws at = is_ok at || ltb (top_count_at z ws) (top_capacity_of z.geo)

-- the words with a record entered in level 0 and live as it is then
unfoldable pub with_entered : Layout → List ℕ → Rec → ℕ → List ℕ
with_entered z ws r live = set (with_top z ws (insert r (top_recs z ws))) z.live live

-- the three counts of levels 1 to 3 are those of these merges
pub record Counted (t : Tally) (ms : List Merge) : Type 0 where
  pub one : numbers_of (counts_in t 0) ≡ counts_of 1 ms
  pub two : numbers_of (counts_in t 1) ≡ counts_of 2 ms
  pub three : numbers_of (counts_in t 2) ≡ counts_of 3 ms

-- a record entered after the merges that make room for it
pub record Entered (z : Layout) (ws : List ℕ) (r : Rec) (live : ℕ) (t : Tally) (out : List ℕ) : Type 0 where
  pub words : let s = store_at z ws in let ms = merges_for z.geo s r.key in out ≡ left_words z ws ms (with_record r live (after_merges s ms))
  pub counts : Counted t (merges_for z.geo (store_at z ws) r.key)
