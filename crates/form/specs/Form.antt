-- The form check as the code goes over the words: the sizes, the place lists with their marks, the spare words of level 0,
-- one pass over each level, and a walk over all of them. The law `formed_is` says that this is document 01's form check, clause by clause.
use Rattle.std.specs.Prelude.{ℕ, zero, suc, ◌+◌, ◌-◌, ◌*◌, Bool, true, false, not, ◌&&◌, List, [], ◌∷◌, ◌≡◌, ltb, eqb, length, get_or, set, replicate}
use Rattle.geometry.specs.Geometry.{capacity_of}
use Rattle.levels.specs.Basics.{ceil_div}
use Rattle.levels.specs.Map.{unmarked}
use Rattle.words.specs.Stores.{word, live_at, top_count_at, count_at}
use Rattle.words.specs.Form.{live_fits, cursor_inside, top_fits, counts_fit}
use Rattle.layout.specs.Layouts.{Fitted, list_start}
use Rattle.chunks.specs.Chunks.{zeros_at}
use Rattle.directory.specs.declared.Directory.{Directory}
use Rattle.directory.specs.Directory.{level_formed}
use Rattle.walk.specs.Walk.{layered}
use Rattle.layout.specs.declared.Layout.{Layout}

-- level 0: pages of B records
unfoldable pub top_of : Layout → List ℕ → Directory
top_of z ws = record {
  top = true;
  bottom = false;
  width = z.geo.b;
  chunks = ceil_div (top_count_at z ws) z.geo.b;
  list = z.marks;
  base = z.keys;
  pays = z.pays;
  records = top_count_at z ws;
}

-- level i, from 1 on
unfoldable pub level_of : Layout → List ℕ → ℕ → Directory
level_of z ws i = record {
  top = false;
  bottom = eqb i z.geo.h;
  width = z.geo.b;
  chunks = count_at z ws i;
  list = list_start z i;
  base = z.places;
  pays = 0;
  records = 0;
}

-- the four levels
abbrev pub levels_of : Layout → List ℕ → List Directory
levels_of z ws = top_of z ws ∷ level_of z ws 1 ∷ level_of z ws 2 ∷ level_of z ws 3 ∷ []

-- the size words are within their limits
unfoldable pub header_ok : Layout → List ℕ → Bool
header_ok z ws = live_fits z ws && (cursor_inside z ws && (top_fits z ws && counts_fit z ws))

-- the n places listed from word `start` on are below p, not marked as used, and none twice
unfoldable pub fresh_of : List ℕ → ℕ → ℕ → ℕ → List Bool → Bool
fresh_of ws p start zero used = true
fresh_of ws p start (suc n) used =
    ltb (word ws start) p && (not (get_or used (word ws start) false) && fresh_of ws p (suc start) n (set used (word ws start) true))

-- the marks with those places added
unfoldable pub mark_of : List ℕ → ℕ → ℕ → List Bool → List Bool
mark_of ws start zero used = used
mark_of ws start (suc n) used = mark_of ws (suc start) n (set used (word ws start) true)

-- the lists of n levels from level i on: their places, and their unused entries
unfoldable pub lists_from : Layout → List ℕ → ℕ → ℕ → List Bool → Bool
lists_from z ws i zero used = true
lists_from z ws i (suc n) used =
    fresh_of ws z.geo.p (list_start z i) (count_at z ws i) used
    && (zeros_at ws (list_start z i + count_at z ws i) (capacity_of z.geo i - count_at z ws i)
    && lists_from z ws (suc i) n (mark_of ws (list_start z i) (count_at z ws i) used))

-- no mark is set at first
unfoldable pub lists_ok : Layout → List ℕ → Bool
lists_ok z ws = lists_from z ws 1 z.geo.h (replicate 8192 false)

-- the words of level 0 behind its pages
unfoldable pub spare_ok : Layout → List ℕ → Bool
spare_ok z ws =
    let n = (top_of z ws).chunks in
    let left = capacity_of z.geo 0 - n in
    zeros_at ws (z.marks + n) left
    && (zeros_at ws (z.keys + n * z.geo.b) (left * z.geo.b) && zeros_at ws (z.pays + n * z.geo.b) (left * z.geo.b))

-- the whole check, in the code's order
unfoldable pub passed : Layout → List ℕ → Bool
passed z ws =
    header_ok z ws
    && (lists_ok z ws
    && (spare_ok z ws
    && (level_formed ws (top_of z ws)
    && (level_formed ws (level_of z ws 1)
    && (level_formed ws (level_of z ws 2)
    && (level_formed ws (level_of z ws 3)
    && eqb (live_at z ws) (length (unmarked (layered ws (levels_of z ws))))))))))

-- a store whose size words are within their limits
pub record Headed (z : Layout) (ws : List ℕ) : Type 0 where
  pub sized : Fitted z ws
  pub header : header_ok z ws ≡ true
