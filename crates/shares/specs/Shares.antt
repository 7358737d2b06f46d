-- The live keys counted level by level. A key is live exactly if some level has it in a record that is no tombstone, and no level above
-- has it at all. So each level has a share in the number of live keys: its records that are no tombstones and whose key stands
-- in no level above. The law `live_shares` says that these add up to `live_count`, for any number of levels.
use Rattle.std.specs.Prelude.{ℕ, ◌+◌, ◌||◌, List, [], ◌∷◌, ◌++◌, length}
use Rattle.slices.specs.Ranks.{among}
use Rattle.levels.specs.Record.{Rec}
use Rattle.levels.specs.Map.{unmarked}
use Rattle.words.specs.Stores.{keys_of}

-- a record under these keys: it shows no longer if its key is one of them
abbrev pub under : List ℕ → Rec → Rec
under ks r = record { key = r.key; tombstone = r.tombstone || among r.key ks; pay = r.pay }

-- records under these keys
unfoldable pub hide : List ℕ → List Rec → List Rec
hide ks [] = []
hide ks (r ∷ rs) = under ks r ∷ hide ks rs

-- the shares of levels, the upper ones first, with these keys above them all
unfoldable pub shares_under : List ℕ → List (List Rec) → ℕ
shares_under ks [] = 0
shares_under ks (l ∷ ls) = length (unmarked (hide ks l)) + shares_under (ks ++ keys_of l) ls
