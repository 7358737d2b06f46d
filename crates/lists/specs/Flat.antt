-- One work array for the place lists of all levels: each level has a part of it, by how far it lies above level h.
use Rattle.std.specs.Prelude.{ℕ, zero, suc, ◌-◌, List}
use Rattle.pieces.specs.Pieces.{part}

-- Level h has the 2,048 entries from the first on, level h − 1 the 1,024 behind them, level h − 2 the last 1,024: K(h) is at most 1,024, each
-- K is at most half of the next, and within a call no list has more than 2 × K(i) entries.
abbrev pub start_above : ℕ → ℕ
start_above zero = 0
start_above (suc zero) = 2048
start_above (suc (suc k)) = 3072

abbrev pub room_above : ℕ → ℕ
room_above zero = 2048
room_above (suc k) = 1024

-- where the part of level i begins, of the levels 1 to h, and how many entries it has
unfoldable pub part_start : ℕ → ℕ → ℕ
part_start h i = start_above (h - i)

unfoldable pub part_room : ℕ → ℕ → ℕ
part_room h i = room_above (h - i)

-- the part of level i
unfoldable pub part_of : ℕ → List ℕ → ℕ → List ℕ
part_of h lists i = part lists (part_start h i) (part_room h i)
