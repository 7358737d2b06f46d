-- A list of records without its first, where that has a given key: the turns of a walk over levels side by side.
use Rattle.std.specs.Prelude.{ℕ, Bool, true, false, List, [], ◌∷◌, eqb}
use Rattle.levels.specs.Basics.{if◌then◌otherwise◌}
use Rattle.levels.specs.Record.{Rec}

-- the list without its first record, where that has key k
unfoldable pub past : ℕ → List Rec → List Rec
past k [] = []
past k (r ∷ rs) = if eqb r.key k then rs otherwise (r ∷ rs)

-- what a record counts among the live ones: a tombstone nothing
abbrev pub live_bit : Bool → ℕ
live_bit true = 0
live_bit false = 1
