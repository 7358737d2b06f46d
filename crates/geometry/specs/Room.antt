-- How long the work arrays are that the code lends. The code's constants have the same values; a contract cannot name those.
use Rattle.std.specs.Prelude.{ℕ}

-- "P places for blocks, at most 8,192.": the marks of the places in use. In the code `Geometry::MAX_P` and `blocks::PLACES`.
abbrev pub places_most : ℕ
places_most = 8192

-- The entries of a work array of places. In the code `Geometry::LIST_ROOM` and `blocks::LIST_ROOM`.
abbrev pub list_room : ℕ
list_room = 4096
