-- Document 01, "Show": where the part that it gives back lies in the lent store.
use Rattle.std.specs.Prelude.{ℕ, true, false, List}
use Rattle.std.proofs.Math.Option.{Option, none, some}
use Rattle.geometry.specs.Geometry.{block_width, within}
use Rattle.levels.specs.Record.{Block}
use Rattle.words.specs.Stores.{level_at, place_of}
use Rattle.words.specs.Calls.{enclosing}
use Rattle.reader.specs.declared.Part.{Part}
use Rattle.layout.specs.Layouts.{place_start}
use Rattle.layout.specs.declared.Layout.{Layout}

-- "an empty part"
abbrev pub empty_part : Part
empty_part = record { start = 0; length = 0 }

-- "the words of the block .., given back as that part of the lent store": the 2 + 2B words of its place
abbrev pub block_part : Layout → Option Block → Part
block_part z none = empty_part
block_part z (some b) = record { start = place_start z (place_of b); length = block_width z.geo }

-- "of level i, 1 to h, .. the block whose first to last key encloses k"; "an empty part if there is none, i is another number"
unfoldable pub show_part_in : Layout → List ℕ → ℕ → ℕ → Part
show_part_in z ws i k = elim (within 1 z.geo.h i) [ true ↦ block_part z (enclosing k (level_at z ws i)) | false ↦ empty_part ]
