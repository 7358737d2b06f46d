-- Document 01, "Show": where the part that it gives back lies in the lent store.
use Rattle.std.specs.Prelude.{ℕ, true, false, List, eqb}
use Rattle.words.specs.Form.{reason_of}
use Rattle.reader.specs.declared.Part.{Part}
use Rattle.reader.specs.Show.{empty_part, show_part_in}
use Rattle.words.specs.Stores.{layout_at}

-- "or the store is turned down"
unfoldable pub show_part : List ℕ → ℕ → ℕ → Part
show_part ws i k = elim (eqb (reason_of ws) 0) [ true ↦ show_part_in (layout_at ws) ws i k | false ↦ empty_part ]
