-- What every call begins with.
use Rattle.std.specs.Prelude.{ℕ, List, Result}
use Rattle.geometry.specs.declared.Refusal.{Refusal}
use Rattle.layout.specs.declared.Layout.{Layout}
use Rattle.layout.specs.Opening.{pick_opened}
use Rattle.words.specs.Stores.{layout_at}
use Rattle.words.specs.Form.{reason_of}

-- the layout of lent words that pass, or why they are turned down
unfoldable pub checked_of : List ℕ → Result Layout Refusal
checked_of ws = pick_opened (reason_of ws) (layout_at ws)
