-- Document 01, "Why a call is turned down", reasons 1 to 3: what the first look at lent words gives.
use Rattle.std.specs.Prelude.{ℕ, zero, suc, ◌≡◌, List, length, Result, Ok, Err}
use Rattle.geometry.specs.declared.Geometry.{Geometry}
use Rattle.geometry.specs.declared.Refusal.{Refusal}
use Rattle.geometry.specs.declared.Refusal.TheVariants.{TooShort, BrokenLimit, WrongLength, Damaged}
use Rattle.layout.specs.declared.Layout.{Layout}
use Rattle.layout.specs.Layouts.{old, geometry_at, layout_at, size_reason, Fitted}

-- a layout that there is no reason (0) to turn down, or the reason by its number, 1 to 4
abbrev pub pick_opened : ℕ → Layout → Result Layout Refusal
pick_opened zero z = Ok z
pick_opened (suc zero) z = Err TooShort
pick_opened (suc (suc zero)) z = Err BrokenLimit
pick_opened (suc (suc (suc zero))) z = Err WrongLength
pick_opened (suc (suc (suc (suc n)))) z = Err Damaged

-- the layout of the geometry g for n words, as format is given them
unfoldable pub fit_of : ℕ → Geometry → Result Layout Refusal
fit_of n g = pick_opened (size_reason n g) (old g)

-- the layout that lent words give
unfoldable pub opened_of : List ℕ → Result Layout Refusal
opened_of ws = fit_of (length ws) (geometry_at ws)

-- what `Ok z` says of lent words, as facts: z is theirs, and they are as long as it
pub record Sized (z : Layout) (ws : List ℕ) : Type 0 where
  pub layout : z ≡ layout_at ws
  pub fitted : Fitted z ws
