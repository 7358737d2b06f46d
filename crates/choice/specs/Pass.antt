-- Card 4: the overlaps are counted in one pass over both lists of key ranges. As the run moves on by a block, both ends of the stretch below it move forward.
-- Here is a step of it; the whole pass is `pass_of` of proofs/Once.
use Rattle.std.specs.Prelude.{ℕ, suc, ◌+◌, ◌≤◌, ◌≡◌, List, [], ◌∷◌, ltb, drop}
use Rattle.slices.specs.Ranks.{count_below}
use Rattle.levels.specs.Basics.{if◌then◌otherwise◌}
use Rattle.choice.specs.declared.Stretch.{Stretch}
use Rattle.choice.specs.declared.Fence.{Fence}
use Rattle.choice.specs.Fences.{count_at_most, first_keys, last_keys}

-- An end moves forward over keys that are below a bound, one by one, up to the first that is not: how many moves that is.
unfoldable pub moves_of : ℕ → List ℕ → ℕ
moves_of bound [] = 0
moves_of bound (k ∷ ks) = if ltb k bound then suc (moves_of bound ks) otherwise 0

-- Both ends move on to a run from key lo to key hi: the lower one over the blocks that end below it, the upper one over those that do not start above it.
unfoldable pub move_on : ℕ → ℕ → List Fence → Stretch → Stretch
move_on lo hi under at = record {
  start = at.start + moves_of lo (drop at.start (last_keys under));
  end = at.end + moves_of (suc hi) (drop at.end (first_keys under));
}

-- "At each run": where the ends stand, `after`, for a run from key lo to key hi, and where they were moved from, `before`
pub record AtRun (lo hi : ℕ) (under : List Fence) (before after : Stretch) : Type 0 where
  -- it is the pass's step
  pub moved : after ≡ move_on lo hi under before
  -- "the lower end is shown to be the number of blocks below whose last key is below the run's first key"
  pub lower : after.start ≡ count_below lo (last_keys under)
  -- "the upper one the number whose first key isn't above its last"
  pub upper : after.end ≡ count_at_most hi (first_keys under)
  -- "neither ever goes back"
  pub lower_forward : before.start ≤ after.start
  pub upper_forward : before.end ≤ after.end

-- The lower end has passed no block that the run overlaps or that lies behind it, the upper end none that lies behind it.
pub record NotPast (lo hi : ℕ) (under : List Fence) (at : Stretch) : Type 0 where
  pub lower : at.start ≤ count_below lo (last_keys under)
  pub upper : at.end ≤ count_at_most hi (first_keys under)
