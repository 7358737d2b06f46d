-- What holds of places taken: "A new block goes to the first free place after hand, going round, and hand moves there";
-- "Places in use when a merge or a compaction starts are not free until it ends".
use Rattle.std.specs.Prelude.{ℕ, suc, ◌+◌, ◌≤◌, zero, ◌<◌, ◌≡◌, [], ◌∷◌, List, true, false, length}
use Rattle.std.proofs.Math.Option.{none, some}
use Rattle.levels.specs.Record.{Block, Level}
use Rattle.levels.specs.Basics.{member, total}
use Rattle.levels.specs.Place.{after, Allocation, places_of, newly_used, distinct}
use Rattle.levels.specs.Store.{Store, used_in, allocation_of}
use Rattle.levels.specs.Every.{Every}

-- 1 for a new block
abbrev pub one : Block → ℕ
one b = elim b.place [ none ↦ 1 | some p ↦ 0 ]

-- the new blocks of a level. Every block has a place where fresh l ≡ 0.
abbrev pub fresh : Level → ℕ
fresh [] = 0
fresh (b ∷ bs) = one b + fresh bs

-- the k-th place after p, going round
abbrev pub round : ℕ → ℕ → ℕ → ℕ
round P zero p = p
round P (suc k) p = round P k (after P p)

-- r is the first place after the cursor that is not in use
pub record FirstFree (P : ℕ) (used : List ℕ) (cursor r : ℕ) : Type 0 where
  pub steps : ℕ
  pub there : r ≡ round P (suc steps) cursor
  pub inside : r < P
  pub free : member r used ≡ false
  pub first : (i : ℕ) → i < steps → member (round P (suc i) cursor) used ≡ true

-- each place is the first free one after the cursor when it is taken
abbrev pub Takes : ℕ → Allocation → List ℕ → Type 0
Takes P a [] = Unit {0}
Takes P a (p ∷ ps) = FirstFree P a.used a.cursor p × Takes P (record { used = p ∷ a.used; cursor = p }) ps

-- A change of the places in use: `written` were taken one after the other, and what is in use afterwards is part of what was and all of these.
pub record Changed (P : ℕ) (a : Allocation) (finish written : List ℕ) : Type 0 where
  pub takes : Takes P a written
  pub most : (f : ℕ → ℕ) → total f finish ≤ total f a.used + total f written
  pub least : (f : ℕ → ℕ) → total f written ≤ total f finish

-- "hand moves there": hand after these places were taken, one after the other
abbrev pub hand_after : ℕ → List ℕ → ℕ
hand_after hand [] = hand
hand_after hand (p ∷ ps) = hand_after p ps

-- Every write found a free place: of a merge or a compaction that starts with the store `start`, ends with `finish` and writes the blocks `written`, in this order.
pub record FoundFree (P : ℕ) (start finish : Store) (written : Level) : Type 0 where
  -- every block written has a place
  pub each : length (places_of written) ≡ length written
  -- "A new block goes to the first free place after hand, going round": these places, in order, with those in use at the start and those just taken not free
  pub first_free : Takes P (allocation_of start) (places_of written)
  -- so each is one of the P places, none was in use at the start ("not free until it ends"), and none is taken twice
  pub below : Every (λ p. p < P) (places_of written)
  pub unused : Every (λ p. member p (used_in start) ≡ false) (places_of written)
  pub once : distinct (places_of written) ≡ true
  -- "and hand moves there"
  pub hand : finish.cursor ≡ hand_after start.cursor (places_of written)
  -- "P is at least 4S + 8. That this always leaves a free place is to be shown": one is left even after the last block
  pub room : length (used_in start) + length written < P
  -- "Blocks written .. are the places in use at its end that were not in use at its start"
  pub newly : newly_used (used_in start) (used_in finish) ≡ length written
