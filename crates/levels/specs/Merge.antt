-- Steps 2 to 4 of a merge, over given blocks: a state, a step that reads one record or reuses one block, and the joins.
-- Nothing here knows how X was chosen or which place a new block gets.
use Rattle.std.specs.Prelude.{ℕ, zero, suc, ◌+◌, Bool, true, false, not, ◌&&◌, leb, ltb, eqb, length}
use mathlib.Core.List.{List, [], ◌∷◌, ◌++◌, reverse, reverse_aux, tail}
use Rattle.levels.specs.Basics.{if◌then◌otherwise◌, iterate}
use Rattle.levels.specs.Record.{Rec, Block, Level, new, size, placed, records, first_key, last_key, has_tombstone}

-- What the merge has made: the buffer, and the level so far, last block first.
-- The level begins as the blocks before Y, so its head is document 01's e: "the last block placed by this merge, else the block before Y".
pub record Out : Type 0 where
  pub buffer : List Rec
  pub done : Level

-- What is left of X and of Y. What is left of a block that has been begun has no place.
pub record State : Type 0 where
  pub upper : Level
  pub lower : Level
  pub out : Out

abbrev pub head_rec : Block → Rec
head_rec b = elim b.recs [ [] ↦ record { key = 0; tombstone = false; pay = 0 } | r ∷ rs ↦ r ]

-- "ends below the next key of the other list (or that list is used up)"
abbrev pub ends_below : ℕ → Level → Bool
ends_below k [] = true
ends_below k (b ∷ bs) = ltb k (first_key b.recs)

-- "no e or e + .. hold more than B"
abbrev pub apart : ℕ → ℕ → Level → Bool
apart B n [] = true
apart B n (e ∷ es) = ltb B (size e + n)

-- "buffer empty, and no e or e + b hold more than B; or buffer not empty, buffer + b hold more than B, and no e or e + buffer hold more than B"
abbrev pub may_follow : ℕ → Block → List Rec → Level → Bool
may_follow B b [] done = apart B (size b) done
may_follow B b (r ∷ rs) done = ltb B (length (r ∷ rs) + size b) && apart B (length (r ∷ rs)) done

-- "If the next record starts an input block b that ends below the next key of the other list .., b has a place, and b has no mark if i + 1 = h, then b is reused at its place if .."
-- That b has a place says also that it has not been begun. `bottom` is i + 1 = h.
abbrev pub reusable : ℕ → Bool → Out → Level → Block → Bool
reusable B bottom o other b =
    ends_below (last_key b.recs) other && placed b && not (bottom && has_tombstone b.recs) && may_follow B b o.buffer o.done

-- a buffer that is not empty is written
abbrev pub flush : List Rec → Level → Level
flush [] done = done
flush (r ∷ rs) done = new (r ∷ rs) ∷ done

-- a list of blocks without its first record
abbrev pub rest : Level → Level
rest [] = []
rest (b ∷ bs) = flush (tail b.recs) bs

-- "A buffer that is not empty is written before b."
abbrev pub reuse : Block → Out → Out
reuse b o = record { buffer = []; done = b ∷ flush o.buffer o.done }

-- "Records gather in a buffer, written when it has B."
abbrev pub keep : ℕ → Rec → Out → Out
keep B r o =
    if leb B (suc (length o.buffer)) then record { buffer = []; done = new (o.buffer ++ (r ∷ [])) ∷ o.done }
    otherwise record { buffer = o.buffer ++ (r ∷ []); done = o.done }

-- "Marks stay, except that level h drops them."
abbrev pub gather : ℕ → Bool → Rec → Out → Out
gather B bottom r o = if bottom && r.tombstone then o otherwise keep B r o

-- the next record is X's
abbrev pub from_upper : ℕ → Bool → Block → Level → Level → Out → State
from_upper B bottom x xs lower o =
    if reusable B bottom o lower x then record { upper = xs; lower = lower; out = reuse x o }
    otherwise record { upper = rest (x ∷ xs); lower = lower; out = gather B bottom (head_rec x) o }

-- the next record is Y's
abbrev pub from_lower : ℕ → Bool → Block → Level → Level → Out → State
from_lower B bottom y ys upper o =
    if reusable B bottom o upper y then record { upper = upper; lower = ys; out = reuse y o }
    otherwise record { upper = upper; lower = rest (y ∷ ys); out = gather B bottom (head_rec y) o }

-- "on equal keys X's record stands alone"
abbrev pub from_both : ℕ → Bool → Block → Level → Level → Out → State
from_both B bottom x xs lower o = record { upper = rest (x ∷ xs); lower = rest lower; out = gather B bottom (head_rec x) o }

-- "X and Y are read in key order"
abbrev pub step_on : ℕ → Bool → Level → Level → Out → State
step_on B bottom [] [] o = record { upper = []; lower = []; out = o }
step_on B bottom (x ∷ xs) [] o = from_upper B bottom x xs [] o
step_on B bottom [] (y ∷ ys) o = from_lower B bottom y ys [] o
step_on B bottom (x ∷ xs) (y ∷ ys) o =
    if ltb (first_key y.recs) (first_key x.recs) then from_lower B bottom y ys (x ∷ xs) o
    otherwise if eqb (first_key y.recs) (first_key x.recs) then from_both B bottom x xs (y ∷ ys) o
    otherwise from_upper B bottom x xs (y ∷ ys) o

abbrev pub step : ℕ → Bool → State → State
step B bottom s = step_on B bottom s.upper s.lower s.out

-- Step 3. Each step takes a record or more, so there are enough steps.
abbrev pub stream : ℕ → Bool → Level → Level → Level → State
stream B bottom before xs ys =
    iterate (length (records xs) + length (records ys)) (step B bottom)
    (record { upper = xs; lower = ys; out = record { buffer = []; done = reverse before } })

-- Step 4: "a leftover that with e holds B or fewer joins it in one new block."
abbrev pub join_left : ℕ → List Rec → Level → Level
join_left B [] done = done
join_left B (r ∷ rs) [] = new (r ∷ rs) ∷ []
join_left B (r ∷ rs) (e ∷ es) =
    if leb (size e + length (r ∷ rs)) B then new (e.recs ++ (r ∷ rs)) ∷ es
    otherwise new (r ∷ rs) ∷ e ∷ es

-- "The last block, or if nothing is left over e, joins the block after Y by the same rule." The first list has its last block first.
abbrev pub join : ℕ → Level → Level → Level
join B [] behind = behind
join B (e ∷ es) [] = reverse (e ∷ es)
join B (e ∷ es) (a ∷ bs) =
    if leb (size e + size a) B then reverse_aux es (new (e.recs ++ a.recs) ∷ bs)
    otherwise reverse_aux (e ∷ es) (a ∷ bs)

-- Steps 3 and 4: X merged onto the level that is `before`, then Y, then `behind`. A block of the outcome that has a place
-- is kept there; one that has none is new.
abbrev pub merge : ℕ → Bool → Level → Level → Level → Level → Level
merge B bottom before xs ys behind = let o = (stream B bottom before xs ys).out in join B (join_left B o.buffer o.done) behind

-- Step 2: "X leaves; in level 0 the later records move up and close the gap. If i ≥ 1 and its two neighbours now hold B or fewer together,
-- one new block replaces them."
abbrev pub close : ℕ → ℕ → Level → Level → Level
close B zero left right = left ++ right
close B (suc i) left right = join B (reverse left) right
