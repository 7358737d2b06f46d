-- Laws of the view and of the map (document 01, "Calls"): the levels from 0 down, one laid over the other, and the map without tombstones.
use Prim.Native.Nat.{ℕ, suc, ◌<◌, ◌≤◌}
use mathlib.Core.Path.{◌≡◌, refl, sym, ◌∙◌, ap}
use mathlib.Core.Bool.{Bool, true, false, ◌||◌}
use mathlib.Core.List.{List, [], ◌∷◌}
use mathlib.Core.Option.{Option, none, some}
use native.Mathlib.Omega.{arith}
use native.Mathlib.Decide.{ℕ_discrete}
use lib.Dec.{leb}
use lib.ListN.{length}
use borrow.Author.Tests.{leb-true, leb-false}
use Rattle.levels.specs.Basics.{or_else, is_some, all}
use Rattle.levels.specs.Record.{Rec, has_tombstone, rising}
use Rattle.levels.specs.Map.{find, view, unmarked, map_of, live_count, decides, present, look_up, is_live, first_from, next}
use Rattle.levels.specs.Rising.{Risings, Rising}
use Rattle.levels.proofs.Basics.{and_left, and_right, and_both, or_false}
use Rattle.levels.proofs.Rising.{rising_from, test_rising, rising_test}
use Rattle.levels.proofs.Overlay.{find_here, find_past, find_below, find_overlay, overlay_rising, same_find}

-- the clauses of unmarked, as laws
pub unmarked_drop : (r : Rec) (rs : List Rec) → r.tombstone ≡ true → unmarked (r ∷ rs) ≡ unmarked rs
unfolding unmarked
unmarked_drop r rs e = ap (λ (t : Bool). elim t [ true ↦ unmarked rs | false ↦ r ∷ unmarked rs ]) e

pub unmarked_keep : (r : Rec) (rs : List Rec) → r.tombstone ≡ false → unmarked (r ∷ rs) ≡ r ∷ unmarked rs
unfolding unmarked
unmarked_keep r rs e = ap (λ (t : Bool). elim t [ true ↦ unmarked rs | false ↦ r ∷ unmarked rs ]) e

-- "keys rise strictly in each level": the test says it
pub test_risings : (ls : List (List Rec)) → all (rising 0) ls ≡ true → Risings ls
test_risings [] e = tt
test_risings (l ∷ ls) e = (test_rising 0 l (and_left (rising 0 l) _ e), test_risings ls (and_right (rising 0 l) _ e))

pub risings_test : (ls : List (List Rec)) → Risings ls → all (rising 0) ls ≡ true
risings_test [] h = refl
risings_test (l ∷ ls) h = and_both (rising 0 l) _ (rising_test 0 l h.0) (risings_test ls h.1)

-- the view of sorted rows is sorted
pub view_rising : (ls : List (List Rec)) → Risings ls → Rising 0 (view ls)
unfolding view
view_rising [] h = tt
view_rising (l ∷ ls) h = overlay_rising 0 l (view ls) h.0 (view_rising ls h.1)

-- "the first level from 0 down that has k decides": the view has the record that decides
pub find_view : (k : ℕ) (ls : List (List Rec)) → Risings ls → find k (view ls) ≡ decides k ls
unfolding view decides find
find_view k [] h = refl
find_view k (l ∷ ls) h = find_overlay k 0 l (view ls) h.0 ∙ ap (λ (o : Option Rec). or_else (find k l) o) (find_view k ls h.1)

-- a sorted list without its tombstones is sorted
pub unmarked_rising : (low : ℕ) (rs : List Rec) → Rising low rs → Rising low (unmarked rs)
unfolding unmarked
unmarked_rising low [] h = tt
unmarked_rising low (r ∷ rs) h = go r.tombstone refl (unmarked_rising (suc r.key) rs h.1)
  where
    go : (t : Bool) → r.tombstone ≡ t → Rising (suc r.key) (unmarked rs) → Rising low (unmarked (r ∷ rs))
    go true e i = rw (unmarked_drop r rs e) (rising_from low (suc r.key) (unmarked rs) (omega (arith, h.0)) i)
    go false e i = rw (unmarked_keep r rs e) (h.0, i)

-- a tombstone is absent, any other record present
pub present_tombstone : (r : Rec) → r.tombstone ≡ true → present (some r) ≡ none
present_tombstone r e = rw e

pub present_record : (r : Rec) → r.tombstone ≡ false → present (some r) ≡ some r
present_record r e = rw e

-- present of what is decided after a first level
pub present_or : (a b c : Option Rec) → present b ≡ present c → present (or_else a b) ≡ present (or_else a c)
present_or none b c e = e
present_or (some r) b c e = refl

-- "a mark or no record is absent": a list without its tombstones has what is present in it
pub find_unmarked : (k low : ℕ) (rs : List Rec) → Rising low rs → find k (unmarked rs) ≡ present (find k rs)
unfolding find unmarked
find_unmarked k low [] h = refl
find_unmarked k low (r ∷ rs) h = go r.tombstone refl (ℕ_discrete r.key k) (find_unmarked k (suc r.key) rs h.1)
  where
    go : (t : Bool) → r.tombstone ≡ t → Dec (r.key ≡ k) → find k (unmarked rs) ≡ present (find k rs) → find k (unmarked (r ∷ rs)) ≡ present (find k (r ∷ rs))
    go true e (yes d) ih =
        ap (find k) (unmarked_drop r rs e) ∙ find_below k (suc r.key) (unmarked rs) (unmarked_rising (suc r.key) rs h.1) (omega arith)
        ∙ sym (ap present (find_here k r rs d) ∙ present_tombstone r e)
    go true e (no d) ih = ap (find k) (unmarked_drop r rs e) ∙ ih ∙ sym (ap present (find_past k r rs d))
    go false e (yes d) ih = ap (find k) (unmarked_keep r rs e) ∙ find_here k r (unmarked rs) d ∙ sym (ap present (find_here k r rs d) ∙ present_record r e)
    go false e (no d) ih = ap (find k) (unmarked_keep r rs e) ∙ find_past k r (unmarked rs) d ∙ ih ∙ sym (ap present (find_past k r rs d))

-- no tombstone is left
pub unmarked_clean : (rs : List Rec) → has_tombstone (unmarked rs) ≡ false
unfolding unmarked
unmarked_clean [] = refl
unmarked_clean (r ∷ rs) = go r.tombstone refl (unmarked_clean rs)
  where
    go : (t : Bool) → r.tombstone ≡ t → has_tombstone (unmarked rs) ≡ false → has_tombstone (unmarked (r ∷ rs)) ≡ false
    go true e i = rw (unmarked_drop r rs e) i
    go false e i = ap has_tombstone (unmarked_keep r rs e) ∙ ap (λ (t : Bool). t || has_tombstone (unmarked rs)) e ∙ i

-- a list without tombstones is its own unmarked list, and all that is found in it is present
pub clean_tail : (r : Rec) (rs : List Rec) → has_tombstone (r ∷ rs) ≡ false → (r.tombstone ≡ false) × (has_tombstone rs ≡ false)
clean_tail r rs e = or_false r.tombstone (has_tombstone rs) e

pub clean_unmarked : (rs : List Rec) → has_tombstone rs ≡ false → unmarked rs ≡ rs
unfolding unmarked
clean_unmarked [] e = refl
clean_unmarked (r ∷ rs) e = let c = clean_tail r rs e in unmarked_keep r rs c.0 ∙ ap (λ (l : List Rec). r ∷ l) (clean_unmarked rs c.1)

pub present_clean : (k low : ℕ) (rs : List Rec) → Rising low rs → has_tombstone rs ≡ false → present (find k rs) ≡ find k rs
present_clean k low rs h e = sym (find_unmarked k low rs h) ∙ ap (find k) (clean_unmarked rs e)

-- the map is sorted
pub map_rising : (ls : List (List Rec)) → Risings ls → Rising 0 (map_of ls)
unfolding map_of
map_rising ls h = unmarked_rising 0 (view ls) (view_rising ls h)

-- "Look up k": the record that the map has for k
pub look_up_find : (k : ℕ) (ls : List (List Rec)) → Risings ls → look_up k ls ≡ find k (map_of ls)
unfolding map_of look_up
look_up_find k ls h = sym (find_unmarked k 0 (view ls) (view_rising ls h) ∙ ap present (find_view k ls h))

-- "A key is live if it is in the map"
pub is_live_find : (k : ℕ) (ls : List (List Rec)) → Risings ls → is_live k ls ≡ is_some (find k (map_of ls))
unfolding is_live
is_live_find k ls h = ap is_some (look_up_find k ls h)

-- the lookups settle the map: rows in which the same is looked up for every key stand for the same map
pub same_map : (ls ms : List (List Rec)) → Risings ls → Risings ms → ((k : ℕ) → look_up k ls ≡ look_up k ms) → map_of ls ≡ map_of ms
same_map ls ms h g f = same_find 0 0 (map_of ls) (map_of ms) (map_rising ls h) (map_rising ms g) (λ k. sym (look_up_find k ls h) ∙ f k ∙ look_up_find k ms g)

-- and so "live (number of keys in the map)"
pub same_live : (ls ms : List (List Rec)) → Risings ls → Risings ms → ((k : ℕ) → look_up k ls ≡ look_up k ms) → live_count ls ≡ live_count ms
unfolding live_count
same_live ls ms h g f = ap length (same_map ls ms h g f)

-- the clauses of first_from, as laws
first_from_here : (k : ℕ) (r : Rec) (rs : List Rec) → leb k r.key ≡ true → first_from k (r ∷ rs) ≡ some r
unfolding first_from
first_from_here k r rs e = rw (e, first_from)

first_from_past : (k : ℕ) (r : Rec) (rs : List Rec) → leb k r.key ≡ false → first_from k (r ∷ rs) ≡ first_from k rs
unfolding first_from
first_from_past k r rs e = rw (e, first_from)

-- `o` is the record with the smallest key at or above k of those found by `f`, or none
abbrev pub Smallest : ℕ → (ℕ → Option Rec) → Option Rec → Type 0
Smallest k f none = (j : ℕ) → k ≤ j → f j ≡ none
Smallest k f (some r) = (k ≤ r.key) × (f r.key ≡ some r) × ((j : ℕ) → k ≤ j → j < r.key → f j ≡ none)

smallest_past : (k low : ℕ) (r : Rec) (rs : List Rec) (o : Option Rec) → r.key < k → Smallest k (λ j. find j rs) o → Smallest k (λ j. find j (r ∷ rs)) o
smallest_past k low r rs none h s = λ j l. find_past j r rs (omega arith) ∙ s j l
smallest_past k low r rs (some x) h s = (s.0, find_past x.key r rs (omega (arith, s.0)) ∙ s.1, λ j l m. find_past j r rs (omega arith) ∙ s.2 j l m)

-- "the smallest live key at or above k", of a sorted list
pub first_from_smallest : (k low : ℕ) (rs : List Rec) → Rising low rs → Smallest k (λ j. find j rs) (first_from k rs)
unfolding first_from find
first_from_smallest k low [] h = λ j l. refl
first_from_smallest k low (r ∷ rs) h = go (leb k r.key) refl (first_from_smallest k (suc r.key) rs h.1)
  where
    go : (t : Bool) → leb k r.key ≡ t → Smallest k (λ j. find j rs) (first_from k rs) → Smallest k (λ j. find j (r ∷ rs)) (first_from k (r ∷ rs))
    go true e s = rw (first_from_here k r rs e) (leb-true k r.key e, find_here r.key r rs refl, λ j l m. find_below j r.key (r ∷ rs) (omega arith, h.1) m)
    go false e s = rw (first_from_past k r rs e) (smallest_past k low r rs (first_from k rs) (leb-false k r.key e) s)

smallest_same : (k : ℕ) (f g : ℕ → Option Rec) (o : Option Rec) → ((j : ℕ) → f j ≡ g j) → Smallest k f o → Smallest k g o
smallest_same k f g none e s = λ j l. sym (e j) ∙ s j l
smallest_same k f g (some r) e s = (s.0, sym (e r.key) ∙ s.1, λ j l m. sym (e j) ∙ s.2 j l m)

-- "Next k: the smallest live key at or above k with its payload, or none."
pub next_smallest : (k : ℕ) (ls : List (List Rec)) → Risings ls → Smallest k (λ j. look_up j ls) (next k ls)
unfolding next
next_smallest k ls h = smallest_same k (λ j. find j (map_of ls)) (λ j. look_up j ls) (first_from k (map_of ls)) (λ j. sym (look_up_find j ls h)) (first_from_smallest k 0 (map_of ls) (map_rising ls h))
