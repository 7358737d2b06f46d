-- The new blocks of a level take places (document 01: "A new block goes to the first free place after hand, going round, and hand moves there", "in key order").
use Prim.Native.Nat.{ℕ, suc, ◌+◌, ◌<◌, ◌≤◌}
use mathlib.Core.Path.{◌≡◌, refl, ◌∙◌, ap}
use mathlib.Core.List.{List, [], ◌∷◌, ◌++◌}
use mathlib.Core.Option.{Option, none, some}
use native.Mathlib.Omega.{arith}
use lib.ListN.{length}
use Rattle.levels.specs.Basics.{total}
use Rattle.levels.specs.Record.{Rec, Level, size, records}
use Rattle.levels.specs.Waste.{needs_compact}
use Rattle.levels.specs.Place.{Allocation, first_free, settle, places_of}
use Rattle.levels.specs.Taking.{Takes, fresh, hand_after}
use Rattle.levels.specs.Well.{Apart, Well}
use Rattle.levels.proofs.Levels.{well_nil, well_tail}
use Rattle.levels.proofs.FirstFree.{first_free_lem}

-- the allocation after places were taken, one after the other
abbrev pub after_taking : Allocation → List ℕ → Allocation
after_taking a [] = a
after_taking a (p ∷ ps) = after_taking (record { used = p ∷ a.used; cursor = p }) ps

-- the allocation after one place
abbrev pub taking : ℕ → Allocation → Allocation
taking P a = record { used = first_free P a ∷ a.used; cursor = first_free P a }

-- places change no record
pub settle_records : (P : ℕ) (a : Allocation) (l : Level) → records (settle P a l).level ≡ records l
unfolding settle
settle_records P a [] = refl
settle_records P a (b ∷ bs) = go b.place (λ c. settle_records P c bs)
  where
    go : (p : Option ℕ) → ((c : Allocation) → records (settle P c bs).level ≡ records bs) → records (settle P a (record { place = p; recs = b.recs } ∷ bs)).level ≡ b.recs ++ records bs
    go none ih = ap (λ (m : List Rec). b.recs ++ m) (ih (taking P a))
    go (some p) ih = ap (λ (m : List Rec). b.recs ++ m) (ih a)

-- nor the number of blocks
pub settle_length : (P : ℕ) (a : Allocation) (l : Level) → length (settle P a l).level ≡ length l
unfolding settle
settle_length P a [] = refl
settle_length P a (b ∷ bs) = go b.place (λ c. settle_length P c bs)
  where
    go : (p : Option ℕ) → ((c : Allocation) → length (settle P c bs).level ≡ length bs) → length (settle P a (record { place = p; recs = b.recs } ∷ bs)).level ≡ suc (length bs)
    go none ih = ap suc (ih (taking P a))
    go (some p) ih = ap suc (ih a)

-- every block then has a place
pub settle_placed : (P : ℕ) (a : Allocation) (l : Level) → fresh (settle P a l).level ≡ 0
unfolding settle
settle_placed P a [] = refl
settle_placed P a (b ∷ bs) = go b.place (λ c. settle_placed P c bs)
  where
    go : (p : Option ℕ) → ((c : Allocation) → fresh (settle P c bs).level ≡ 0) → fresh (settle P a (record { place = p; recs = b.recs } ∷ bs)).level ≡ 0
    go none ih = omega (arith, ih (taking P a))
    go (some p) ih = omega (arith, ih a)

-- the sizes and the pair rule stay
settle_apart : (P B n : ℕ) (a : Allocation) (l : Level) → Apart B n l → Apart B n (settle P a l).level
unfolding settle
settle_apart P B n a [] h = tt
settle_apart P B n a (b ∷ bs) h = go b.place
  where
    go : (p : Option ℕ) → Apart B n (settle P a (record { place = p; recs = b.recs } ∷ bs)).level
    go none = h
    go (some p) = h

pub settle_well : (P B : ℕ) (a : Allocation) (l : Level) → Well B l → Well B (settle P a l).level
unfolding settle
settle_well P B a [] w = well_nil B
settle_well P B a (b ∷ bs) w = go b.place (λ c. settle_well P B c bs (well_tail B b bs w)) (λ c. settle_apart P B (size b) c bs w.pairs.0)
  where
    go : (p : Option ℕ) → ((c : Allocation) → Well B (settle P c bs).level) → ((c : Allocation) → Apart B (size b) (settle P c bs).level) → Well B (settle P a (record { place = p; recs = b.recs } ∷ bs)).level
    go none ih ap = record { pairs = (ap (taking P a), (ih (taking P a)).pairs); sized = (w.sized.0, w.sized.1, (ih (taking P a)).sized) }
    go (some p) ih ap = record { pairs = (ap a, (ih a).pairs); sized = (w.sized.0, w.sized.1, (ih a).sized) }

-- and so does the level rule
pub settle_rule : (P B : ℕ) (a : Allocation) (l : Level) → needs_compact B (settle P a l).level ≡ needs_compact B l
settle_rule P B a l = rw (settle_length P a l, settle_records P a l)

-- as many blocks are written as there are new ones
pub written_length : (P : ℕ) (a : Allocation) (l : Level) → length (settle P a l).written ≡ fresh l
unfolding settle
written_length P a [] = refl
written_length P a (b ∷ bs) = go b.place (λ c. written_length P c bs)
  where
    go : (p : Option ℕ) → ((c : Allocation) → length (settle P c bs).written ≡ fresh bs) → length (settle P a (record { place = p; recs = b.recs } ∷ bs)).written ≡ fresh (record { place = p; recs = b.recs } ∷ bs)
    go none ih = omega (arith, ih (taking P a))
    go (some p) ih = omega (arith, ih a)

-- and each takes a place
pub written_places : (P : ℕ) (a : Allocation) (l : Level) → length (places_of (settle P a l).written) ≡ fresh l
unfolding settle
written_places P a [] = refl
written_places P a (b ∷ bs) = go b.place (λ c. written_places P c bs)
  where
    go : (p : Option ℕ) → ((c : Allocation) → length (places_of (settle P c bs).written) ≡ fresh bs)
        → length (places_of (settle P a (record { place = p; recs = b.recs } ∷ bs)).written) ≡ fresh (record { place = p; recs = b.recs } ∷ bs)
    go none ih = omega (arith, ih (taking P a))
    go (some p) ih = omega (arith, ih a)

-- "hand moves there": the allocation afterwards is the one before, with the written places taken in order
pub settle_allocation : (P : ℕ) (a : Allocation) (l : Level) → (settle P a l).allocation ≡ after_taking a (places_of (settle P a l).written)
unfolding settle
settle_allocation P a [] = refl
settle_allocation P a (b ∷ bs) = go b.place (λ c. settle_allocation P c bs)
  where
    go : (p : Option ℕ) → ((c : Allocation) → (settle P c bs).allocation ≡ after_taking c (places_of (settle P c bs).written))
        → (settle P a (record { place = p; recs = b.recs } ∷ bs)).allocation ≡ after_taking a (places_of (settle P a (record { place = p; recs = b.recs } ∷ bs)).written)
    go none ih = ih (taking P a)
    go (some p) ih = ih a

after_taking_length : (a : Allocation) (ps : List ℕ) → length (after_taking a ps).used ≡ length a.used + length ps
after_taking_length a [] = omega arith
after_taking_length a (p ∷ ps) = omega (arith, after_taking_length (record { used = p ∷ a.used; cursor = p }) ps)

-- the cursor then is the last of them
after_taking_hand : (a : Allocation) (ps : List ℕ) → (after_taking a ps).cursor ≡ hand_after a.cursor ps
after_taking_hand a [] = refl
after_taking_hand a (p ∷ ps) = after_taking_hand (record { used = p ∷ a.used; cursor = p }) ps

pub settle_hand : (P : ℕ) (a : Allocation) (l : Level) → (settle P a l).allocation.cursor ≡ hand_after a.cursor (places_of (settle P a l).written)
settle_hand P a l = ap (λ (c : Allocation). c.cursor) (settle_allocation P a l) ∙ after_taking_hand a (places_of (settle P a l).written)

pub hand_append : (hand : ℕ) (ps qs : List ℕ) → hand_after hand (ps ++ qs) ≡ hand_after (hand_after hand ps) qs
hand_append hand [] qs = refl
hand_append hand (p ∷ ps) qs = hand_append p ps qs

-- the places that are not free grow by those written
pub settle_used : (P : ℕ) (a : Allocation) (l : Level) → length (settle P a l).allocation.used ≡ length a.used + fresh l
settle_used P a l =
    omega (arith, ap (λ (c : Allocation). length c.used) (settle_allocation P a l), after_taking_length a (places_of (settle P a l).written), written_places P a l)

-- the places of the outcome are those of the old blocks and those written: their sum by any weight
pub settle_places : (f : ℕ → ℕ) (P : ℕ) (a : Allocation) (l : Level) → total f (places_of (settle P a l).level) ≡ total f (places_of l) + total f (places_of (settle P a l).written)
unfolding settle
settle_places f P a [] = refl
settle_places f P a (b ∷ bs) = go b.place (λ c. settle_places f P c bs)
  where
    go : (p : Option ℕ) → ((c : Allocation) → total f (places_of (settle P c bs).level) ≡ total f (places_of bs) + total f (places_of (settle P c bs).written))
        → total f (places_of (settle P a (record { place = p; recs = b.recs } ∷ bs)).level)
        ≡ total f (places_of (record { place = p; recs = b.recs } ∷ bs)) + total f (places_of (settle P a (record { place = p; recs = b.recs } ∷ bs)).written)
    go none ih = omega (arith, ih (taking P a))
    go (some p) ih = omega (arith, ih a)

-- some places, and then some more
pub takes_append : (P : ℕ) (a : Allocation) (ps qs : List ℕ) → Takes P a ps → Takes P (after_taking a ps) qs → Takes P a (ps ++ qs)
takes_append P a [] qs s t = t
takes_append P a (p ∷ ps) qs s t = (s.0, takes_append P (record { used = p ∷ a.used; cursor = p }) ps qs s.1 t)

-- with a free place left at each taking, the places taken are each the first free one after the cursor
pub settle_takes : (P : ℕ) (a : Allocation) (l : Level) → a.cursor < P → length a.used + fresh l ≤ P → Takes P a (places_of (settle P a l).written)
unfolding settle
settle_takes P a [] h r = tt
settle_takes P a (b ∷ bs) h r = go b.place r (λ c i s. settle_takes P c bs i s)
  where
    go : (p : Option ℕ) → length a.used + fresh (record { place = p; recs = b.recs } ∷ bs) ≤ P → ((c : Allocation) → c.cursor < P → length c.used + fresh bs ≤ P → Takes P c (places_of (settle P c bs).written))
        → Takes P a (places_of (settle P a (record { place = p; recs = b.recs } ∷ bs)).written)
    go none r ih =
        let f = first_free_lem P a h (omega arith) in
        (f, ih (taking P a) f.inside (omega arith))
    go (some p) r ih = ih a h (omega arith)

-- the cursor stays below P
pub takes_cursor : (P : ℕ) (a : Allocation) (ps : List ℕ) → a.cursor < P → Takes P a ps → (after_taking a ps).cursor < P
takes_cursor P a [] h t = h
takes_cursor P a (p ∷ ps) h t = takes_cursor P (record { used = p ∷ a.used; cursor = p }) ps t.0.inside t.1

pub settle_cursor : (P : ℕ) (a : Allocation) (l : Level) → a.cursor < P → length a.used + fresh l ≤ P → (settle P a l).allocation.cursor < P
settle_cursor P a l h r = rw (settle_allocation P a l) (takes_cursor P a (places_of (settle P a l).written) h (settle_takes P a l h r))
