-- The places in use before and after a merge or a compaction: none twice, all below P, and the newly used are the blocks written.
-- Lists of places are compared by sums: `total f` of a list, for any weight f of a place.
use Prim.Native.Nat.{ℕ, zero, suc, ◌+◌, ◌<◌, ◌≤◌}
use mathlib.Core.Path.{◌≡◌, refl, sym, ◌∙◌, ap, subst}
use mathlib.Core.Bool.{Bool, true, false, not, ◌&&◌, ◌||◌, true≢false}
use mathlib.Core.List.{List, [], ◌∷◌, ◌++◌}
use mathlib.Core.Option.{Option, none, some}
use native.Mathlib.Omega.{arith}
use lib.Dec.{ltb, eqb}
use lib.ListN.{length, get_or, set}
use borrow.Author.Tests.{eqb-true, eq-eqb, lt-ltb, not-true}
use Rattle.levels.specs.Basics.{if◌then◌otherwise◌, all, total, member}
use Rattle.levels.specs.Record.{Level}
use Rattle.levels.specs.Place.{Allocation, places_of, in_use, newly_used, distinct}
use Rattle.levels.specs.Taking.{Changed, Takes}
use Rattle.levels.specs.Every.{Every}
use Rattle.levels.proofs.Basics.{and_left, and_right, and_both, or_false}
use Rattle.levels.proofs.Every.{every_turn}
use Rattle.levels.proofs.Fresh.{weights}

-- weights of a place: is it p; is it not in a list; is it not below P
abbrev pub hit : ℕ → ℕ → ℕ
hit p q = if eqb p q then 1 otherwise 0

abbrev pub outside : List ℕ → ℕ → ℕ
outside ps q = if member q ps then 0 otherwise 1

abbrev pub beyond : ℕ → ℕ → ℕ
beyond P q = if ltb q P then 0 otherwise 1

-- a sum over two lists end to end
pub total_append : (f : ℕ → ℕ) (ps qs : List ℕ) → total f (ps ++ qs) ≡ total f ps + total f qs
total_append f [] qs = omega arith
total_append f (p ∷ ps) qs = omega (arith, total_append f ps qs)

-- the weights of a level's blocks are those of its places
pub weights_places : (f : ℕ → ℕ) (l : Level) → weights f l ≡ total f (places_of l)
weights_places f [] = refl
weights_places f (b ∷ bs) = go b.place (weights_places f bs)
  where
    go : (p : Option ℕ) → weights f bs ≡ total f (places_of bs) → weights f (record { place = p; recs = b.recs } ∷ bs) ≡ total f (places_of (record { place = p; recs = b.recs } ∷ bs))
    go none ih = omega arith
    go (some p) ih = omega arith

-- the places of levels end to end
pub places_append : (k l : Level) → places_of (k ++ l) ≡ places_of k ++ places_of l
places_append [] l = refl
places_append (b ∷ bs) l = go b.place (places_append bs l)
  where
    go : (p : Option ℕ) → places_of (bs ++ l) ≡ places_of bs ++ places_of l → places_of (record { place = p; recs = b.recs } ∷ (bs ++ l)) ≡ places_of (record { place = p; recs = b.recs } ∷ bs) ++ places_of l
    go none ih = ih
    go (some p) ih = ap (λ (ps : List ℕ). p ∷ ps) ih

-- one level replaced
pub in_use_set : (f : ℕ → ℕ) (ls : List Level) (j : ℕ) (l : Level) → j < length ls
    → total f (in_use (set ls j l)) + total f (places_of (get_or ls j [])) ≡ total f (in_use ls) + total f (places_of l)
in_use_set f [] j l h = absurd (omega arith)
in_use_set f (a ∷ ls) zero l h = omega (arith, total_append f (places_of l) (in_use ls), total_append f (places_of a) (in_use ls))
in_use_set f (a ∷ ls) (suc j) l h = omega (arith, total_append f (places_of a) (in_use (set ls j l)), total_append f (places_of a) (in_use ls), in_use_set f ls j l (omega arith))

-- a level's places are in use
pub in_use_at : (f : ℕ → ℕ) (ls : List Level) (j : ℕ) → total f (places_of (get_or ls j [])) ≤ total f (in_use ls)
in_use_at f [] j = omega arith
in_use_at f (a ∷ ls) zero = omega (arith, total_append f (places_of a) (in_use ls))
in_use_at f (a ∷ ls) (suc j) = omega (arith, total_append f (places_of a) (in_use ls), in_use_at f ls j)

-- how often p stands in a list, and if it does
hit_same : (p : ℕ) → hit p p ≡ 1
hit_same p = rw (eq-eqb p p refl)

-- a place that does not stand in a list, and one that does
pub times_none : (p : ℕ) (qs : List ℕ) → member p qs ≡ false → total (hit p) qs ≡ 0
times_none p [] e = refl
times_none p (q ∷ qs) e = go (eqb p q) e (times_none p qs)
  where
    go : (t : Bool) → (t || member p qs) ≡ false → (member p qs ≡ false → total (hit p) qs ≡ 0) → (if t then 1 otherwise 0) + total (hit p) qs ≡ 0
    go true e ih = absurd (true≢false e)
    go false e ih = omega (arith, ih e)

pub times_some : (p : ℕ) (qs : List ℕ) → member p qs ≡ true → 1 ≤ total (hit p) qs
times_some p [] e = absurd (true≢false (sym e))
times_some p (q ∷ qs) e = go (eqb p q) e (times_some p qs)
  where
    go : (t : Bool) → (t || member p qs) ≡ true → (member p qs ≡ true → 1 ≤ total (hit p) qs) → 1 ≤ (if t then 1 otherwise 0) + total (hit p) qs
    go true e ih = omega arith
    go false e ih = omega (arith, ih e)

-- "none twice": the test says that each stands there once at most
pub distinct_times : (qs : List ℕ) → distinct qs ≡ true → (p : ℕ) → total (hit p) qs ≤ 1
distinct_times [] e p = omega arith
distinct_times (q ∷ qs) e p = go (eqb p q) refl (distinct_times qs (and_right (not (member q qs)) _ e) p)
  where
    go : (t : Bool) → eqb p q ≡ t → total (hit p) qs ≤ 1 → (if t then 1 otherwise 0) + total (hit p) qs ≤ 1
    go true d ih =
        let n : member p qs ≡ false = rw (eqb-true p q d) (not-true (member q qs) (and_left (not (member q qs)) _ e)) in
        omega (arith, times_none p qs n)
    go false d ih = omega arith

pub times_distinct : (qs : List ℕ) → ((p : ℕ) → total (hit p) qs ≤ 1) → distinct qs ≡ true
times_distinct [] h = refl
times_distinct (q ∷ qs) h = and_both _ _ (go (member q qs) refl) (times_distinct qs (λ p. omega (arith, h p)))
  where
    go : (t : Bool) → member q qs ≡ t → not t ≡ true
    go true e = absurd (omega (arith, h q, hit_same q, times_some q qs e))
    go false e = refl

-- "listed places are below P": the test, as a sum
pub inside_total : (P : ℕ) (qs : List ℕ) → all (λ (p : ℕ). ltb p P) qs ≡ true → total (beyond P) qs ≡ 0
inside_total P [] e = refl
inside_total P (q ∷ qs) e = go (ltb q P) (and_left (ltb q P) _ e) (inside_total P qs (and_right (ltb q P) _ e))
  where
    go : (t : Bool) → t ≡ true → total (beyond P) qs ≡ 0 → (if t then 0 otherwise 1) + total (beyond P) qs ≡ 0
    go true d ih = omega arith
    go false d ih = absurd (true≢false (sym d))

pub total_inside : (P : ℕ) (qs : List ℕ) → total (beyond P) qs ≡ 0 → all (λ (p : ℕ). ltb p P) qs ≡ true
total_inside P [] e = refl
total_inside P (q ∷ qs) e = go (ltb q P) (omega (arith, e)) (total_inside P qs (omega (arith, e)))
  where
    go : (t : Bool) → ◌≡◌ {A = ℕ} (if t then 0 otherwise 1) 0 → all (λ (p : ℕ). ltb p P) qs ≡ true → (t && all (λ (p : ℕ). ltb p P) qs) ≡ true
    go true d ih = ih
    go false d ih = absurd (omega (arith, d))

-- "the places in use at its end that were not in use at its start": as a sum
pub newly_total : (start ps : List ℕ) → newly_used start ps ≡ total (outside start) ps
unfolding newly_used
newly_total start [] = refl
newly_total start (p ∷ ps) = go (member p start) (newly_total start ps)
  where
    go : (t : Bool) → newly_used start ps ≡ total (outside start) ps → elim t [ true ↦ newly_used start ps | false ↦ suc (newly_used start ps) ] ≡ (if t then 0 otherwise 1) + total (outside start) ps
    go true ih = omega arith
    go false ih = omega arith

member_more : (p q : ℕ) (qs : List ℕ) → member p qs ≡ true → member p (q ∷ qs) ≡ true
member_more p q qs e = go (eqb p q)
  where
    go : (t : Bool) → (t || member p qs) ≡ true
    go true = refl
    go false = e

member_head : (p : ℕ) (qs : List ℕ) → member p (p ∷ qs) ≡ true
member_head p qs = rw (eq-eqb p p refl)

-- a list has nothing outside itself
outside_self : (rs qs : List ℕ) → ((p : ℕ) → member p rs ≡ true → member p qs ≡ true) → total (outside qs) rs ≡ 0
outside_self [] qs h = refl
outside_self (r ∷ rs) qs h = go (member r qs) (h r (member_head r rs)) (outside_self rs qs (λ p e. h p (member_more p r rs e)))
  where
    go : (t : Bool) → t ≡ true → total (outside qs) rs ≡ 0 → (if t then 0 otherwise 1) + total (outside qs) rs ≡ 0
    go true d ih = omega arith
    go false d ih = absurd (true≢false (sym d))

-- so none of a list is outside it
pub outside_none : (qs : List ℕ) → total (outside qs) qs ≡ 0
outside_none qs = outside_self qs qs (λ p e. e)

-- places taken were free: each is below P, in no list of places that were not free, and taken once
pub takes_inside : (P : ℕ) (a : Allocation) (ps : List ℕ) → Takes P a ps → total (beyond P) ps ≡ 0
takes_inside P a [] t = refl
takes_inside P a (p ∷ ps) t =
    let e = lt-ltb p P t.0.inside in
    rw e (omega (arith, takes_inside P (record { used = p ∷ a.used; cursor = p }) ps t.1))

pub takes_outside : (P : ℕ) (a : Allocation) (start ps : List ℕ) → Takes P a ps → ((p : ℕ) → member p start ≡ true → member p a.used ≡ true) → total (outside start) ps ≡ length ps
takes_outside P a start [] t h = refl
takes_outside P a start (p ∷ ps) t h = go (member p start) refl (takes_outside P (record { used = p ∷ a.used; cursor = p }) start ps t.1 (λ q e. member_more q p a.used (h q e)))
  where
    go : (s : Bool) → member p start ≡ s → total (outside start) ps ≡ length ps → (if s then 0 otherwise 1) + total (outside start) ps ≡ suc (length ps)
    go true e ih = absurd (true≢false (sym (h p e) ∙ t.0.free))
    go false e ih = omega arith

pub takes_apart : (P : ℕ) (a : Allocation) (ps : List ℕ) → Takes P a ps → (p : ℕ) → member p a.used ≡ true → total (hit p) ps ≡ 0
takes_apart P a [] t p e = refl
takes_apart P a (q ∷ ps) t p e = go (eqb p q) refl (takes_apart P (record { used = q ∷ a.used; cursor = q }) ps t.1 p (member_more p q a.used e))
  where
    go : (s : Bool) → eqb p q ≡ s → total (hit p) ps ≡ 0 → (if s then 1 otherwise 0) + total (hit p) ps ≡ 0
    go true d ih = absurd (true≢false (sym e ∙ rw (eqb-true p q d) t.0.free))
    go false d ih = omega arith

pub takes_once : (P : ℕ) (a : Allocation) (ps : List ℕ) → Takes P a ps → (p : ℕ) → total (hit p) ps ≤ 1
takes_once P a [] t p = omega arith
takes_once P a (q ∷ ps) t p = go (eqb p q) refl (takes_once P (record { used = q ∷ a.used; cursor = q }) ps t.1 p)
  where
    go : (s : Bool) → eqb p q ≡ s → total (hit p) ps ≤ 1 → (if s then 1 otherwise 0) + total (hit p) ps ≤ 1
    go true d ih =
        let m : member p (q ∷ a.used) ≡ true = subst (λ (x : ℕ). member x (q ∷ a.used) ≡ true) (sym (eqb-true p q d)) (member_head q a.used) in
        omega (arith, takes_apart P (record { used = q ∷ a.used; cursor = q }) ps t.1 p m)
    go false d ih = omega arith

-- the same of each of them: below P, not in use before, and none twice
pub takes_below : (P : ℕ) (a : Allocation) (ps : List ℕ) → Takes P a ps → Every (λ p. p < P) ps
takes_below P a [] t = tt
takes_below P a (p ∷ ps) t = (t.0.inside, takes_below P (record { used = p ∷ a.used; cursor = p }) ps t.1)

pub takes_unused : (P : ℕ) (a : Allocation) (ps : List ℕ) → Takes P a ps → Every (λ p. member p a.used ≡ false) ps
takes_unused P a [] t = tt
takes_unused P a (p ∷ ps) t =
    (t.0.free, every_turn (λ q. member q (p ∷ a.used) ≡ false) (λ q. member q a.used ≡ false) ps (λ q e. (or_false (eqb q p) _ e).1) (takes_unused P (record { used = p ∷ a.used; cursor = p }) ps t.1))

pub takes_distinct : (P : ℕ) (a : Allocation) (ps : List ℕ) → Takes P a ps → distinct ps ≡ true
takes_distinct P a ps t = times_distinct ps (takes_once P a ps t)

-- "none twice over all levels" stays
pub changed_distinct : (P : ℕ) (a : Allocation) (finish written : List ℕ) → Changed P a finish written → distinct a.used ≡ true → distinct finish ≡ true
changed_distinct P a finish written c e = times_distinct finish (λ p. go p (member p a.used) refl)
  where
    go : (p : ℕ) (t : Bool) → member p a.used ≡ t → total (hit p) finish ≤ 1
    go p true d = omega (arith, c.most (hit p), takes_apart P a written c.takes p d, distinct_times a.used e p)
    go p false d = omega (arith, c.most (hit p), takes_once P a written c.takes p, times_none p a.used d)

-- "listed places are below P" stays
pub changed_inside : (P : ℕ) (a : Allocation) (finish written : List ℕ) → Changed P a finish written → all (λ (p : ℕ). ltb p P) a.used ≡ true → all (λ (p : ℕ). ltb p P) finish ≡ true
changed_inside P a finish written c e = total_inside P finish (omega (arith, c.most (beyond P), inside_total P a.used e, takes_inside P a written c.takes))

-- "the places in use at its end that were not in use at its start" are the blocks written
pub changed_newly : (P : ℕ) (a : Allocation) (finish written : List ℕ) → Changed P a finish written → newly_used a.used finish ≡ length written
changed_newly P a finish written c =
    omega (
      arith,
      newly_total a.used finish,
      c.most (outside a.used),
      c.least (outside a.used),
      outside_none a.used,
      takes_outside P a a.used written c.takes (λ p e. e),
    )
