-- The place lists: the code's marks say that listed places are below P, and none twice over all levels.
use Prim.Native.Nat.{ℕ, zero, suc, ◌+◌, ◌-◌, ◌≤◌, ◌<◌}
use mathlib.Core.Path.{◌≡◌, sym, ◌∙◌, refl}
use mathlib.Core.Bool.{Bool, true, false, not, ◌&&◌, ◌||◌, and-false}
use mathlib.Core.List.{List, [], ◌∷◌, ◌++◌}
use native.Mathlib.Decide.{ℕ_discrete}
use native.Mathlib.Omega.{arith}
use borrow.Author.Tests.{eq-eqb, ne_eqb, ltb-true}
use lib.Dec.{ltb, eqb}
use lib.ListN.{get_or, set, drop, length, length-set, length-replicate, replicate}
use lib.Seq.{get_or-set_same, get_or-set_other}
use Rattle.geometry.specs.Geometry.{capacity_of}
use Rattle.levels.specs.Basics.{all, member}
use Rattle.levels.specs.Place.{distinct}
use Rattle.levels.proofs.Lists.{get_d_replicate_self}
use Rattle.words.specs.Stores.{word, count_at, list_at}
use Rattle.words.specs.Form.{is_zero, listed_places, all_listed, places_inside, places_once, lists_unused_zero}
use Rattle.chunks.specs.Chunks.{zeros_at}
use Rattle.form.specs.Form.{fresh_of, mark_of, lists_from, lists_ok}
use Rattle.form.proofs.Tests.{range}
use Rattle.form.proofs.Parts.{words_from, words_zero, Listed, listed_words, unlisted_words}
use Rattle.layout.specs.Layouts.{list_start}
use Rattle.layout.specs.declared.Layout.{Layout}

-- the same over a list of places: below p, not marked and none twice
unfoldable fresh_in : ℕ → List Bool → List ℕ → Bool
fresh_in p used [] = true
fresh_in p used (q ∷ qs) = ltb q p && (not (get_or used q false) && fresh_in p (set used q true) qs)

-- the marks with those places added
unfoldable mark_in : List Bool → List ℕ → List Bool
mark_in used [] = used
mark_in used (q ∷ qs) = mark_in (set used q true) qs

-- none of them is marked
unfoldable unused : List Bool → List ℕ → Bool
unused used [] = true
unused used (q ∷ qs) = not (get_or used q false) && unused used qs

fresh_list : (ws : List ℕ) (p i n : ℕ) (used : List Bool) → fresh_of ws p i n used ≡ fresh_in p used (words_from ws i n)
unfolding fresh_of fresh_in
fresh_list ws p i zero used = refl
fresh_list ws p i (suc n) used = rw (fresh_list ws p (suc i) n (set used (word ws i) true))

mark_list : (ws : List ℕ) (i n : ℕ) (used : List Bool) → mark_of ws i n used ≡ mark_in used (words_from ws i n)
unfolding mark_of mark_in
mark_list ws i zero used = refl
mark_list ws i (suc n) used = mark_list ws (suc i) n (set used (word ws i) true)

fresh_append : (p : ℕ) (used : List Bool) (qs rs : List ℕ) → fresh_in p used (qs ++ rs) ≡ (fresh_in p used qs && fresh_in p (mark_in used qs) rs)
unfolding fresh_in mark_in
fresh_append p used [] rs = refl
fresh_append p used (q ∷ qs) rs = rw (fresh_append p (set used q true) qs rs) (go (ltb q p) (not (get_or used q false)) (fresh_in p (set used q true) qs) (fresh_in p (mark_in (set used q true) qs) rs))
  where
    go : (a b c d : Bool) → (a && (b && (c && d))) ≡ ((a && (b && c)) && d)
    go true true c d = refl
    go true false c d = refl
    go false b c d = refl

mark_one : (used : List Bool) (q : ℕ) (qs : List ℕ) → q < length used → unused (set used q true) qs ≡ (unused used qs && not (member q qs))
unfolding unused
mark_one used q [] h = refl
mark_one used q (r ∷ rs) h = go (ℕ_discrete r q) (mark_one used q rs h)
  where
    one : (a b c : Bool) → (a && (b && not c)) ≡ ((a && b) && not c)
    one true b c = refl
    one false b c = refl

    go : Dec (r ≡ q) → unused (set used q true) rs ≡ (unused used rs && not (member q rs)) → (not (get_or (set used q true) r false) && unused (set used q true) rs) ≡ ((not (get_or used r false) && unused used rs) && not (eqb q r || member q rs))
    go (yes e) ih = rw (eq-eqb q r (sym e), e, get_or-set_same used q true false h) (sym (and-false (not (get_or used q false) && unused used rs)))
    go (no n) ih = rw (ne_eqb q r (λ e. n (sym e)), get_or-set_other used q r true false n, ih) (one (not (get_or used r false)) (unused used rs) (member q rs))

-- the code's marks are long enough for every place
fresh_is : (p : ℕ) (used : List Bool) (qs : List ℕ) → p ≤ length used → fresh_in p used qs ≡ (all (λ (q : ℕ). ltb q p) qs && (unused used qs && distinct qs))
unfolding fresh_in unused
fresh_is p used [] h = refl
fresh_is p used (q ∷ qs) h = go (ltb q p) refl (fresh_is p (set used q true) qs (rw (length-set used q true) h))
  where
    shuffle : (u b m e d : Bool) → (u && (b && ((m && e) && d))) ≡ (b && ((u && m) && (e && d)))
    shuffle true true true e d = refl
    shuffle true true false e d = refl
    shuffle true false m e d = refl
    shuffle false true m e d = refl
    shuffle false false m e d = refl

    go : (t : Bool) → ltb q p ≡ t → fresh_in p (set used q true) qs ≡ (all (λ (q : ℕ). ltb q p) qs && (unused (set used q true) qs && distinct qs))
        → (t && (not (get_or used q false) && fresh_in p (set used q true) qs)) ≡ ((t && all (λ (q : ℕ). ltb q p) qs) && ((not (get_or used q false) && unused used qs) && (not (member q qs) && distinct qs)))
    go false e ih = refl
    go true e ih = rw (ih, mark_one used q qs (let l = ltb-true q p e in omega arith)) (shuffle (not (get_or used q false)) (all (λ (q : ℕ). ltb q p) qs) (unused used qs) (not (member q qs)) (distinct qs))

fresh_none : (n : ℕ) (qs : List ℕ) → unused (replicate n false) qs ≡ true
unfolding unused
fresh_none n [] = refl
fresh_none n (q ∷ qs) = rw (get_d_replicate_self n q false, fresh_none n qs)

-- the unused entries of the list of level i are 0
abbrev pub unlisted_zero : Layout → List ℕ → ℕ → Bool
unlisted_zero z ws i = all is_zero (drop (count_at z ws i) (list_at z ws i))

lists_fresh : (z : Layout) (ws : List ℕ) (i n : ℕ) (used : List Bool) → ((j : ℕ) → i ≤ j → j < i + n → Listed z ws j)
    → lists_from z ws i n used ≡ (fresh_in z.geo.p used (listed_places z ws i n) && all (unlisted_zero z ws) (range i n))
unfolding lists_from listed_places fresh_in
lists_fresh z ws i zero used f = refl
lists_fresh z ws i (suc n) used f =
    let l = f i (omega arith) (omega arith) in
    let c = count_at z ws i in
    let ps = words_from ws (list_start z i) c in
    rw (
      fresh_list ws z.geo.p (list_start z i) c used,
      mark_list ws (list_start z i) c used,
      lists_fresh z ws (suc i) n (mark_in used ps) (λ j a b. f j (omega arith) (omega arith)),
      listed_words z ws i l,
      unlisted_words z ws i l,
      words_zero ws (list_start z i + c) (capacity_of z.geo i - c),
      fresh_append z.geo.p used ps (listed_places z ws (suc i) n),
    )
    (go (fresh_in z.geo.p used ps) (zeros_at ws (list_start z i + c) (capacity_of z.geo i - c)) (fresh_in z.geo.p (mark_in used ps) (listed_places z ws (suc i) n)) (all (unlisted_zero z ws) (range (suc i) n)))
  where
    go : (a y b u : Bool) → (a && (y && (b && u))) ≡ ((a && b) && (y && u))
    go true true b u = refl
    go true false true u = refl
    go true false false u = refl
    go false y b u = refl

-- "listed places are below P, none twice over all levels", and the unused list entries are 0
pub lists_rules : (z : Layout) (ws : List ℕ) → z.geo.p ≤ 8192 → ((i : ℕ) → 1 ≤ i → i ≤ z.geo.h → Listed z ws i) → lists_ok z ws ≡ ((places_inside z ws && places_once z ws) && lists_unused_zero z ws)
unfolding lists_ok places_inside places_once lists_unused_zero
lists_rules z ws h f =
    lists_fresh z ws 1 z.geo.h (replicate 8192 false) (λ j a b. f j a (omega arith))
    ∙ rw (fresh_is z.geo.p (replicate 8192 false) (all_listed z ws) (rw (length-replicate 8192 false) h), fresh_none 8192 (all_listed z ws))
