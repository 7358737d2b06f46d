-- The work array of a call: its lists one by one, and against the store that the words hold.
use Prim.Native.Nat.{ℕ, suc, ◌+◌, ◌≤◌, ◌<◌}
use mathlib.Core.Path.{◌≡◌, refl, sym, ap, ◌∙◌}
use mathlib.Core.List.{List, [], map}
use mathlib.Core.Logic.{◌≢◌, dite}
use native.Mathlib.Decide.{dec_lt, ℕ_discrete}
use native.Mathlib.Numerals.{one-add}
use native.Mathlib.Omega.{arith}
use lib.ListN.{length, take, drop, get_or, set, replicate, length-set, length-map, get_or-map, get_or-eq_default}
use lib.Seq.{get_or-set_same, get_or-set_other, take_all, ext_get_or}
use Rattle.slices.specs.Slices.{put_at}
use Rattle.slices.proofs.Put.{put_length}
use Rattle.geometry.specs.Geometry.{capacity_of}
use Rattle.geometry.specs.Room.{list_room}
use Rattle.levels.specs.Record.{Level}
use Rattle.levels.specs.Store.{Store}
use Rattle.levels.specs.Every.{Every}
use Rattle.levels.specs.Sound.{Fits}
use Rattle.levels.proofs.Each.{get_d_each, map_each, each_same, each_get_d}
use Rattle.levels.proofs.Lists.{get_d_replicate_self}
use Rattle.words.specs.Stores.{count_at, listed_at, level_at, pad, place_of, pieces}
use Rattle.words.proofs.Lists.{level_places}
use Rattle.words.proofs.Parts.{pad_length, pad_word}
use Rattle.words.proofs.State.{levels_held}
use Rattle.lists.specs.Flat.{part_start, part_room, part_of}
use Rattle.lists.specs.Lists.{list_of, lists_of, Listed, places_at}
use Rattle.lists.proofs.Flat.{part_inside, part_fits, put_part, put_other}
use Rattle.lists.proofs.Room.{list_in_store, listed_is, listed_length}
use Rattle.layout.specs.Layouts.{Proper, list_start}
use Rattle.layout.specs.declared.Layout.{Layout}
use Rattle.pieces.specs.Pieces.{Held}
use Rattle.words.specs.Passed.{Standing}

-- the places of the blocks of every level
abbrev pub places_in : List Level → List (List ℕ)
places_in ls = map (λ (l : Level). map place_of l) ls

-- What holds of level i + 1's list: the count and the entries.
abbrev pub At : ℕ → List ℕ → List ℕ → (ℕ → List ℕ) → ℕ → Type 0
At h lists ns p i = (get_or ns i 0 ≡ length (p i)) × (list_of h lists ns i ≡ p i)

-- it is new, another count is, or it is as it was
pub at_new : (h : ℕ) (lists ns : List ℕ) (p : ℕ → List ℕ) (j c : ℕ) → j < length ns → c ≡ length (p j) → take c (part_of h lists (suc j)) ≡ p j → At h lists (set ns j c) p j
at_new h lists ns p j c l a b = let e : get_or (set ns j c) j 0 ≡ c = get_or-set_same ns j c 0 l in (e ∙ a, ap (λ (x : ℕ). take x (part_of h lists (suc j))) e ∙ b)

pub at_other : (h : ℕ) (lists ns : List ℕ) (p : ℕ → List ℕ) (j c i : ℕ) → i ≢ j → At h lists ns p i → At h lists (set ns j c) p i
at_other h lists ns p j c i n a = let e : get_or (set ns j c) i 0 ≡ get_or ns i 0 = get_or-set_other ns j i c 0 n in (e ∙ a.0, ap (λ (x : ℕ). take x (part_of h lists (suc i))) e ∙ a.1)

pub at_kept : (h : ℕ) (lists lists' ns : List ℕ) (p p' : ℕ → List ℕ) (i : ℕ) → part_of h lists' (suc i) ≡ part_of h lists (suc i) → p' i ≡ p i → At h lists ns p i → At h lists' ns p' i
at_kept h lists lists' ns p p' i e q a = (a.0 ∙ ap length (sym q), ap (take (get_or ns i 0)) e ∙ a.1 ∙ sym q)

-- nothing is listed yet
pub listed_none : (h : ℕ) (lists : List ℕ) (p : ℕ → List ℕ) → length lists ≡ list_room → Listed h 0 lists (replicate 3 0) p
listed_none h lists p l = record {
  long = l;
  three = refl;
  counts = λ j a. absurd (omega arith);
  places = λ j a. absurd (omega arith);
  none = λ j a. get_d_replicate_self 3 j 0;
}

-- the same lists, said otherwise
pub listed_same : (h n : ℕ) (lists ns : List ℕ) (p q : ℕ → List ℕ) → Listed h n lists ns p → ((i : ℕ) → i < n → p i ≡ q i) → Listed h n lists ns q
listed_same h n lists ns p q k e = record { long = k.long; three = k.three; counts = λ i l. k.counts i l ∙ ap length (e i l); places = λ i l. k.places i l ∙ e i l; none = k.none }

-- A list of c entries for level j + 1, new or another: n levels have lists then, and the others keep theirs.
pub listed_new : (h m n j c : ℕ) (lists lists' ns : List ℕ) (p p' : ℕ → List ℕ) → Listed h m lists ns p → j < n → m ≤ n → n ≤ h → h ≤ 3 → ((i : ℕ) → i < n → i ≢ j → i < m)
    → length lists' ≡ list_room → c ≡ length (p' j) → take c (part_of h lists' (suc j)) ≡ p' j
    → ((i : ℕ) → 1 ≤ i → i ≤ h → i ≢ suc j → part_of h lists' i ≡ part_of h lists i) → ((i : ℕ) → i ≢ j → p' i ≡ p i) → Listed h n lists' (set ns j c) p'
listed_new h m n j c lists lists' ns p p' k low le hh ht was long count new kept same =
    record {
      long = long;
      three = length-set ns j c ∙ k.three;
      counts = λ i l. (at i l (ℕ_discrete i j)).0;
      places = λ i l. (at i l (ℕ_discrete i j)).1;
      none = λ i l. get_or-set_other ns j i c 0 (λ e. omega (arith, e)) ∙ k.none i (omega arith);
    }
  where
    at : (i : ℕ) → i < n → Dec (i ≡ j) → At h lists' (set ns j c) p' i
    at i l (yes e) = rw e (at_new h lists' ns p' j c (omega (arith, k.three)) count new)
    at i l (no a) = at_other h lists' ns p' j c i a (at_kept h lists lists' ns p p' i (kept (suc i) (omega arith) (omega arith) (λ z. a (omega arith))) (same i a) (k.counts i (was i l a), k.places i (was i l a)))

-- xs written to the front of the part of level j + 1
pub listed_put : (h m n j : ℕ) (lists ns xs : List ℕ) (p p' : ℕ → List ℕ) → Listed h m lists ns p → j < n → m ≤ n → n ≤ h → h ≤ 3 → ((i : ℕ) → i < n → i ≢ j → i < m)
    → length xs ≤ part_room h (suc j) → p' j ≡ xs → ((i : ℕ) → i ≢ j → p' i ≡ p i) → Listed h n (put_at (part_start h (suc j)) xs lists) (set ns j (length xs)) p'
listed_put h m n j lists ns xs p p' k low le hh ht was fit e =
    listed_new h m n j (length xs) lists (put_at (part_start h (suc j)) xs lists) ns p p' k low le hh ht was
    (put_length (part_start h (suc j)) xs lists (omega (arith, k.long, part_inside h (suc j))) ∙ k.long) (ap length (sym e)) (put_part h (suc j) xs lists k.long fit ∙ sym e)
    (λ i a b c. put_other h (suc j) xs lists k.long fit ht (omega arith) (omega arith) i a b (λ z. c (sym z)))

-- What `load` does for level i + 1, whose count it reads.
module _ (z : Layout) (ws : List ℕ) (v : Proper z) (l : length ws ≡ z.length) (i level n : ℕ) (el : level ≡ suc i) (h : level ≤ z.geo.h) (c : count_at z ws (suc i) ≤ capacity_of z.geo (suc i)) (en : n ≡ get_or ws (z.count + (i + 1)) 0) where
  read : n ≡ count_at z ws (suc i)
  read = en ∙ (let e : z.count + (i + 1) ≡ z.count + suc i = omega arith in ap (λ (x : ℕ). get_or ws x 0) e)

  few : n ≤ capacity_of z.geo (suc i)
  few = omega (arith, read, c)

  pub load_inside : (list_start z level + n ≤ length ws) × (part_start z.geo.h level + n ≤ list_room)
  load_inside = rw el (omega (arith, few, list_in_store z (length ws) (suc i) v l (omega arith) (omega arith)), (part_fits z v (suc i) n (omega arith) (omega (arith, few))).1)

  pub load_more : (lists ns : List ℕ) (start to : ℕ) → start ≡ list_start z level → to ≡ part_start z.geo.h level → Listed z.geo.h i lists ns (λ j. listed_at z ws (suc j)) → Listed z.geo.h level (put_at to (take n (drop start ws)) lists) (set ns i n) (λ j. listed_at z ws (suc j))
  load_more lists ns start to es et k =
      let f = listed_length z ws (suc i) n read few (omega (arith, list_in_store z (length ws) (suc i) v l (omega arith) (omega arith))) in
      let e : put_at to (take n (drop start ws)) lists ≡ put_at (part_start z.geo.h (suc i)) (listed_at z ws (suc i)) lists = rw (et, es, el, listed_is z ws (suc i) n read few) in
      rw (e, el, ← f)
      (listed_put z.geo.h i (suc i) i lists ns (listed_at z ws (suc i)) _ (λ j. listed_at z ws (suc j)) k (omega arith) (omega arith) (omega arith) v.valid.ranged.h_high (λ x a b. omega (arith, b))
      (omega (arith, f, part_fits z v (suc i) n (omega arith) (omega (arith, few)))) refl (λ x a. refl))

-- Lists that are a store's.
module _ (h : ℕ) (lists ns : List ℕ) (t : Store) (many : length t.levels ≡ h) (k : Listed h h lists ns (places_at t)) where
  pub lists_are : lists_of h lists ns ≡ places_in t.levels
  unfolding lists_of
  lists_are =
      each_same (list_of h lists ns) (places_at t) 0 h (λ j a l. k.places j (omega arith))
      ∙ sym (map_each (λ (l : Level). map place_of l) (λ (j : ℕ). get_or t.levels j []) 0 h) ∙ ap places_in (each_get_d [] t.levels h (omega arith) ∙ take_all h t.levels (omega arith))

  pub count_is : (j : ℕ) → get_or ns j 0 ≡ length (get_or t.levels j [])
  count_is j =
      dite (dec_lt j h) (λ y. k.counts j y ∙ length-map (get_or t.levels j []) place_of)
      (λ n. k.none j (omega arith) ∙ sym (ap length (get_or-eq_default t.levels [] (omega arith))))

  pub counts_are : h ≤ 3 → ns ≡ pad 3 (map (λ (l : Level). length l) t.levels)
  counts_are l =
      let ls : List ℕ = map (λ (l : Level). length l) t.levels in
      ext_get_or 0 ns (pad 3 ls) (k.three ∙ sym (pad_length 3 ls (rw length-map (omega arith))))
      (λ i a. count_is i ∙ sym (pad_word 3 ls i ∙ get_or-map (λ (l : Level). length l) t.levels i []))

-- what `load` gives: the places of the level
pub places_listed : (z : Layout) (ws : List ℕ) (t : Store) → Proper z → Fits z.geo t → length ws ≡ z.length → Every (Held ws) (pieces z t) → Standing z ws t.levels → (i : ℕ) → i < z.geo.h → listed_at z ws (suc i) ≡ places_at t i
unfolding listed_at
places_listed z ws t v f l o d i h =
    sym (level_places z ws (suc i)) ∙ ap (map place_of) (sym (rw one-add at (get_d_each (level_at z ws) 1 z.geo.h i [] h)) ∙ ap (λ (ls : List Level). get_or ls i []) (levels_held z ws t v f l o d))
