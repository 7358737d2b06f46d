-- The call of card 1 (document 02): what it writes and leaves, how a walk is resumed, and that walking on gives the whole stretch.
use Prim.Native.Nat.{ℕ, suc, ◌-◌, ◌≤◌, ◌<◌, min}
use mathlib.Core.Path.{◌≡◌, refl, sym, ap, ◌∙◌}
use mathlib.Core.Bool.{Bool, true, false}
use mathlib.Core.List.{List, [], ◌∷◌, ◌++◌, map, append-nil}
use mathlib.Core.Logic.{◌≢◌, dite}
use native.Mathlib.Decide.{dec_lt}
use native.Mathlib.Nat.{min-le_left, min-le_right, min-eq_left, min-eq_right}
use native.Mathlib.Omega.{arith}
use lib.ListN.{length, take, drop, get_or, length-append, length-drop, length-take, length-map, get_or-append, take-append-drop, drop_of_length-le}
use lib.Seq.{take_all, take-append_seam, drop-append_seam, drop-cons, get_or-take, split_at}
use borrow.Author.Tests.{ltb-true, ltb-false, eq-eqb, ne_eqb}
use Rattle.levels.specs.Basics.{if◌then◌otherwise◌}
use Rattle.levels.specs.Record.{Rec}
use Rattle.levels.specs.Map.{stretch}
use Rattle.levels.specs.Rising.{Rising}
use Rattle.levels.proofs.Lists.{get_d_map_in, map_take, map_drop}
use Rattle.levels.proofs.Stretch.{stretch_resumed, stretch_room}
use Rattle.words.specs.Stores.{keys_of, pays_of}
use Rattle.words.specs.Form.{reason_of}
use Rattle.words.specs.Calls.{StretchAnswer, StretchOutcome, over, filled, map_at, stretch_of}
use Rattle.words.proofs.MapAfter.{map_rises}

-- Of words that pass, "The list is the map's stretch cut at that length"; others are turned down, and no entry of an array changes.
pub stretch_map : (ws : List ℕ) (first last : ℕ) (keys pays : List ℕ) → reason_of ws ≡ 0 → stretch_of ws first last keys pays ≡ filled (stretch first last (map_at ws)) keys pays
unfolding stretch_of
stretch_map ws first last keys pays e = rw (eq-eqb (reason_of ws) 0 e, stretch_of)

pub stretch_turned_down : (ws : List ℕ) (first last : ℕ) (keys pays : List ℕ) → reason_of ws ≢ 0
    → stretch_of ws first last keys pays ≡ record { answer = record { reason = reason_of ws; written = 0; more = false }; keys = keys; pays = pays }
unfolding stretch_of
stretch_turned_down ws first last keys pays n = rw (ne_eqb (reason_of ws) 0 n, stretch_of)

-- an array with entries written from its start on
module _ (xs old : List ℕ) where
  over_front : take (length xs) (over xs old) ≡ xs
  over_front = take-append_seam xs (drop (length xs) old)

  over_behind : drop (length xs) (over xs old) ≡ drop (length xs) old
  over_behind = drop-append_seam xs (drop (length xs) old)

  over_length : length xs ≤ length old → length (over xs old) ≡ length old
  over_length h = length-append xs (drop (length xs) old) ∙ rw (length-drop (length xs) old) (omega arith)

-- for `get_or`, which wants a value where there is none
no_rec : Rec
no_rec = record { key = 0; tombstone = false; pay = 0 }

-- Records written to two arrays.
module _ (rs : List Rec) (keys pays : List ℕ) where
  -- those that have room
  abbrev pub cut_of : List Rec
  cut_of = take (min (length keys) (length pays)) rs

  pub cut_length : length cut_of ≡ min (min (length keys) (length pays)) (length rs)
  cut_length = length-take (min (length keys) (length pays)) rs

  pub cut_written : (filled rs keys pays).answer.written ≡ length cut_of
  unfolding filled
  cut_written = refl

  pub cut_fits : (length cut_of ≤ length keys) × ((length cut_of ≤ length pays) × (length cut_of ≤ length rs))
  cut_fits =
      let a = min-le_left (min (length keys) (length pays)) (length rs) in
      let b = min-le_right (min (length keys) (length pays)) (length rs) in
      let c = min-le_left (length keys) (length pays) in
      let d = min-le_right (length keys) (length pays) in
      (omega (arith, cut_length), (omega (arith, cut_length), omega (arith, cut_length)))

  -- The entries up to the last written one are theirs, "Entries behind the last written one keep their content", and both arrays keep their lengths.
  pub filled_keys : take (filled rs keys pays).answer.written (filled rs keys pays).keys ≡ keys_of cut_of
  unfolding filled
  filled_keys = ap (λ (n : ℕ). take n (over (keys_of cut_of) keys)) (sym (length-map cut_of (λ (r : Rec). r.key))) ∙ over_front (keys_of cut_of) keys

  pub filled_pays : take (filled rs keys pays).answer.written (filled rs keys pays).pays ≡ pays_of cut_of
  unfolding filled
  filled_pays = ap (λ (n : ℕ). take n (over (pays_of cut_of) pays)) (sym (length-map cut_of (λ (r : Rec). r.pay))) ∙ over_front (pays_of cut_of) pays

  pub filled_keys_behind : drop (filled rs keys pays).answer.written (filled rs keys pays).keys ≡ drop (filled rs keys pays).answer.written keys
  unfolding filled
  filled_keys_behind = rw (sym (length-map cut_of (λ (r : Rec). r.key))) (over_behind (keys_of cut_of) keys)

  pub filled_pays_behind : drop (filled rs keys pays).answer.written (filled rs keys pays).pays ≡ drop (filled rs keys pays).answer.written pays
  unfolding filled
  filled_pays_behind = rw (sym (length-map cut_of (λ (r : Rec). r.pay))) (over_behind (pays_of cut_of) pays)

  pub filled_lengths : (length (filled rs keys pays).keys ≡ length keys) × (length (filled rs keys pays).pays ≡ length pays)
  unfolding filled
  filled_lengths = (
    over_length (keys_of cut_of) keys (rw (length-map cut_of (λ (r : Rec). r.key)) cut_fits.0),
    over_length (pays_of cut_of) pays (rw (length-map cut_of (λ (r : Rec). r.pay)) cut_fits.1.0),
  )

  -- no more follow: all were written; more follow: the shorter array is full
  pub filled_ends : (filled rs keys pays).answer.more ≡ false → cut_of ≡ rs
  unfolding filled
  filled_ends e =
      let l = ltb-false (length cut_of) (length rs) e in
      let n = min-le_left (min (length keys) (length pays)) (length rs) in
      take_all (min (length keys) (length pays)) rs (omega (arith, cut_length))

  pub filled_full : (filled rs keys pays).answer.more ≡ true → (length cut_of ≡ min (length keys) (length pays)) × (length cut_of < length rs)
  unfolding filled
  filled_full e =
      let room = min (length keys) (length pays) in
      let l = ltb-true (length cut_of) (length rs) e in
      dite (dec_lt room (length rs))
      (λ y. (cut_length ∙ min-eq_left (omega arith), l))
      (λ n. let q = min-eq_right {n = length rs} {m = room} (omega arith) in absurd (omega (arith, cut_length)))

  -- the last key that was written
  abbrev pub last_key : ℕ
  last_key = get_or (filled rs keys pays).keys ((filled rs keys pays).answer.written - 1) 0

  module _ (e : (filled rs keys pays).answer.more ≡ true) (w : 1 ≤ (filled rs keys pays).answer.written) where
    -- its record, and that behind it
    abbrev last_rec : Rec
    last_rec = get_or rs (length cut_of - 1) no_rec

    at_last : rs ≡ take (length cut_of - 1) rs ++ (last_rec ∷ drop (length cut_of) rs)
    unfolding filled
    at_last =
        let n : suc (length cut_of - 1) ≡ length cut_of = omega (arith, w) in
        split_at rs (length cut_of - 1) no_rec (omega (arith, w, cut_fits.1.1)) ∙ ap (λ (k : ℕ). take (length cut_of - 1) rs ++ (last_rec ∷ drop k rs)) n

    last_key_lem : last_key ≡ last_rec.key
    unfolding filled
    last_key_lem =
        let i : length cut_of - 1 < length cut_of = omega (arith, w) in
        let l : length cut_of - 1 < length (keys_of cut_of) = rw (length-map cut_of (λ (r : Rec). r.key)) i in
        let n : length cut_of - 1 < min (length keys) (length pays) = let q = (filled_full e).0 in omega arith in
        get_or-append (keys_of cut_of) (drop (length (keys_of cut_of)) keys) 0 (length cut_of - 1) l
        ∙ get_d_map_in (λ (r : Rec). r.key) cut_of (length cut_of - 1) no_rec 0 i ∙ ap (λ (r : Rec). r.key) (get_or-take (min (length keys) (length pays)) rs (length cut_of - 1) no_rec n)

-- A stretch of a sorted map: "where something was written and more follow, a walk resumed one key above the last written goes on with the rest, cut the same way".
module _ (first last low : ℕ) (m : List Rec) (h : Rising low m) (keys pays : List ℕ) (e : (filled (stretch first last m) keys pays).answer.more ≡ true)
    (w : 1 ≤ (filled (stretch first last m) keys pays).answer.written) where
  resume_below : last_key (stretch first last m) keys pays < last
  resume_below =
      let all : List Rec = stretch first last m in
      let n = length (cut_of all keys pays) in
      rw (last_key_lem all keys pays e w)
      (stretch_room first last low m (take (n - 1) all) (last_rec all keys pays e w) (drop n all) h (at_last all keys pays e w) (get_or all n no_rec) (drop (suc n) all)
      (drop-cons all n no_rec (filled_full all keys pays e).1))

  resume_rest : stretch (suc (last_key (stretch first last m) keys pays)) last m ≡ drop (filled (stretch first last m) keys pays).answer.written (stretch first last m)
  resume_rest =
      let all : List Rec = stretch first last m in
      let n = length (cut_of all keys pays) in
      rw (last_key_lem all keys pays e w, cut_written all keys pays)
      (stretch_resumed first last low m (take (n - 1) all) (last_rec all keys pays e w) (drop n all) h (at_last all keys pays e w))

-- The same of the call, with arrays of other lengths for the second.
module _ (ws : List ℕ) (first last : ℕ) (keys pays : List ℕ) (z : reason_of ws ≡ 0) (e : (stretch_of ws first last keys pays).answer.more ≡ true) (w : 1 ≤ (stretch_of ws first last keys pays).answer.written) where
  -- "so one above it is a word"
  pub stretch_below_last : get_or (stretch_of ws first last keys pays).keys ((stretch_of ws first last keys pays).answer.written - 1) 0 < last
  stretch_below_last =
      let s = stretch_map ws first last keys pays z in
      rw s (resume_below first last 0 (map_at ws) (map_rises ws z) keys pays (rw s at e) (rw s at w))

  pub stretch_goes_on : (keys' pays' : List ℕ)
      → stretch_of ws (suc (get_or (stretch_of ws first last keys pays).keys ((stretch_of ws first last keys pays).answer.written - 1) 0)) last keys' pays'
      ≡ filled (drop (stretch_of ws first last keys pays).answer.written (stretch first last (map_at ws))) keys' pays'
  stretch_goes_on keys' pays' =
      let s = stretch_map ws first last keys pays z in
      rw s
      (stretch_map ws (suc (last_key (stretch first last (map_at ws)) keys pays)) last keys' pays' z
      ∙ ap (λ (rs : List Rec). filled rs keys' pays') (resume_rest first last 0 (map_at ws) (map_rises ws z) keys pays (rw s at e) (rw s at w)))

-- A walk: each call is lent two arrays of its own, and goes on one key above the last written of the call before, until no more follow.
pub record Lent : Type 0 where
  pub keys : List ℕ
  pub pays : List ℕ

-- what a walk has written, call after call: of the keys, or of the payloads
unfoldable pub walk_on : (StretchOutcome StretchAnswer → List ℕ) → List ℕ → ℕ → ℕ → List Lent → List ℕ
walk_on part ws first last [] = []
walk_on part ws first last (l ∷ ls) =
    let o = stretch_of ws first last l.keys l.pays in
    take o.answer.written (part o) ++ (if o.answer.more then walk_on part ws (suc (get_or o.keys (o.answer.written - 1) 0)) last ls otherwise [])

-- every call is lent room for a record
abbrev pub Roomy : List Lent → Type 0
Roomy [] = Unit {0}
Roomy (l ∷ ls) = (1 ≤ min (length l.keys) (length l.pays)) × Roomy ls

-- Of words that pass, and for a part that each call writes `f` of its records into.
module _ (ws : List ℕ) (last : ℕ) (e : reason_of ws ≡ 0) (part : StretchOutcome StretchAnswer → List ℕ) (f : Rec → ℕ)
    (writes : (rs : List Rec) (keys pays : List ℕ) → take (filled rs keys pays).answer.written (part (filled rs keys pays)) ≡ map f (cut_of rs keys pays)) where
  walk_on_lem : (first : ℕ) (ls : List Lent) → Roomy ls → length (stretch first last (map_at ws)) ≤ length ls → walk_on part ws first last ls ≡ map f (stretch first last (map_at ws))
  unfolding walk_on
  walk_on_lem first [] r h = ap (map f) (sym (drop_of_length-le (stretch first last (map_at ws)) {i = 0} h))
  walk_on_lem first (l ∷ ls) r h =
      rw (stretch_map ws first last l.keys l.pays e)
      (go l.keys l.pays r.0 (filled (stretch first last (map_at ws)) l.keys l.pays).answer.more refl (λ from k. walk_on_lem from ls r.1 k))
    where
      go : (keys pays : List ℕ) → 1 ≤ min (length keys) (length pays) → (t : Bool) → (filled (stretch first last (map_at ws)) keys pays).answer.more ≡ t
          → ((from : ℕ) → length (stretch from last (map_at ws)) ≤ length ls → walk_on part ws from last ls ≡ map f (stretch from last (map_at ws)))
          → take (filled (stretch first last (map_at ws)) keys pays).answer.written (part (filled (stretch first last (map_at ws)) keys pays))
          ++ (if t then walk_on part ws (suc (last_key (stretch first last (map_at ws)) keys pays)) last ls otherwise []) ≡ map f (stretch first last (map_at ws))
      go keys pays w false q i = rw (writes (stretch first last (map_at ws)) keys pays, filled_ends (stretch first last (map_at ws)) keys pays q) (append-nil _)
      go keys pays w true q i =
          let all : List Rec = stretch first last (map_at ws) in
          let n = min (length keys) (length pays) in
          let c : (filled all keys pays).answer.written ≡ n = cut_written all keys pays ∙ (filled_full all keys pays q).0 in
          let b : stretch (suc (last_key all keys pays)) last (map_at ws) ≡ drop n all =
          resume_rest first last 0 (map_at ws) (map_rises ws e) keys pays q (omega arith) ∙ ap (λ (k : ℕ). drop k all) c in
          let d : length (stretch (suc (last_key all keys pays)) last (map_at ws)) ≤ length ls = rw (b, length-drop n all) (omega arith) in
          ap (λ (xs : List ℕ). xs ++ walk_on part ws (suc (last_key all keys pays)) last ls) (writes all keys pays ∙ map_take f n all)
          ∙ ap (λ (xs : List ℕ). take n (map f all) ++ xs) (i (suc (last_key all keys pays)) d ∙ ap (map f) b ∙ map_drop f n all) ∙ take-append-drop n (map f all)

-- Walking on to the end, with enough calls of room for a record each, gives the whole stretch, each record once: its keys rise (`stretch_first`).
module _ (ws : List ℕ) (first last : ℕ) (ls : List Lent) (e : reason_of ws ≡ 0) (r : Roomy ls) (h : length (stretch first last (map_at ws)) ≤ length ls) where
  pub walk_keys : walk_on (λ o. o.keys) ws first last ls ≡ keys_of (stretch first last (map_at ws))
  walk_keys = walk_on_lem ws last e (λ o. o.keys) (λ (s : Rec). s.key) filled_keys first ls r h

  pub walk_pays : walk_on (λ o. o.pays) ws first last ls ≡ pays_of (stretch first last (map_at ws))
  walk_pays = walk_on_lem ws last e (λ o. o.pays) (λ (s : Rec). s.pay) filled_pays first ls r h
