-- What a walk has found: all live keys, the first from a key on, or a stretch.
use Prim.Native.Nat.{ℕ, suc, ◌+◌, ◌≤◌, ◌<◌, min}
use mathlib.Core.Path.{◌≡◌, refl, sym, ap, ◌∙◌}
use mathlib.Core.Bool.{Bool, true}
use mathlib.Core.List.{List, [], ◌∷◌, ◌++◌, append-nil}
use mathlib.Core.Option.{none, some}
use mathlib.Core.Logic.{dite}
use native.Mathlib.Decide.{dec_lt}
use native.Mathlib.Nat.{min-eq_left, min-eq_right}
use native.Mathlib.Omega.{arith}
use native.Mathlib.Numerals.{add-one}
use lib.Dec.{ltb}
use lib.ListN.{length, take, get_or, length-append, length-take}
use borrow.Author.Tests.{le-leb, lt-leb, lt-ltb, le-ltb}
use Rattle.std.specs.Prelude.{Some, None}
use Rattle.levels.specs.Record.{Rec}
use Rattle.levels.specs.Map.{unmarked, first_from, stretch}
use Rattle.levels.specs.Rising.{Rising, Below}
use Rattle.levels.proofs.Laid.{kept_length}
use Rattle.levels.proofs.Rising.{rising_left}
use Rattle.levels.proofs.View.{unmarked_rising}
use Rattle.levels.proofs.Stretch.{stretch_append, stretch_below, stretch_above, stretch_whole}
use Rattle.words.specs.Calls.{StretchAnswer, StretchOutcome, filled}
use Rattle.walk.specs.declared.Front.{Front}
use Rattle.directory.specs.declared.Directory.{Directory}
use Rattle.walk.specs.Walk.{layered, rests, Ahead, Entered, Written, Walked, following_of}
use Rattle.walk.proofs.Listing.{written_full}
use Rattle.walk.proofs.Between.{unmarked_append}
use Rattle.walk.proofs.Walking.{unmarked_below}

-- as many as there are records at most
pub walked_few : (ws : List ℕ) (f : Front) (stop most : ℕ) (keys pays : List ℕ) (n : ℕ) (keys' pays' : List ℕ) → Ahead ws f → Walked ws f stop most keys pays n keys' pays' → n ≤ 65536
walked_few ws f stop most keys pays n keys' pays' a w =
    let e = ap (λ (rs : List Rec). length rs) w.cut ∙ length-append w.passed w.left in
    omega (arith, w.counted, e, a.few, kept_length true (rests ws f))

-- the first record from a key on stands behind those below it
first_from_behind : (q : ℕ) (xs ys : List Rec) → Below q xs → first_from q (xs ++ ys) ≡ first_from q ys
unfolding first_from
first_from_behind q [] ys b = refl
first_from_behind q (x ∷ xs) ys b = rw (lt-leb q x.key b.0, first_from) (first_from_behind q xs ys b.1)

first_from_head : (q : ℕ) (r : Rec) (rs : List Rec) → q ≤ r.key → first_from q (r ∷ rs) ≡ some r
unfolding first_from
first_from_head q r rs h = rw (le-leb q r.key h, first_from)

-- What lies before a key, and what a walk from there has passed and left.
module _ (ws : List ℕ) (l : List Directory) (q : ℕ) (f : Front) (o : Entered ws l q f) (stop most : ℕ) (keys pays : List ℕ) (n : ℕ) (keys' pays' : List ℕ) (w : Walked ws f stop most keys pays n keys' pays') where
  shown_is : unmarked (layered ws l) ≡ unmarked o.passed ++ (w.passed ++ w.left)
  shown_is = ap unmarked o.cut ∙ unmarked_append o.passed (rests ws f) ∙ ap (λ (rs : List Rec). unmarked o.passed ++ rs) w.cut

  rises_from : Rising q (w.passed ++ w.left)
  rises_from = rw w.cut at (unmarked_rising q (rests ws f) o.from)

  first_is : first_from q (unmarked (layered ws l)) ≡ first_from q (w.passed ++ w.left)
  first_is = ap (first_from q) shown_is ∙ first_from_behind q (unmarked o.passed) (w.passed ++ w.left) (unmarked_below q o.passed o.below)

-- The next live key: none, or the one that is written.
module _ (ws : List ℕ) (l : List Directory) (q : ℕ) (f : Front) (o : Entered ws l q f) (n : ℕ) (keys' pays' : List ℕ) (w : Walked ws f 4294967296 0 (0 ∷ []) (0 ∷ []) n keys' pays') where
  pub next_none : n < 1 → None ≡ following_of (first_from q (unmarked (layered ws l)))
  unfolding first_from
  next_none h =
      let z = w.all (omega arith) (omega arith) in
      let p = length_zero w.passed (omega (arith, w.counted)) in
      let i : first_from q (w.passed ++ w.left) ≡ none = rw (p, z) in
      sym (ap following_of (first_is ws l q f o 4294967296 0 (0 ∷ []) (0 ∷ []) n keys' pays' w ∙ i))
    where
      length_zero : (xs : List Rec) → length xs ≡ 0 → xs ≡ []
      length_zero [] e = refl
      length_zero (x ∷ xs) e = absurd (omega arith)

  pub next_some : 1 ≤ n → (Some (get_or keys' 0 0, get_or pays' 0 0) ≡ following_of (first_from q (unmarked (layered ws l)))) × (get_or keys' 0 0 < 4294967296)
  next_some h = go w.passed refl
    where
      go : (rs : List Rec) → w.passed ≡ rs → (Some (get_or keys' 0 0, get_or pays' 0 0) ≡ following_of (first_from q (unmarked (layered ws l)))) × (get_or keys' 0 0 < 4294967296)
      go [] e = absurd (omega (arith, w.counted, ap (λ (xs : List Rec). length xs) e))
      go (r ∷ rs) e =
          let k : get_or keys' 0 0 ≡ r.key = rw (w.written.keys_are, e) in
          let v : get_or pays' 0 0 ≡ r.pay = rw (w.written.pays_are, e) in
          let u : Rising q (r ∷ (rs ++ w.left)) = rw e at (rises_from ws l q f o 4294967296 0 (0 ∷ []) (0 ∷ []) n keys' pays' w) in
          let b : Below 4294967296 (r ∷ rs) = rw e at w.below in
          let i : first_from q (unmarked (layered ws l)) ≡ some r =
          first_is ws l q f o 4294967296 0 (0 ∷ []) (0 ∷ []) n keys' pays' w ∙ rw e (first_from_head q r (rs ++ w.left) u.0) in
          (rw (k, v) (sym (ap following_of i)), omega (arith, b.0))

-- the answer and the arrays of `filled`, part by part
filled_is : (rs : List Rec) (keys pays : List ℕ) (w : ℕ) (t : Bool) (keys' pays' : List ℕ) → length (take (min (length keys) (length pays)) rs) ≡ w → ltb (length (take (min (length keys) (length pays)) rs)) (length rs) ≡ t → Written keys pays rs keys' pays'
    → ◌≡◌ {A = StretchOutcome StretchAnswer} (record { answer = record { reason = 0; written = w; more = t }; keys = keys'; pays = pays' }) (filled rs keys pays)
unfolding filled
filled_is rs keys pays w t keys' pays' d m q = rw (← d, ← m, q.keys_are, q.pays_are)

-- A stretch.
module _ (ws : List ℕ) (l : List Directory) (first last : ℕ) (f : Front) (o : Entered ws l first f) (keys pays : List ℕ) (room n : ℕ) (keys' pays' : List ℕ) (w : Walked ws f (last + 1) room keys pays n keys' pays') (e : room ≡ min (length keys) (length pays)) where
  -- the records passed are of the stretch, and what is left is what it has behind them
  stretch_is : stretch first last (unmarked (layered ws l)) ≡ w.passed ++ stretch first last w.left
  stretch_is =
      let b : Below (suc last) w.passed = rw (add-one last) at w.below in
      ap (stretch first last) (shown_is ws l first f o (last + 1) room keys pays n keys' pays' w)
      ∙ stretch_append first last (unmarked o.passed) (w.passed ++ w.left)
      ∙ rw (stretch_below first last (unmarked o.passed) (unmarked_below first o.passed o.below))
      (stretch_append first last w.passed w.left
      ∙ rw (stretch_whole first last first w.passed (omega arith) (rising_left first w.passed w.left (rises_from ws l first f o (last + 1) room keys pays n keys' pays' w)) b))

  pub walked_stretch : (written : ℕ) → written ≡ min n room
      → ◌≡◌ {A = StretchOutcome StretchAnswer} (record { answer = record { reason = 0; written = written; more = ltb room n }; keys = keys'; pays = pays' }) (filled (stretch first last (unmarked (layered ws l))) keys pays)
  walked_stretch written s = rw stretch_is (dite (dec_lt room n) cut_off whole)
    where
      taken : (xs : List Rec) → length (take (min (length keys) (length pays)) xs) ≡ min room (length xs)
      taken xs = ap (λ (k : ℕ). length (take k xs)) (sym e) ∙ length-take room xs

      -- an array is full, and more follow
      cut_off : room < n → ◌≡◌ {A = StretchOutcome StretchAnswer} (record { answer = record { reason = 0; written = written; more = ltb room n }; keys = keys'; pays = pays' }) (filled (w.passed ++ stretch first last w.left) keys pays)
      cut_off h =
          let c = length-append w.passed (stretch first last w.left) in
          let k : length (take (min (length keys) (length pays)) (w.passed ++ stretch first last w.left)) ≡ room = taken (w.passed ++ stretch first last w.left) ∙ min-eq_left (omega (arith, c, w.counted)) in
          let z : room ≡ written = sym (s ∙ min-eq_right (omega arith)) in
          filled_is (w.passed ++ stretch first last w.left) keys pays written (ltb room n) keys' pays' (k ∙ z)
          (rw k (lt-ltb room (length (w.passed ++ stretch first last w.left)) (omega (arith, c, w.counted)) ∙ sym (lt-ltb room n h)))
          (written_full keys pays w.passed keys' pays' w.written (stretch first last w.left) (omega (arith, w.counted)))

      -- the stretch is used up
      whole : (room < n → ⊥) → ◌≡◌ {A = StretchOutcome StretchAnswer} (record { answer = record { reason = 0; written = written; more = ltb room n }; keys = keys'; pays = pays' }) (filled (w.passed ++ stretch first last w.left) keys pays)
      whole h =
          let q = stretch_above first last (last + 1) w.left (w.ended (omega arith)) (omega arith) in
          let k : length (take (min (length keys) (length pays)) w.passed) ≡ n = taken w.passed ∙ min-eq_right (omega (arith, w.counted)) ∙ sym w.counted in
          let z : n ≡ written = sym (s ∙ min-eq_left (omega arith)) in
          rw (q, append-nil w.passed)
          (filled_is w.passed keys pays written (ltb room n) keys' pays' (k ∙ z) (rw k (le-ltb n (length w.passed) (omega (arith, w.counted)) ∙ sym (le-ltb room n (omega arith)))) w.written)
