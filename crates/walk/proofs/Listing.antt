-- Records written to two arrays, one after the other.
use Prim.Native.Nat.{ℕ, suc, ◌≤◌, ◌<◌, min}
use mathlib.Core.Path.{◌≡◌, refl, sym, ap, ◌∙◌}
use mathlib.Core.Bool.{Bool, true, false}
use mathlib.Core.List.{List, [], ◌∷◌, ◌++◌, map, append-nil, append_assoc, map-append}
use mathlib.Core.Logic.{dite}
use native.Mathlib.Decide.{dec_lt}
use native.Mathlib.Nat.{min-le_left, min-le_right, le-min}
use native.Mathlib.Omega.{arith}
use lib.Dec.{ltb}
use lib.ListN.{length, take, drop, set, get_or, length-append, length-map, length-drop, length-take, length-set}
use lib.Seq.{take_all, take-append-le, drop-cons, set-append_seam, set-get_or}
use borrow.Author.Tests.{lt-ltb, le-ltb}
use Rattle.levels.specs.Basics.{if◌then◌otherwise◌}
use Rattle.levels.specs.Record.{Rec}
use Rattle.levels.specs.Map.{unmarked}
use Rattle.levels.proofs.View.{unmarked_drop, unmarked_keep}
use Rattle.words.specs.Calls.{over}
use Rattle.walk.specs.Walk.{Written, kept_of, entered}

-- an entry that there is no room for, and one that there is
entered_full : (t : Bool) (room n x : ℕ) (xs : List ℕ) → room ≤ n → entered t room n x xs ≡ xs
unfolding entered
entered_full true room n x xs h = refl
entered_full false room n x xs h = rw (le-ltb n room h)

module _ (a b n x : ℕ) (xs : List ℕ) where
  pub entered_full_left : (t : Bool) → a ≤ n → entered t (min a b) n x xs ≡ xs
  entered_full_left t h = entered_full t (min a b) n x xs (omega (arith, min-le_left a b))

  pub entered_full_right : (t : Bool) → b ≤ n → entered t (min a b) n x xs ≡ xs
  entered_full_right t h = entered_full t (min a b) n x xs (omega (arith, min-le_right a b))

  -- for a tombstone the code writes the old entry
  pub entered_kept : (t : Bool) → n < a → n < b → set xs n (kept_of t (get_or xs n 0) x) ≡ entered t (min a b) n x xs
  unfolding entered
  entered_kept true h l = set-get_or xs n 0
  entered_kept false h l = rw (lt-ltb n (min a b) (le-min h l))

pub entered_length : (t : Bool) (room n x : ℕ) (xs : List ℕ) → length (entered t room n x xs) ≡ length xs
unfolding entered
entered_length true room n x xs = refl
entered_length false room n x xs = go (ltb n room)
  where
    go : (t : Bool) → length (if t then set xs n x otherwise xs) ≡ length xs
    go true = length-set xs n x
    go false = refl

-- the next entry of an array
over_next : (xs old : List ℕ) (x : ℕ) → length xs < length old → set (over xs old) (length xs) x ≡ over (xs ++ (x ∷ [])) old
over_next xs old x h =
    let n : length (xs ++ (x ∷ [])) ≡ suc (length xs) = length-append xs (x ∷ []) ∙ omega arith in
    ap (λ (ys : List ℕ). set (xs ++ ys) (length xs) x) (drop-cons old (length xs) 0 h)
    ∙ set-append_seam xs (get_or old (length xs) 0) (drop (suc (length xs)) old) x
    ∙ rw n (sym (append_assoc xs (x ∷ []) (drop (suc (length xs)) old)))

-- One array: what f says of the first m records, m at most its length.
module _ (f : Rec → ℕ) (m : ℕ) (old : List ℕ) (h : m ≤ length old) where
  one_long : (rs : List Rec) → length (over (map f (take m rs)) old) ≡ length old
  one_long rs =
      let a = length-map (take m rs) f in
      let b = length-take m rs in
      let c = min-le_left m (length rs) in
      length-append (map f (take m rs)) (drop (length (map f (take m rs))) old) ∙ rw (length-drop (length (map f (take m rs))) old) (omega arith)

  one_full : (rs xs : List Rec) → m ≤ length rs → over (map f (take m rs)) old ≡ over (map f (take m (rs ++ xs))) old
  one_full rs xs l = rw (take-append-le m rs xs l)

  one_more : (rs : List Rec) (n : ℕ) (r : Rec) → length rs ≡ n → (if ltb n m then set (over (map f (take m rs)) old) n (f r) otherwise over (map f (take m rs)) old) ≡ over (map f (take m (rs ++ (r ∷ [])))) old
  one_more rs n r e = dite (dec_lt n m) here full
    where
      here : n < m → (if ltb n m then set (over (map f (take m rs)) old) n (f r) otherwise over (map f (take m rs)) old) ≡ over (map f (take m (rs ++ (r ∷ [])))) old
      here l =
          let k : length (map f rs) ≡ n = length-map rs f ∙ e in
          let j : length (rs ++ (r ∷ [])) ≤ m = rw (length-append rs (r ∷ [])) (omega arith) in
          rw (lt-ltb n m l, take_all m rs (omega arith), take_all m (rs ++ (r ∷ [])) j, map-append f rs (r ∷ []), ← k) (over_next (map f rs) old (f r) (omega arith))

      full : (n < m → ⊥) → (if ltb n m then set (over (map f (take m rs)) old) n (f r) otherwise over (map f (take m rs)) old) ≡ over (map f (take m (rs ++ (r ∷ [])))) old
      full l = rw (le-ltb n m (omega arith)) (one_full rs (r ∷ []) (omega arith))

-- Both arrays: nothing written yet.
pub written_none : (keys pays : List ℕ) → Written keys pays [] keys pays
written_none keys pays = record { keys_are = rw (none (min (length keys) (length pays))); pays_are = rw (none (min (length keys) (length pays))) }
  where
    none : (m : ℕ) → take {A = Rec} m [] ≡ []
    none m = take_all m [] (omega arith)

module _ (keys pays : List ℕ) (rs : List Rec) (keys' pays' : List ℕ) (w : Written keys pays rs keys' pays') where
  -- both keep their lengths
  pub written_long : (length keys' ≡ length keys) × (length pays' ≡ length pays)
  written_long = (
    rw w.keys_are (one_long (λ (r : Rec). r.key) (min (length keys) (length pays)) keys (min-le_left (length keys) (length pays)) rs),
    rw w.pays_are (one_long (λ (r : Rec). r.pay) (min (length keys) (length pays)) pays (min-le_right (length keys) (length pays)) rs),
  )

  -- where one is full nothing more is written
  pub written_full : (xs : List Rec) → min (length keys) (length pays) ≤ length rs → Written keys pays (rs ++ xs) keys' pays'
  written_full xs h = record {
    keys_are = w.keys_are ∙ one_full (λ (r : Rec). r.key) (min (length keys) (length pays)) keys (min-le_left (length keys) (length pays)) rs xs h;
    pays_are = w.pays_are ∙ one_full (λ (r : Rec). r.pay) (min (length keys) (length pays)) pays (min-le_right (length keys) (length pays)) rs xs h;
  }

  -- one more record, of which a tombstone is not written
  pub written_one : (n : ℕ) (r : Rec) → length rs ≡ n
      → Written keys pays (rs ++ unmarked (r ∷ [])) (entered r.tombstone (min (length keys') (length pays')) n r.key keys') (entered r.tombstone (min (length keys') (length pays')) n r.pay pays')
  unfolding unmarked entered
  written_one n r e = go r.tombstone refl
    where
      go : (t : Bool) → r.tombstone ≡ t
          → Written keys pays (rs ++ unmarked (r ∷ [])) (entered t (min (length keys') (length pays')) n r.key keys') (entered t (min (length keys') (length pays')) n r.pay pays')
      go true q = rw (unmarked_drop r [] q, append-nil rs) w
      go false q =
          let m = min (length keys) (length pays) in
          let z : min (length keys') (length pays') ≡ m = rw (written_long.0, written_long.1) in
          rw (unmarked_keep r [] q, z)
          (record {
            keys_are = rw w.keys_are (one_more (λ (r : Rec). r.key) m keys (min-le_left (length keys) (length pays)) rs n r e);
            pays_are = rw w.pays_are (one_more (λ (r : Rec). r.pay) m pays (min-le_right (length keys) (length pays)) rs n r e);
          })
