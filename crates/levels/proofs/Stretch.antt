-- Laws of a stretch of the map (document 02, card 1): what it has, and how it goes on after a part of it.
use Prim.Native.Nat.{ℕ, suc, ◌≤◌, ◌<◌}
use mathlib.Core.Path.{◌≡◌, refl, sym, ap, ◌∙◌}
use mathlib.Core.Bool.{Bool, true, false, ◌&&◌, true≢false}
use mathlib.Core.List.{List, [], ◌∷◌, ◌++◌}
use mathlib.Core.Option.{none}
use mathlib.Core.Logic.{dite}
use native.Mathlib.Decide.{ℕ_discrete, dec_lt}
use native.Mathlib.Omega.{arith}
use lib.Dec.{leb}
use borrow.Author.Tests.{leb-true, le-leb, lt-leb}
use Rattle.geometry.specs.Geometry.{within}
use Rattle.levels.specs.Basics.{if◌then◌otherwise◌}
use Rattle.levels.specs.Record.{Rec}
use Rattle.levels.specs.Map.{find, stretch}
use Rattle.levels.specs.Rising.{Rising, Below}
use Rattle.levels.proofs.Basics.{and_left, and_right, and_both}
use Rattle.levels.proofs.Rising.{rising_from, rising_right, below_more}
use Rattle.levels.proofs.Overlay.{find_here, find_past}

-- a key outside of a stretch
pub within_below : (first last k : ℕ) → k < first → within first last k ≡ false
within_below first last k h = rw (lt-leb first k h)

pub within_above : (first last k : ℕ) → last < k → within first last k ≡ false
within_above first last k h = rw (lt-leb k last h) (and_false (leb first k))
  where
    and_false : (a : Bool) → (a && false) ≡ false
    and_false true = refl
    and_false false = refl

pub within_in : (first last k : ℕ) → first ≤ k → k ≤ last → within first last k ≡ true
within_in first last k a b = and_both (leb first k) (leb k last) (le-leb first k a) (le-leb k last b)

module _ (first last : ℕ) where
  -- the clauses of stretch, as laws
  pub stretch_in : (r : Rec) (rs : List Rec) → within first last r.key ≡ true → stretch first last (r ∷ rs) ≡ r ∷ stretch first last rs
  unfolding stretch
  stretch_in r rs e = rw (e, stretch)

  pub stretch_out : (r : Rec) (rs : List Rec) → within first last r.key ≡ false → stretch first last (r ∷ rs) ≡ stretch first last rs
  unfolding stretch
  stretch_out r rs e = rw (e, stretch)

  pub stretch_nil : stretch first last [] ≡ []
  unfolding stretch
  stretch_nil = refl

  -- of two lists end to end
  pub stretch_append : (xs ys : List Rec) → stretch first last (xs ++ ys) ≡ stretch first last xs ++ stretch first last ys
  unfolding stretch
  stretch_append [] ys = refl
  stretch_append (x ∷ xs) ys = go (within first last x.key) refl (stretch_append xs ys)
    where
      go : (t : Bool) → within first last x.key ≡ t → stretch first last (xs ++ ys) ≡ stretch first last xs ++ stretch first last ys
          → stretch first last (x ∷ (xs ++ ys)) ≡ stretch first last (x ∷ xs) ++ stretch first last ys
      go true e i = rw (stretch_in x (xs ++ ys) e, stretch_in x xs e) (ap (λ (zs : List Rec). x ∷ zs) i)
      go false e i = rw (stretch_out x (xs ++ ys) e, stretch_out x xs e) i

  -- it has nothing of what lies before its first key, or behind its last
  pub stretch_below : (xs : List Rec) → Below first xs → stretch first last xs ≡ []
  stretch_below [] h = stretch_nil
  stretch_below (x ∷ xs) h = stretch_out x xs (within_below first last x.key h.0) ∙ stretch_below xs h.1

  pub stretch_above : (low : ℕ) (xs : List Rec) → Rising low xs → last < low → stretch first last xs ≡ []
  stretch_above low [] h l = stretch_nil
  stretch_above low (x ∷ xs) h l = stretch_out x xs (within_above first last x.key (omega (arith, h.0))) ∙ stretch_above (suc x.key) xs h.1 (omega (arith, h.0))

  -- its keys rise, and none is above the last
  pub stretch_rising : (low : ℕ) (xs : List Rec) → Rising low xs → Rising low (stretch first last xs)
  stretch_rising low [] h = rw stretch_nil tt
  stretch_rising low (x ∷ xs) h = go (within first last x.key) refl (stretch_rising (suc x.key) xs h.1)
    where
      go : (t : Bool) → within first last x.key ≡ t → Rising (suc x.key) (stretch first last xs) → Rising low (stretch first last (x ∷ xs))
      go true e i = rw (stretch_in x xs e) (h.0, i)
      go false e i = rw (stretch_out x xs e) (rising_from low (suc x.key) (stretch first last xs) (omega (arith, h.0)) i)

  pub stretch_high : (xs : List Rec) → Below (suc last) (stretch first last xs)
  stretch_high [] = rw stretch_nil tt
  stretch_high (x ∷ xs) = go (within first last x.key) refl (stretch_high xs)
    where
      go : (t : Bool) → within first last x.key ≡ t → Below (suc last) (stretch first last xs) → Below (suc last) (stretch first last (x ∷ xs))
      go true e i = rw (stretch_in x xs e) (let l = leb-true x.key last (and_right (leb first x.key) _ e) in omega arith, i)
      go false e i = rw (stretch_out x xs e) i

  -- so it begins at its first key
  pub stretch_first : (low : ℕ) (xs : List Rec) → Rising low xs → Rising first (stretch first last xs)
  stretch_first low [] h = rw stretch_nil tt
  stretch_first low (x ∷ xs) h = go (within first last x.key) refl (stretch_first (suc x.key) xs h.1)
    where
      go : (t : Bool) → within first last x.key ≡ t → Rising first (stretch first last xs) → Rising first (stretch first last (x ∷ xs))
      go true e i = rw (stretch_in x xs e) (leb-true first x.key (and_left (leb first x.key) _ e), stretch_rising (suc x.key) xs h.1)
      go false e i = rw (stretch_out x xs e) i

  -- a key is found in it exactly if it is found in the map and lies within
  pub find_stretch : (k low : ℕ) (xs : List Rec) → Rising low xs → find k (stretch first last xs) ≡ (if within first last k then find k xs otherwise none)
  unfolding find
  find_stretch k low [] h = rw stretch_nil (go (within first last k))
    where
      go : (t : Bool) → find k [] ≡ (if t then find k [] otherwise none)
      go true = refl
      go false = refl
  find_stretch k low (x ∷ xs) h = go (within first last x.key) refl (ℕ_discrete x.key k) (find_stretch k (suc x.key) xs h.1)
    where
      go : (t : Bool) → within first last x.key ≡ t → Dec (x.key ≡ k) → find k (stretch first last xs) ≡ (if within first last k then find k xs otherwise none)
          → find k (stretch first last (x ∷ xs)) ≡ (if within first last k then find k (x ∷ xs) otherwise none)
      go true e (yes d) i = rw (stretch_in x xs e, find_here k x (stretch first last xs) d, find_here k x xs d, sym (ap (within first last) d) ∙ e)
      go true e (no d) i = rw (stretch_in x xs e, find_past k x (stretch first last xs) d, find_past k x xs d) i
      go false e (yes d) i = rw (stretch_out x xs e, i, sym (ap (within first last) d) ∙ e)
      go false e (no d) i = rw (stretch_out x xs e, find_past k x xs d) i

-- "a first key above the last gives zero records"
pub stretch_none : (first last : ℕ) (xs : List Rec) → last < first → stretch first last xs ≡ []
stretch_none first last [] h = stretch_nil first last
stretch_none first last (x ∷ xs) h =
    stretch_out first last x xs (dite (dec_lt x.key first) (λ y. within_below first last x.key y) (λ n. within_above first last x.key (omega arith))) ∙ stretch_none first last xs h

-- a sorted list within first and last is its own stretch
pub stretch_whole : (first last low : ℕ) (xs : List Rec) → first ≤ low → Rising low xs → Below (suc last) xs → stretch first last xs ≡ xs
stretch_whole first last low [] l h b = stretch_nil first last
stretch_whole first last low (x ∷ xs) l h b =
    stretch_in first last x xs (within_in first last x.key (omega (arith, h.0)) (omega (arith, b.0)))
    ∙ ap (λ (zs : List Rec). x ∷ zs) (stretch_whole first last (suc x.key) xs (omega (arith, h.0)) h.1 b.1)

-- a stretch of a stretch with the same end
pub stretch_again : (first from last : ℕ) (xs : List Rec) → first ≤ from → stretch from last (stretch first last xs) ≡ stretch from last xs
stretch_again first from last [] h = ap (stretch from last) (stretch_nil first last)
stretch_again first from last (x ∷ xs) h = go (within first last x.key) refl (within from last x.key) refl (stretch_again first from last xs h)
  where
    go : (t : Bool) → within first last x.key ≡ t → (u : Bool) → within from last x.key ≡ u → stretch from last (stretch first last xs) ≡ stretch from last xs
        → stretch from last (stretch first last (x ∷ xs)) ≡ stretch from last (x ∷ xs)
    go true e true f i = rw (stretch_in first last x xs e, stretch_in from last x (stretch first last xs) f, stretch_in from last x xs f, i)
    go true e false f i = rw (stretch_in first last x xs e, stretch_out from last x (stretch first last xs) f, stretch_out from last x xs f) i
    go false e true f i =
        let a = leb-true from x.key (and_left (leb from x.key) _ f) in
        let b = leb-true x.key last (and_right (leb from x.key) _ f) in
        absurd (true≢false (sym (within_in first last x.key (omega arith) b) ∙ e))
    go false e false f i = rw (stretch_out first last x xs e, stretch_out from last x xs f) i

-- the record at a split of a sorted list is above those before it
below_end : (low : ℕ) (xs : List Rec) (r : Rec) (ys : List Rec) → Rising low (xs ++ (r ∷ ys)) → (low ≤ r.key) × Below r.key xs
below_end low [] r ys h = (h.0, tt)
below_end low (x ∷ xs) r ys h = let i = below_end (suc x.key) xs r ys h.1 in (omega (arith, h.0, i.0), (i.0, i.1))

below_after : (high : ℕ) (xs ys : List Rec) → Below high (xs ++ ys) → Below high ys
below_after high [] ys b = b
below_after high (x ∷ xs) ys b = below_after high xs ys b.1

-- Going on behind a record of a stretch: "a walk resumed one key above the last written goes on with the rest".
module _ (first last low : ℕ) (m xs : List Rec) (r : Rec) (ys : List Rec) (h : Rising low m) (e : stretch first last m ≡ xs ++ (r ∷ ys)) where
  split_rising : Rising first (xs ++ (r ∷ ys))
  split_rising = rw e at (stretch_first first last low m h)

  split_high : Below (suc last) (r ∷ ys)
  split_high = below_after (suc last) xs (r ∷ ys) (rw e at (stretch_high first last m))

  pub stretch_resumed : stretch (suc r.key) last m ≡ ys
  stretch_resumed =
      let b = below_end first xs r ys split_rising in
      let k = rising_right first xs (r ∷ ys) split_rising in
      sym (stretch_again first (suc r.key) last m (omega (arith, b.0)))
      ∙ ap (stretch (suc r.key) last) e
      ∙ stretch_append (suc r.key) last xs (r ∷ ys)
      ∙ rw (stretch_below (suc r.key) last xs (below_more r.key (suc r.key) xs (omega arith) b.1), stretch_out (suc r.key) last r ys (within_below (suc r.key) last r.key (omega arith)))
      (stretch_whole (suc r.key) last (suc r.key) ys (omega arith) k.1 split_high.1)

  -- if there is a rest, the record is below the last key
  pub stretch_room : (y : Rec) (zs : List Rec) → ys ≡ y ∷ zs → r.key < last
  stretch_room y zs q =
      let k : Rising (suc r.key) (y ∷ zs) = rw q at (rising_right first xs (r ∷ ys) split_rising).1 in
      let b : Below (suc last) (y ∷ zs) = rw q at split_high.1 in
      omega (arith, k.0, b.0)
