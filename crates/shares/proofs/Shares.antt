-- Records under keys of levels above, and the shares of levels in the number of live keys.
use Prim.Native.Nat.{ℕ, suc, ◌+◌, ◌<◌}
use mathlib.Core.Path.{◌≡◌, refl, sym, ap, ◌∙◌}
use mathlib.Core.Bool.{Bool, false, ◌||◌, or-true, or-false, or_assoc}
use mathlib.Core.List.{List, [], ◌∷◌, ◌++◌}
use native.Mathlib.Omega.{arith}
use lib.Dec.{eqb}
use lib.ListN.{length}
use borrow.Author.Tests.{eq-eqb, ne_eqb}
use Rattle.slices.specs.Ranks.{among}
use Rattle.levels.specs.Basics.{is_some}
use Rattle.levels.specs.Record.{Rec}
use Rattle.levels.specs.Map.{into, overlay, view, unmarked, map_of, live_count}
use Rattle.levels.specs.Rising.{Rising, Below, Risings}
use Rattle.levels.proofs.Rising.{rising_from}
use Rattle.levels.proofs.Overlay.{find_below, into_below, into_same, into_above, Way, less, same, more, way}
use Rattle.levels.proofs.View.{unmarked_drop, view_rising}
use Rattle.words.specs.Stores.{keys_of}
use Rattle.words.proofs.Ranks.{found_is}
use Rattle.chunks.proofs.Overlay.{live_cons}
use Rattle.shares.specs.Shares.{under, hide, shares_under}

-- one of the keys of two lists is one of the first or one of the second
pub among_append : (k : ℕ) (xs ys : List ℕ) → among k (xs ++ ys) ≡ (among k xs || among k ys)
unfolding among
among_append k [] ys = refl
among_append k (x ∷ xs) ys = ap (λ (t : Bool). eqb x k || t) (among_append k xs ys) ∙ sym (or_assoc (eqb x k) (among k xs) (among k ys))

-- a key below rising records is none of theirs
pub among_below : (k low : ℕ) (rs : List Rec) → Rising low rs → k < low → among k (keys_of rs) ≡ false
among_below k low rs r h = found_is k rs ∙ ap is_some (find_below k low rs r h)

-- a record whose key is none of these shows as it is
pub under_other : (ks : List ℕ) (r : Rec) → among r.key ks ≡ false → under ks r ≡ r
under_other ks r e = ap (λ (t : Bool). record { key = r.key; tombstone = r.tombstone || t; pay = r.pay }) e
    ∙ ap (λ (t : Bool). record { key = r.key; tombstone = t; pay = r.pay }) (or-false r.tombstone)

-- and stands so before what is hidden of the others
pub hide_other : (ks : List ℕ) (r : Rec) (rs : List Rec) → among r.key ks ≡ false → hide ks (r ∷ rs) ≡ r ∷ hide ks rs
unfolding hide
hide_other ks r rs e = ap (λ (s : Rec). s ∷ hide ks rs) (under_other ks r e)

-- under no key all show as they are
pub hide_nil : (rs : List Rec) → hide [] rs ≡ rs
unfolding hide among
hide_nil [] = refl
hide_nil (r ∷ rs) = hide_other [] r rs refl ∙ ap (λ (l : List Rec). r ∷ l) (hide_nil rs)

-- under two lists of keys: under the first, and then under the second
pub hide_append : (xs ys : List ℕ) (rs : List Rec) → hide (xs ++ ys) rs ≡ hide ys (hide xs rs)
unfolding hide
hide_append xs ys [] = refl
hide_append xs ys (r ∷ rs) =
    ap (λ (t : Bool). record { key = r.key; tombstone = t; pay = r.pay } ∷ hide (xs ++ ys) rs)
    (ap (λ (t : Bool). r.tombstone || t) (among_append r.key xs ys) ∙ sym (or_assoc r.tombstone (among r.key xs) (among r.key ys)))
    ∙ ap (λ (l : List Rec). under ys (under xs r) ∷ l) (hide_append xs ys rs)

-- the keys stay
pub hide_keys : (ks : List ℕ) (rs : List Rec) → keys_of (hide ks rs) ≡ keys_of rs
unfolding hide
hide_keys ks [] = refl
hide_keys ks (r ∷ rs) = ap (λ (l : List ℕ). r.key ∷ l) (hide_keys ks rs)

-- and so rise as before
pub hide_rising : (ks : List ℕ) (low : ℕ) (rs : List Rec) → Rising low rs → Rising low (hide ks rs)
unfolding hide
hide_rising ks low [] h = tt
hide_rising ks low (r ∷ rs) h = (h.0, hide_rising ks (suc r.key) rs h.1)

-- two lists end to end
pub hide_parts : (ks : List ℕ) (xs ys : List Rec) → hide ks (xs ++ ys) ≡ hide ks xs ++ hide ks ys
unfolding hide
hide_parts ks [] ys = refl
hide_parts ks (x ∷ xs) ys = ap (λ (l : List Rec). under ks x ∷ l) (hide_parts ks xs ys)

-- one key that is not the record's
among_one : (x k : ℕ) → (x ≡ k → ⊥) → among k (x ∷ []) ≡ false
unfolding among
among_one x k n = rw (ne_eqb x k n)

-- a key above all records hides none
pub hide_below : (x : ℕ) (rs : List Rec) → Below x rs → hide (x ∷ []) rs ≡ rs
unfolding hide
hide_below x [] h = refl
hide_below x (r ∷ rs) h = hide_other (x ∷ []) r rs (among_one x r.key (λ e. omega (arith, h.0))) ∙ ap (λ (l : List Rec). r ∷ l) (hide_below x rs h.1)

-- nor does a key below them all
pub hide_above : (x : ℕ) (rs : List Rec) → Rising (suc x) rs → hide (x ∷ []) rs ≡ rs
unfolding hide
hide_above x [] h = refl
hide_above x (r ∷ rs) h =
    hide_other (x ∷ []) r rs (among_one x r.key (λ e. omega (arith, h.0)))
    ∙ ap (λ (l : List Rec). r ∷ l) (hide_above x rs (rising_from (suc x) (suc r.key) rs (omega (arith, h.0)) h.1))

-- one key below all records, before others
hide_past : (x : ℕ) (ks : List ℕ) (rs : List Rec) → Rising (suc x) rs → hide (x ∷ ks) rs ≡ hide ks rs
hide_past x ks rs h = hide_append (x ∷ []) ks rs ∙ ap (hide ks) (hide_above x rs h)

-- a record before a list, and that list laid over another, under keys
module _ (ks : List ℕ) (x : Rec) (f g : List Rec → List Rec) (hf : (zs : List Rec) → hide ks (f zs) ≡ g (hide ks zs)) where
  hide_into : (ys : List Rec) → hide ks (into x f ys) ≡ into (under ks x) g (hide ks ys)
  unfolding into hide
  hide_into [] = ap (λ (l : List Rec). under ks x ∷ l) (hf [])
  hide_into (y ∷ ys) = go (way y.key x.key) (hide_into ys)
    where
      go : Way y.key x.key → hide ks (into x f ys) ≡ into (under ks x) g (hide ks ys) → hide ks (into x f (y ∷ ys)) ≡ into (under ks x) g (hide ks (y ∷ ys))
      go (less l) ih = ap (hide ks) (into_below x f y ys l) ∙ ap (λ (zs : List Rec). under ks y ∷ zs) ih ∙ sym (into_below (under ks x) g (under ks y) (hide ks ys) l)
      go (same l) ih = ap (hide ks) (into_same x f y ys l) ∙ ap (λ (zs : List Rec). under ks x ∷ zs) (hf ys) ∙ sym (into_same (under ks x) g (under ks y) (hide ks ys) l)
      go (more l) ih = ap (hide ks) (into_above x f y ys l) ∙ ap (λ (zs : List Rec). under ks x ∷ zs) (hf (y ∷ ys)) ∙ sym (into_above (under ks x) g (under ks y) (hide ks ys) l)

-- an overlay under keys is the overlay of both lists under them
pub hide_overlay : (ks : List ℕ) (xs ys : List Rec) → hide ks (overlay xs ys) ≡ overlay (hide ks xs) (hide ks ys)
unfolding overlay hide
hide_overlay ks [] ys = refl
hide_overlay ks (x ∷ xs) ys = hide_into ks x (λ zs. overlay xs zs) (λ zs. overlay (hide ks xs) zs) (λ zs. hide_overlay ks xs zs) ys

-- a record whose key is the first of these counts no longer
hide_same : (x : ℕ) (ks : List ℕ) (r : Rec) (rs : List Rec) → r.key ≡ x → unmarked (hide (x ∷ ks) (r ∷ rs)) ≡ unmarked (hide (x ∷ ks) rs)
unfolding hide among
hide_same x ks r rs e =
    unmarked_drop (under (x ∷ ks) r) (hide (x ∷ ks) rs)
    (ap (λ (t : Bool). r.tombstone || (t || among r.key ks)) (eq-eqb x r.key (sym e)) ∙ or-true r.tombstone)

-- the live records of a record before a list, and that list laid over another
module _ (x : Rec) (xs : List Rec) (rx : Rising (suc x.key) xs) (f : List Rec → List Rec)
    (hf : (zs : List Rec) → Rising (suc x.key) zs → length (unmarked (f zs)) ≡ length (unmarked xs) + length (unmarked (hide (keys_of xs) zs))) where
  into_live : (low : ℕ) (ys : List Rec) → Rising low ys → length (unmarked (into x f ys)) ≡ length (unmarked (x ∷ xs)) + length (unmarked (hide (keys_of (x ∷ xs)) ys))
  unfolding into hide
  into_live low [] h = omega (arith, live_cons x (f []), live_cons x xs, hf [] tt)
  into_live low (y ∷ ys) h = go (way y.key x.key) (into_live (suc y.key) ys h.1)
    where
      go : Way y.key x.key → length (unmarked (into x f ys)) ≡ length (unmarked (x ∷ xs)) + length (unmarked (hide (keys_of (x ∷ xs)) ys))
          → length (unmarked (into x f (y ∷ ys))) ≡ length (unmarked (x ∷ xs)) + length (unmarked (hide (keys_of (x ∷ xs)) (y ∷ ys)))
      go (less l) ih =
          rw (into_below x f y ys l, hide_other (keys_of (x ∷ xs)) y ys (among_below y.key x.key (x ∷ xs) (omega arith, rx) l))
          (omega (arith, ih, live_cons y (into x f ys), live_cons y (hide (keys_of (x ∷ xs)) ys)))
      go (same l) ih =
          let r : Rising (suc x.key) ys = rising_from (suc x.key) (suc y.key) ys (omega arith) h.1 in
          rw (into_same x f y ys l, hide_same x.key (keys_of xs) y ys l, hide_past x.key (keys_of xs) ys r)
          (omega (arith, live_cons x (f ys), live_cons x xs, hf ys r))
      go (more l) ih =
          rw (into_above x f y ys l, hide_past x.key (keys_of xs) (y ∷ ys) (l, h.1))
          (omega (arith, live_cons x (f (y ∷ ys)), live_cons x xs, hf (y ∷ ys) (l, h.1)))

-- the live records of an overlay: those of the upper list, and those of the lower one that the upper does not hide
pub overlay_live : (low : ℕ) (xs ys : List Rec) → Rising low xs → Rising low ys → length (unmarked (overlay xs ys)) ≡ length (unmarked xs) + length (unmarked (hide (keys_of xs) ys))
unfolding overlay unmarked
overlay_live low [] ys a b = rw (hide_nil ys) (omega arith)
overlay_live low (x ∷ xs) ys a b = into_live x xs a.1 (λ zs. overlay xs zs) (λ zs r. overlay_live (suc x.key) xs zs a.1 r) low ys b

-- the shares of levels under keys add up to what shows of their view under these keys
pub view_shares : (ks : List ℕ) (ls : List (List Rec)) → Risings ls → length (unmarked (hide ks (view ls))) ≡ shares_under ks ls
unfolding view shares_under hide unmarked
view_shares ks [] h = refl
view_shares ks (l ∷ ls) h =
    ap (λ (rs : List Rec). length (unmarked rs)) (hide_overlay ks l (view ls))
    ∙ overlay_live 0 (hide ks l) (hide ks (view ls)) (hide_rising ks 0 l h.0) (hide_rising ks 0 (view ls) (view_rising ls h.1))
    ∙ rw (hide_keys ks l, ← hide_append ks (keys_of l) (view ls), view_shares (ks ++ keys_of l) ls h.1)

-- the number of live keys is the sum of all levels' shares
pub live_shares : (ls : List (List Rec)) → Risings ls → live_count ls ≡ shares_under [] ls
unfolding live_count map_of
live_shares ls h = ap (λ (rs : List Rec). length (unmarked rs)) (sym (hide_nil (view ls))) ∙ view_shares [] ls h
