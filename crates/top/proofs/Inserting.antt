-- A record inserted where its key stands: over the one that has the key, or between its neighbours.
use Prim.Native.Nat.{ℕ, suc, ◌≤◌, ◌<◌}
use mathlib.Core.Path.{◌≡◌, refl, ap, ◌∙◌}
use mathlib.Core.Bool.{Bool, true, false}
use mathlib.Core.List.{List, [], ◌∷◌, ◌++◌}
use native.Mathlib.Omega.{arith}
use lib.ListN.{length, take, drop, set}
use borrow.Author.Tests.{lt-ltb, le-ltb, eq-eqb, ne_eqb}
use Rattle.slices.specs.Ranks.{count_below, among}
use Rattle.slices.proofs.Ranks.{count_in, count_none}
use Rattle.levels.specs.Record.{Rec}
use Rattle.levels.specs.Put.{insert}
use Rattle.levels.specs.Rising.{Rising}
use Rattle.levels.proofs.Overlay.{Way, less, same, more, way, find_below}
use Rattle.words.specs.Stores.{keys_of}
use Rattle.words.proofs.Ranks.{rank_in, keys_rise_lem, found_is}

-- "a key found in level 0 is overwritten there; otherwise .. the record goes in"
abbrev pub Entered : Rec → List Rec → Bool → ℕ → Type 0
Entered r rs true i = (i < length rs) × (insert r rs ≡ set rs i r)
Entered r rs false i = (i ≤ length rs) × (insert r rs ≡ take i rs ++ (r ∷ drop i rs))

entered_on : (r x : Rec) (rs : List Rec) (t : Bool) (i : ℕ) → insert r (x ∷ rs) ≡ x ∷ insert r rs → Entered r rs t i → Entered r (x ∷ rs) t (suc i)
entered_on r x rs true i e k = (omega (arith, k.0), e ∙ ap (λ (l : List Rec). x ∷ l) k.1)
entered_on r x rs false i e k = (omega (arith, k.0), e ∙ ap (λ (l : List Rec). x ∷ l) k.1)

pub entered : (low : ℕ) (r : Rec) (rs : List Rec) → Rising low rs → Entered r rs (among r.key (keys_of rs)) (rank_in r.key rs)
unfolding insert among count_below
entered low r [] h = (omega arith, refl)
entered low r (x ∷ rs) h = go (way r.key x.key) (entered (suc x.key) r rs h.1)
  where
    none_below : r.key ≤ x.key → rank_in r.key (x ∷ rs) ≡ 0
    none_below l = count_none r.key x.key (keys_of (x ∷ rs)) (keys_rise_lem x.key (x ∷ rs) (omega arith, h.1)) l

    go : Way r.key x.key → Entered r rs (among r.key (keys_of rs)) (rank_in r.key rs) → Entered r (x ∷ rs) (among r.key (keys_of (x ∷ rs))) (rank_in r.key (x ∷ rs))
    go (less l) k =
        let a : among r.key (keys_of (x ∷ rs)) ≡ false = found_is r.key (x ∷ rs) ∙ rw (find_below r.key x.key (x ∷ rs) (omega arith, h.1) l) in
        rw (none_below (omega arith), a) (omega arith, rw (lt-ltb r.key x.key l, insert))
    go (same e) k =
        rw (none_below (omega arith), eq-eqb x.key r.key (omega arith)) (omega arith, rw (le-ltb r.key x.key (omega arith), eq-eqb r.key x.key e, insert))
    go (more l) k =
        rw (count_in r.key x.key (keys_of rs) l, ne_eqb x.key r.key (λ e. omega arith))
        (entered_on r x rs (among r.key (keys_of rs)) (rank_in r.key rs) (rw (le-ltb r.key x.key (omega arith), ne_eqb r.key x.key (λ e. omega arith), insert)) k)
