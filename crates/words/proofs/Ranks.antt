-- Where a key stands among the keys of records: which of them come before it, and which record has it.
use Prim.Native.Nat.{ℕ, zero, suc, ◌+◌, ◌/◌, ◌≤◌, ◌<◌}
use mathlib.Core.Path.{◌≡◌, refl, sym, ap, ◌∙◌}
use mathlib.Core.Bool.{Bool, true, false, ◌||◌, true≢false}
use mathlib.Core.Logic.{dite}
use mathlib.Core.List.{List, [], ◌∷◌}
use mathlib.Core.Option.{Option, none, some}
use native.Mathlib.Decide.{dec_lt}
use native.Mathlib.Omega.{arith}
use lib.Dec.{eqb}
use lib.ListN.{length, take, drop, get_or}
use borrow.Author.Tests.{eqb-true, eqb-false, ne_eqb}
use Rattle.slices.specs.Ranks.{count_below, among}
use Rattle.slices.specs.Ranks as numbers
use Rattle.slices.proofs.Ranks.{count_in, count_none}
use Rattle.levels.specs.Basics.{is_some}
use Rattle.levels.specs.Record.{Rec}
use Rattle.levels.specs.Map.{find}
use Rattle.levels.specs.Rising.{Rising, Below}
use Rattle.levels.proofs.Overlay.{find_here, find_past, find_below}
use Rattle.words.specs.Stores.{slots_at, keys_of, part}
use Rattle.words.proofs.Parts.{part_cons}
use Rattle.words.proofs.Slots.{blank_rec}

-- how many records have a key below k
abbrev pub rank_in : ℕ → List Rec → ℕ
rank_in k rs = count_below k (keys_of rs)

pub keys_rise_lem : (low : ℕ) (rs : List Rec) → Rising low rs → numbers.Rising low (keys_of rs)
keys_rise_lem low [] h = tt
keys_rise_lem low (r ∷ rs) h = (h.0, keys_rise_lem (suc r.key) rs h.1)

-- the keys of slots stand in a row
pub keys_slots : (ws : List ℕ) (m k v n : ℕ) → k + n ≤ length ws → keys_of (slots_at ws m k v n) ≡ take n (drop k ws)
unfolding slots_at part
keys_slots ws m k v zero h = refl
keys_slots ws m k v (suc n) h = rw (keys_slots ws (m / 2) (suc k) (suc v) n (omega arith)) (sym (part_cons ws k n (omega arith)))

module _ (k : ℕ) where
  rank_in_lem : (r : Rec) (rs : List Rec) → r.key < k → rank_in k (r ∷ rs) ≡ suc (rank_in k rs)
  rank_in_lem r rs h = count_in k r.key (keys_of rs) h

  rank_none : (low : ℕ) (rs : List Rec) → Rising low rs → k ≤ low → rank_in k rs ≡ 0
  rank_none low rs h l = count_none k low (keys_of rs) (keys_rise_lem low rs h) l

  -- the records before are below k
  pub records_before : (low : ℕ) (rs : List Rec) → Rising low rs → Below k (take (rank_in k rs) rs)
  unfolding count_below
  records_before low [] h = tt
  records_before low (r ∷ rs) h =
      dite (dec_lt r.key k)
      (λ y. rw (rank_in_lem r rs y) (y, records_before (suc r.key) rs h.1))
      (λ n. rw (rank_none r.key (r ∷ rs) (omega arith, h.1) (omega arith)) tt)

  -- k is found where a record has it
  pub found_is : (rs : List Rec) → among k (keys_of rs) ≡ is_some (find k rs)
  unfolding among find
  found_is [] = refl
  found_is (r ∷ rs) = go (eqb r.key k) refl (found_is rs)
    where
      go : (t : Bool) → eqb r.key k ≡ t → among k (keys_of rs) ≡ is_some (find k rs) → (eqb r.key k || among k (keys_of rs)) ≡ is_some (find k (r ∷ rs))
      go true e ih = rw (e, find)
      go false e ih = rw (e, find) ih

  pub found_none : (rs : List Rec) → among k (keys_of rs) ≡ false → find k rs ≡ none
  found_none rs e = go (find k rs) (sym (found_is rs) ∙ e)
    where
      go : (o : Option Rec) → is_some o ≡ false → o ≡ none
      go none e = refl
      go (some r) e = absurd (true≢false e)

  -- and that is the record at its rank
  pub found_record : (low : ℕ) (rs : List Rec) → Rising low rs → among k (keys_of rs) ≡ true → (rank_in k rs < length rs) × (find k rs ≡ some (get_or rs (rank_in k rs) blank_rec))
  unfolding among
  found_record low [] h e = absurd (true≢false (sym e))
  found_record low (r ∷ rs) h e =
      dite (dec_lt r.key k)
      (λ y. let f : among k (keys_of rs) ≡ true = rw (ne_eqb r.key k (λ x. omega arith)) at e in
      let p = found_record (suc r.key) rs h.1 f in
      rw (rank_in_lem r rs y) (omega (arith, p.0), find_past k r rs (λ x. omega arith) ∙ p.1))
      here
    where
      here : (r.key < k → ⊥) → (rank_in k (r ∷ rs) < suc (length rs)) × (find k (r ∷ rs) ≡ some (get_or (r ∷ rs) (rank_in k (r ∷ rs)) blank_rec))
      here n = rw (rank_none r.key (r ∷ rs) (omega arith, h.1) (omega arith)) (omega arith, go (eqb r.key k) refl)
        where
          go : (t : Bool) → eqb r.key k ≡ t → find k (r ∷ rs) ≡ some r
          go true f = find_here k r rs (eqb-true _ _ f)
          go false f =
              let d = eqb-false r.key k f in
              let g : among k (keys_of rs) ≡ true = rw f at e in
              absurd (true≢false (sym g ∙ found_is rs ∙ ap (λ (o : Option Rec). is_some o) (find_below k (suc r.key) rs h.1 (omega (arith, d)))))
