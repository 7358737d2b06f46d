-- X laid over the middle of a sorted list: it stays sorted, and what is found and what is present.
use Prim.Native.Nat.{ℕ, suc, ◌+◌, ◌≤◌}
use mathlib.Core.Path.{◌≡◌, refl, sym, ◌∙◌, ap}
use mathlib.Core.Bool.{Bool, true, false, ◌||◌}
use mathlib.Core.List.{List, [], ◌∷◌, ◌++◌}
use native.Mathlib.Omega.{arith}
use native.Mathlib.Decide.{ℕ_discrete}
use lib.ListN.{length}
use Rattle.levels.specs.Basics.{or_else, all}
use Rattle.levels.specs.Record.{Rec, has_tombstone}
use Rattle.levels.specs.Map.{find, into, overlay, unmarked, present}
use Rattle.levels.specs.Rising.{Rising, Below}
use Rattle.levels.proofs.Basics.{or_assoc, and_left, and_right, and_both}
use Rattle.levels.proofs.Rising.{rising_from}
use Rattle.levels.proofs.Overlay.{find_here, find_past, find_below, find_append, find_swap, find_overlay, into_below, into_same, into_above, Way, less, same, more, way}
use Rattle.levels.proofs.View.{unmarked_drop, unmarked_keep, present_tombstone}
use Rattle.levels.proofs.MergeRecords.{kept}

-- X over Y, before V
module _ (x : Rec) (f : List Rec → List Rec) (vs : List Rec) (rv : Rising (suc x.key) vs)
    (hf : (zs : List Rec) → Rising (suc x.key) (zs ++ vs) → Rising (suc x.key) (f zs ++ vs)) where
  into_rising_in : (low : ℕ) (ys : List Rec) → low ≤ x.key → Rising low (ys ++ vs) → Rising low (into x f ys ++ vs)
  unfolding into
  into_rising_in low [] h r = (h, hf [] rv)
  into_rising_in low (y ∷ ys) h r = go (way y.key x.key) (λ l. into_rising_in (suc y.key) ys l r.1)
    where
      go : Way y.key x.key → (suc y.key ≤ x.key → Rising (suc y.key) (into x f ys ++ vs)) → Rising low (into x f (y ∷ ys) ++ vs)
      go (less l) ih = rw (into_below x f y ys l) (r.0, ih l)
      go (same l) ih = rw (into_same x f y ys l) (h, hf ys (rising_from (suc x.key) (suc y.key) (ys ++ vs) (omega arith) r.1))
      go (more l) ih = rw (into_above x f y ys l) (h, hf (y ∷ ys) (l, r.1))

overlay_rising_in : (low high : ℕ) (xs ys vs : List Rec) → Rising low xs → Below high xs → Rising high vs → Rising low (ys ++ vs) → Rising low (overlay xs ys ++ vs)
unfolding overlay
overlay_rising_in low high [] ys vs a b c d = d
overlay_rising_in low high (x ∷ xs) ys vs a b c d =
    into_rising_in x (λ zs. overlay xs zs) vs (rising_from (suc x.key) high vs b.0 c) (λ zs r. overlay_rising_in (suc x.key) high xs zs vs a.1 b.1 c r) low ys a.0 d

-- a sorted list us ++ ys ++ vs with xs laid over ys stays sorted, if xs lies above us and below vs. (ys may begin below xs.)
pub laid_rising : (k low high : ℕ) (us xs ys vs : List Rec) → k ≤ low → Below low us → Rising low xs → Below high xs → Rising high vs → Rising k (us ++ (ys ++ vs)) → Rising k (us ++ (overlay xs ys ++ vs))
laid_rising k low high [] xs ys vs l b rx bx rv h = overlay_rising_in k high xs ys vs (rising_from k low xs l rx) bx rv h
laid_rising k low high (u ∷ us) xs ys vs l b rx bx rv h = (h.0, laid_rising (suc u.key) low high us xs ys vs b.0 b.1 rx bx rv h.1)

-- and so without tombstones
pub kept_rising_in : (bottom : Bool) (k : ℕ) (ms vs : List Rec) → Rising k (ms ++ vs) → Rising k (kept bottom ms ++ vs)
unfolding unmarked
kept_rising_in false k ms vs h = h
kept_rising_in true k [] vs h = h
kept_rising_in true k (m ∷ ms) vs h = go m.tombstone refl (kept_rising_in true (suc m.key) ms vs h.1)
  where
    go : (t : Bool) → m.tombstone ≡ t → Rising (suc m.key) (unmarked ms ++ vs) → Rising k (unmarked (m ∷ ms) ++ vs)
    go true e i = rw (unmarked_drop m ms e) (rising_from k (suc m.key) (unmarked ms ++ vs) (omega (arith, h.0)) i)
    go false e i = rw (unmarked_keep m ms e) (h.0, i)

-- dropping tombstones in the middle of a sorted list changes nothing that is present
pub present_kept : (bottom : Bool) (k low : ℕ) (ms vs : List Rec) → Rising low (ms ++ vs) → present (find k (kept bottom ms ++ vs)) ≡ present (find k (ms ++ vs))
unfolding unmarked
present_kept false k low ms vs h = refl
present_kept true k low [] vs h = refl
present_kept true k low (r ∷ rs) vs h = go r.tombstone refl (ℕ_discrete r.key k) (present_kept true k (suc r.key) rs vs h.1)
  where
    go : (t : Bool) → r.tombstone ≡ t → Dec (r.key ≡ k) → present (find k (unmarked rs ++ vs)) ≡ present (find k (rs ++ vs))
        → present (find k (unmarked (r ∷ rs) ++ vs)) ≡ present (find k (r ∷ (rs ++ vs)))
    go true e (yes d) ih =
        let n = find_below k (suc r.key) (unmarked rs ++ vs) (kept_rising_in true (suc r.key) rs vs h.1) (omega arith) in
        ap (λ (l : List Rec). present (find k (l ++ vs))) (unmarked_drop r rs e) ∙ ap present n ∙ sym (ap present (find_here k r (rs ++ vs) d) ∙ present_tombstone r e)
    go true e (no d) ih = ap (λ (l : List Rec). present (find k (l ++ vs))) (unmarked_drop r rs e) ∙ ih ∙ sym (ap present (find_past k r (rs ++ vs) d))
    go false e (yes d) ih = ap (λ (l : List Rec). present (find k (l ++ vs))) (unmarked_keep r rs e) ∙ ap present (find_here k r (unmarked rs ++ vs) d) ∙ sym (ap present (find_here k r (rs ++ vs) d))
    go false e (no d) ih =
        ap (λ (l : List Rec). present (find k (l ++ vs))) (unmarked_keep r rs e) ∙ ap present (find_past k r (unmarked rs ++ vs) d) ∙ ih ∙ sym (ap present (find_past k r (rs ++ vs) d))

-- xs laid over ys in us ++ ys ++ vs decides as xs laid over all of it
pub find_laid : (k low : ℕ) (us xs ys vs : List Rec) → Rising low xs → Below low us → find k (us ++ (overlay xs ys ++ vs)) ≡ or_else (find k xs) (find k (us ++ (ys ++ vs)))
find_laid k low us xs ys vs rx bu =
    let a = find_swap k low us xs (or_else (find k ys) (find k vs)) bu rx in
    simp (find_append, find_overlay k low xs ys rx, or_assoc) cc

-- A run xs leaves u₁ ++ xs ++ u₂ and is laid over v₁ ++ ys ++ v₂: the first list that has the key still decides, with the same record.
pub find_moved : (k low high : ℕ) (u₁ xs u₂ v₁ ys v₂ : List Rec) → Rising low xs → Below high xs → Rising high u₂ → Below low v₁
    → or_else (find k (u₁ ++ u₂)) (find k (v₁ ++ (overlay xs ys ++ v₂))) ≡ or_else (find k (u₁ ++ (xs ++ u₂))) (find k (v₁ ++ (ys ++ v₂)))
find_moved k low high u₁ xs u₂ v₁ ys v₂ rx bx ru bv =
    let a = find_swap k low v₁ xs (or_else (find k ys) (find k v₂)) bv rx in
    let b = find_swap k high xs u₂ (or_else (find k v₁) (or_else (find k ys) (find k v₂))) bx ru in
    simp (find_append, find_overlay k low xs ys rx, or_assoc) cc

-- an overlay has no more records than its two lists
module _ (x : Rec) (n : ℕ) (f : List Rec → List Rec) (hf : (zs : List Rec) → length (f zs) ≤ n + length zs) where
  into_length : (ys : List Rec) → length (into x f ys) ≤ suc n + length ys
  unfolding into
  into_length [] = omega (arith, hf [])
  into_length (y ∷ ys) = go (way y.key x.key) (into_length ys)
    where
      go : Way y.key x.key → length (into x f ys) ≤ suc n + length ys → length (into x f (y ∷ ys)) ≤ suc n + length (y ∷ ys)
      go (less l) ih = rw (into_below x f y ys l) (omega arith)
      go (same l) ih = rw (into_same x f y ys l) (omega (arith, hf ys))
      go (more l) ih = rw (into_above x f y ys l) (omega (arith, hf (y ∷ ys)))

-- so it has at most the records of both
pub overlay_length : (xs ys : List Rec) → length (overlay xs ys) ≤ length xs + length ys
unfolding overlay
overlay_length [] ys = omega arith
overlay_length (x ∷ xs) ys = into_length x (length xs) (λ zs. overlay xs zs) (λ zs. overlay_length xs zs) ys

-- dropping tombstones makes no record
pub kept_length : (bottom : Bool) (rs : List Rec) → length (kept bottom rs) ≤ length rs
unfolding unmarked
kept_length false rs = omega arith
kept_length true [] = omega arith
kept_length true (r ∷ rs) = go r.tombstone refl (kept_length true rs)
  where
    go : (t : Bool) → r.tombstone ≡ t → length (unmarked rs) ≤ length rs → length (unmarked (r ∷ rs)) ≤ suc (length rs)
    go true e i = rw (unmarked_drop r rs e) (omega arith)
    go false e i = rw (unmarked_keep r rs e) (omega arith)

-- every record of an overlay is one of its two lists: what is true of all of these is true of all of it
module _ (p : Rec → Bool) (x : Rec) (f : List Rec → List Rec) (hx : p x ≡ true) (hf : (zs : List Rec) → all p zs ≡ true → all p (f zs) ≡ true) where
  into_all : (ys : List Rec) → all p ys ≡ true → all p (into x f ys) ≡ true
  unfolding into
  into_all [] h = and_both _ _ hx (hf [] refl)
  into_all (y ∷ ys) h = go (way y.key x.key) (into_all ys (and_right (p y) _ h))
    where
      go : Way y.key x.key → all p (into x f ys) ≡ true → all p (into x f (y ∷ ys)) ≡ true
      go (less l) ih = rw (into_below x f y ys l) (and_both (p y) _ (and_left (p y) _ h) ih)
      go (same l) ih = rw (into_same x f y ys l) (and_both (p x) _ hx (hf ys (and_right (p y) _ h)))
      go (more l) ih = rw (into_above x f y ys l) (and_both (p x) _ hx (hf (y ∷ ys) h))

-- so it is of an overlay
pub overlay_all : (p : Rec → Bool) (xs ys : List Rec) → all p xs ≡ true → all p ys ≡ true → all p (overlay xs ys) ≡ true
unfolding overlay
overlay_all p [] ys a b = b
overlay_all p (x ∷ xs) ys a b = into_all p x (λ zs. overlay xs zs) (and_left (p x) _ a) (λ zs h. overlay_all p xs zs (and_right (p x) _ a) h) ys b

-- and of what is kept of a list
pub kept_all : (p : Rec → Bool) (bottom : Bool) (rs : List Rec) → all p rs ≡ true → all p (kept bottom rs) ≡ true
unfolding unmarked
kept_all p false rs h = h
kept_all p true [] h = refl
kept_all p true (r ∷ rs) h = go r.tombstone refl (kept_all p true rs (and_right (p r) _ h))
  where
    go : (t : Bool) → r.tombstone ≡ t → all p (unmarked rs) ≡ true → all p (unmarked (r ∷ rs)) ≡ true
    go true e i = rw (unmarked_drop r rs e) i
    go false e i = rw (unmarked_keep r rs e) (and_both (p r) _ (and_left (p r) _ h) i)

-- tombstones of two lists end to end
pub has_append : (xs ys : List Rec) → has_tombstone (xs ++ ys) ≡ (has_tombstone xs || has_tombstone ys)
has_append [] ys = refl
has_append (x ∷ xs) ys = ap (λ (t : Bool). x.tombstone || t) (has_append xs ys) ∙ sym (mathlib.Core.Bool.or_assoc x.tombstone (has_tombstone xs) (has_tombstone ys))
