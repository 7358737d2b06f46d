-- A record entered into a sorted list, and one taken out: what is found, the order, the length. So put and delete change the map.
use Prim.Native.Nat.{ℕ, suc, ◌<◌, ◌≤◌}
use mathlib.Core.Path.{◌≡◌, refl, sym, ◌∙◌, ap}
use mathlib.Core.Bool.{Bool, true}
use mathlib.Core.List.{List, [], ◌∷◌}
use mathlib.Core.Option.{none, some, none-ne-some}
use mathlib.Core.Logic.{◌≢◌}
use native.Mathlib.Omega.{arith}
use native.Mathlib.Decide.{ℕ_discrete}
use lib.ListN.{length}
use borrow.Author.Tests.{lt-ltb, le-ltb, eq-eqb, ne_eqb}
use Rattle.levels.specs.Basics.{all}
use Rattle.levels.specs.Record.{Rec}
use Rattle.levels.specs.Map.{find}
use Rattle.levels.specs.Put.{insert, without}
use Rattle.levels.specs.Rising.{Rising}
use Rattle.levels.proofs.Basics.{and_left, and_right, and_both}
use Rattle.levels.proofs.Rising.{rising_from}
use Rattle.levels.proofs.Overlay.{find_here, find_past, find_below, Way, less, same, more, way}

-- the clauses of insert, as laws
module _ (r s : Rec) (ss : List Rec) where
  insert_before : r.key < s.key → insert r (s ∷ ss) ≡ r ∷ s ∷ ss
  unfolding insert
  insert_before h = rw (lt-ltb r.key s.key h, insert)

  insert_over : r.key ≡ s.key → insert r (s ∷ ss) ≡ r ∷ ss
  unfolding insert
  insert_over h = rw (le-ltb r.key s.key (omega arith), eq-eqb r.key s.key h, insert)

  insert_past : s.key < r.key → insert r (s ∷ ss) ≡ s ∷ insert r ss
  unfolding insert
  insert_past h = rw (le-ltb r.key s.key (omega arith), ne_eqb r.key s.key (λ e. omega arith), insert)

insert_nil : (r : Rec) → insert r [] ≡ r ∷ []
unfolding insert
insert_nil r = refl

-- the list stays sorted
pub insert_rising : (low : ℕ) (r : Rec) (rs : List Rec) → low ≤ r.key → Rising low rs → Rising low (insert r rs)
insert_rising low r [] l h = rw (insert_nil r) (l, tt)
insert_rising low r (s ∷ ss) l h = go (way r.key s.key) (λ k. insert_rising (suc s.key) r ss k h.1)
  where
    go : Way r.key s.key → (suc s.key ≤ r.key → Rising (suc s.key) (insert r ss)) → Rising low (insert r (s ∷ ss))
    go (less k) ih = rw (insert_before r s ss k) (l, (k, h.1))
    go (same k) ih = rw (insert_over r s ss k) (l, rising_from (suc r.key) (suc s.key) ss (omega arith) h.1)
    go (more k) ih = rw (insert_past r s ss k) (h.0, ih k)

-- its key finds it
pub find_insert : (r : Rec) (rs : List Rec) → find r.key (insert r rs) ≡ some r
find_insert r [] = ap (find r.key) (insert_nil r) ∙ find_here r.key r [] refl
find_insert r (s ∷ ss) = go (way r.key s.key) (find_insert r ss)
  where
    go : Way r.key s.key → find r.key (insert r ss) ≡ some r → find r.key (insert r (s ∷ ss)) ≡ some r
    go (less k) ih = ap (find r.key) (insert_before r s ss k) ∙ find_here r.key r (s ∷ ss) refl
    go (same k) ih = ap (find r.key) (insert_over r s ss k) ∙ find_here r.key r ss refl
    go (more k) ih = ap (find r.key) (insert_past r s ss k) ∙ find_past r.key s (insert r ss) (λ e. omega (arith, e)) ∙ ih

find_cons : (k : ℕ) (s : Rec) (xs ys : List Rec) → find k xs ≡ find k ys → find k (s ∷ xs) ≡ find k (s ∷ ys)
find_cons k s xs ys e = go (ℕ_discrete s.key k)
  where
    go : Dec (s.key ≡ k) → find k (s ∷ xs) ≡ find k (s ∷ ys)
    go (yes d) = find_here k s xs d ∙ sym (find_here k s ys d)
    go (no d) = find_past k s xs d ∙ e ∙ sym (find_past k s ys d)

-- every other key finds what it found before
pub find_insert_other : (k : ℕ) (r : Rec) (rs : List Rec) → r.key ≢ k → find k (insert r rs) ≡ find k rs
find_insert_other k r [] n = ap (find k) (insert_nil r) ∙ find_past k r [] n
find_insert_other k r (s ∷ ss) n = go (way r.key s.key) (find_insert_other k r ss n)
  where
    go : Way r.key s.key → find k (insert r ss) ≡ find k ss → find k (insert r (s ∷ ss)) ≡ find k (s ∷ ss)
    go (less h) ih = ap (find k) (insert_before r s ss h) ∙ find_past k r (s ∷ ss) n
    go (same h) ih = ap (find k) (insert_over r s ss h) ∙ find_past k r ss n ∙ sym (find_past k s ss (λ e. n (h ∙ e)))
    go (more h) ih = ap (find k) (insert_past r s ss h) ∙ find_cons k s (insert r ss) ss ih

-- the list is as long as before, or by one longer
pub insert_most : (r : Rec) (rs : List Rec) → length (insert r rs) ≤ suc (length rs)
insert_most r [] = rw (insert_nil r) (omega arith)
insert_most r (s ∷ ss) = go (way r.key s.key) (insert_most r ss)
  where
    go : Way r.key s.key → length (insert r ss) ≤ suc (length ss) → length (insert r (s ∷ ss)) ≤ suc (suc (length ss))
    go (less h) ih = rw (insert_before r s ss h) (omega arith)
    go (same h) ih = rw (insert_over r s ss h) (omega arith)
    go (more h) ih = rw (insert_past r s ss h) (omega arith)

-- a key that is not there: longer by one
pub insert_new : (r : Rec) (rs : List Rec) → find r.key rs ≡ none → length (insert r rs) ≡ suc (length rs)
insert_new r [] e = ap length (insert_nil r)
insert_new r (s ∷ ss) e = go (way r.key s.key) (insert_new r ss)
  where
    go : Way r.key s.key → (find r.key ss ≡ none → length (insert r ss) ≡ suc (length ss)) → length (insert r (s ∷ ss)) ≡ suc (suc (length ss))
    go (less h) ih = ap length (insert_before r s ss h)
    go (same h) ih = absurd (none-ne-some s (sym e ∙ find_here r.key s ss (sym h)))
    go (more h) ih = ap length (insert_past r s ss h) ∙ ap suc (ih (sym (find_past r.key s ss (λ q. omega (arith, q))) ∙ e))

-- a key that is there: as long as before
pub insert_old : (low : ℕ) (r x : Rec) (rs : List Rec) → Rising low rs → find r.key rs ≡ some x → length (insert r rs) ≡ length rs
unfolding find
insert_old low r x [] h e = absurd (none-ne-some x e)
insert_old low r x (s ∷ ss) h e = go (way r.key s.key) (insert_old (suc s.key) r x ss h.1)
  where
    go : Way r.key s.key → (find r.key ss ≡ some x → length (insert r ss) ≡ length ss) → length (insert r (s ∷ ss)) ≡ suc (length ss)
    go (less k) ih = absurd (none-ne-some x (sym (find_below r.key s.key (s ∷ ss) (omega arith, h.1) k) ∙ e))
    go (same k) ih = ap length (insert_over r s ss k)
    go (more k) ih = ap length (insert_past r s ss k) ∙ ap suc (ih (sym (find_past r.key s ss (λ q. omega (arith, q))) ∙ e))

-- what is true of the record and of all others is true of all
pub insert_all : (p : Rec → Bool) (r : Rec) (rs : List Rec) → p r ≡ true → all p rs ≡ true → all p (insert r rs) ≡ true
insert_all p r [] e h = ap (all p) (insert_nil r) ∙ and_both _ _ e refl
insert_all p r (s ∷ ss) e h = go (way r.key s.key) (insert_all p r ss e (and_right (p s) _ h))
  where
    go : Way r.key s.key → all p (insert r ss) ≡ true → all p (insert r (s ∷ ss)) ≡ true
    go (less k) ih = ap (all p) (insert_before r s ss k) ∙ and_both _ _ e h
    go (same k) ih = ap (all p) (insert_over r s ss k) ∙ and_both _ _ e (and_right (p s) _ h)
    go (more k) ih = ap (all p) (insert_past r s ss k) ∙ and_both _ _ (and_left (p s) _ h) ih

without_here : (k : ℕ) (r : Rec) (rs : List Rec) → r.key ≡ k → without k (r ∷ rs) ≡ rs
without_here k r rs e = rw (eq-eqb r.key k e, without)

without_past : (k : ℕ) (r : Rec) (rs : List Rec) → r.key ≢ k → without k (r ∷ rs) ≡ r ∷ without k rs
without_past k r rs n = rw (ne_eqb r.key k n, without)

-- it stays sorted
pub without_rising : (low k : ℕ) (rs : List Rec) → Rising low rs → Rising low (without k rs)
without_rising low k [] h = tt
without_rising low k (r ∷ rs) h = go (ℕ_discrete r.key k) (without_rising (suc r.key) k rs h.1)
  where
    go : Dec (r.key ≡ k) → Rising (suc r.key) (without k rs) → Rising low (without k (r ∷ rs))
    go (yes d) ih = rw (without_here k r rs d) (rising_from low (suc r.key) rs (omega (arith, h.0)) h.1)
    go (no d) ih = rw (without_past k r rs d) (h.0, ih)

-- the key finds nothing then
pub find_without : (low k : ℕ) (rs : List Rec) → Rising low rs → find k (without k rs) ≡ none
unfolding find
find_without low k [] h = refl
find_without low k (r ∷ rs) h = go (ℕ_discrete r.key k) (find_without (suc r.key) k rs h.1)
  where
    go : Dec (r.key ≡ k) → find k (without k rs) ≡ none → find k (without k (r ∷ rs)) ≡ none
    go (yes d) ih = ap (find k) (without_here k r rs d) ∙ find_below k (suc r.key) rs h.1 (omega (arith, d))
    go (no d) ih = ap (find k) (without_past k r rs d) ∙ find_past k r (without k rs) d ∙ ih

-- every other key finds what it found before
pub find_without_other : (j k : ℕ) (rs : List Rec) → k ≢ j → find j (without k rs) ≡ find j rs
find_without_other j k [] n = refl
find_without_other j k (r ∷ rs) n = go (ℕ_discrete r.key k) (find_without_other j k rs n)
  where
    go : Dec (r.key ≡ k) → find j (without k rs) ≡ find j rs → find j (without k (r ∷ rs)) ≡ find j (r ∷ rs)
    go (yes d) ih = ap (find j) (without_here k r rs d) ∙ sym (find_past j r rs (λ e. n (sym d ∙ e)))
    go (no d) ih = ap (find j) (without_past k r rs d) ∙ find_cons j r (without k rs) rs ih

-- a key that was there: shorter by one
pub without_length : (k : ℕ) (x : Rec) (rs : List Rec) → find k rs ≡ some x → suc (length (without k rs)) ≡ length rs
unfolding find
without_length k x [] e = absurd (none-ne-some x e)
without_length k x (r ∷ rs) e = go (ℕ_discrete r.key k) (without_length k x rs)
  where
    go : Dec (r.key ≡ k) → (find k rs ≡ some x → suc (length (without k rs)) ≡ length rs) → suc (length (without k (r ∷ rs))) ≡ suc (length rs)
    go (yes d) ih = ap (λ (l : List Rec). suc (length l)) (without_here k r rs d)
    go (no d) ih = ap (λ (l : List Rec). suc (length l)) (without_past k r rs d) ∙ ap suc (ih (sym (find_past k r rs d) ∙ e))

-- a key that was not there: as before
pub without_none : (k : ℕ) (rs : List Rec) → find k rs ≡ none → without k rs ≡ rs
without_none k [] e = refl
without_none k (r ∷ rs) e = go (ℕ_discrete r.key k) (without_none k rs)
  where
    go : Dec (r.key ≡ k) → (find k rs ≡ none → without k rs ≡ rs) → without k (r ∷ rs) ≡ r ∷ rs
    go (yes d) ih = absurd (none-ne-some r (sym e ∙ find_here k r rs d))
    go (no d) ih = without_past k r rs d ∙ ap (λ (l : List Rec). r ∷ l) (ih (sym (find_past k r rs d) ∙ e))
