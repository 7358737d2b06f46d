-- Laws of levels' merge that the code needs: its new blocks have at most B records, and there are enough steps.
use Prim.Native.Nat.{ℕ, zero, suc, ◌+◌, ◌-◌, ◌≤◌, ◌<◌}
use mathlib.Core.Path.{◌≡◌, sym, ap, subst, ◌∙◌, refl}
use mathlib.Core.Bool.{Bool, true, false, ◌&&◌, true≢false}
use mathlib.Core.List.{List, [], ◌∷◌, ◌++◌, reverse_aux}
use native.Mathlib.Omega.{arith}
use lib.Dec.{leb, ltb, eqb}
use lib.ListN.{length, length-append}
use borrow.Author.Tests.{leb-true, leb-false}
use Rattle.levels.specs.Basics.{if◌then◌otherwise◌, iterate}
use Rattle.levels.specs.Record.{Rec, Block, Level, new, size, placed, records, first_key}
use Rattle.levels.specs.Merge.{Out, State, head_rec, reusable, flush, rest, reuse, gather, from_upper, from_lower, from_both, step_on, step, join_left, join}
use Rattle.levels.proofs.Basics.{and_left, and_right, if_either}
use Rattle.merging.proofs.Settle.{NewFit}

-- the buffer is not full, and the new blocks have at most B records
pub record Fit (B : ℕ) (o : Out) : Type 0 where
  pub few : length o.buffer < B
  pub done : NewFit B o.done

-- Block b of a side is reused if r, else its first record is gathered: what is left of the side, and what is made.
abbrev pub past : Bool → Block → Level → Level
past r b bs = if r then bs otherwise rest (b ∷ bs)

abbrev pub put : ℕ → Bool → Bool → Block → Out → Out
put B bottom r b o = if r then reuse b o otherwise gather B bottom (head_rec b) o

-- which of the two is tested once for both
test_once : (f : Level → Out → State) (r : Bool) (k l : Level) (o p : Out) → (if r then f k o otherwise f l p) ≡ f (if r then k otherwise l) (if r then o otherwise p)
test_once f true k l o p = refl
test_once f false k l o p = refl

module _ (B : ℕ) (bottom : Bool) where
  pub from_upper_lem : (x : Block) (xs lower : Level) (o : Out) → let r = reusable B bottom o lower x in from_upper B bottom x xs lower o ≡ record { upper = past r x xs; lower = lower; out = put B bottom r x o }
  from_upper_lem x xs lower o = test_once (λ (l : Level) (p : Out). record { upper = l; lower = lower; out = p }) (reusable B bottom o lower x) xs (rest (x ∷ xs)) (reuse x o) (gather B bottom (head_rec x) o)

  pub from_lower_lem : (y : Block) (ys upper : Level) (o : Out) → let r = reusable B bottom o upper y in from_lower B bottom y ys upper o ≡ record { upper = upper; lower = past r y ys; out = put B bottom r y o }
  from_lower_lem y ys upper o = test_once (λ (l : Level) (p : Out). record { upper = upper; lower = l; out = p }) (reusable B bottom o upper y) ys (rest (y ∷ ys)) (reuse y o) (gather B bottom (head_rec y) o)

pub placed_of : (B : ℕ) (bottom : Bool) (o : Out) (l : Level) (b : Block) → reusable B bottom o l b ≡ true → placed b ≡ true
placed_of B bottom o l b e = search (and_left, and_right)

flush_fit : (B : ℕ) (buf : List Rec) (done : Level) → length buf ≤ B → NewFit B done → NewFit B (flush buf done)
flush_fit B [] done h f = f
flush_fit B (r ∷ rs) done h f = (λ _. h, f)

module _ (B : ℕ) (bottom : Bool) where
  reuse_fit : (b : Block) (o : Out) → 1 ≤ B → placed b ≡ true → Fit B o → Fit B (reuse b o)
  reuse_fit b o l p f = let n = f.few in record { few = l; done = (λ e. absurd (true≢false (sym p ∙ e)), flush_fit B o.buffer o.done (omega arith) f.done) }

  pub gather_few : (r : Rec) (o : Out) → length o.buffer < B → length (gather B bottom r o).buffer < B
  gather_few r o h = go (bottom && r.tombstone) (leb B (suc (length o.buffer))) refl
    where
      go : (t u : Bool) → leb B (suc (length o.buffer)) ≡ u → length (if t then o otherwise if u then record { buffer = []; done = new (o.buffer ++ (r ∷ [])) ∷ o.done } otherwise record { buffer = o.buffer ++ (r ∷ []); done = o.done }).buffer < B
      go true u e = h
      go false true e = omega arith
      go false false e = omega (arith, leb-false B (suc (length o.buffer)) e, length-append o.buffer (r ∷ []))

  pub gather_fit : (r : Rec) (o : Out) → Fit B o → Fit B (gather B bottom r o)
  gather_fit r o f =
      record {
        few = gather_few r o f.few;
        done =
            if_either (λ (p : Out). NewFit B p.done) (bottom && r.tombstone) o _ f.done
            (if_either (λ (p : Out). NewFit B p.done) (leb B (suc (length o.buffer))) _ _ (λ _. omega (arith, f.few, length-append o.buffer (r ∷ [])), f.done) f.done);
      }

  put_fit : (r : Bool) (b : Block) (o : Out) → 1 ≤ B → (r ≡ true → placed b ≡ true) → Fit B o → Fit B (put B bottom r b o)
  put_fit true b o l p f = reuse_fit b o l (p refl) f
  put_fit false b o l p f = gather_fit (head_rec b) o f

  upper_fit : (x : Block) (xs lower : Level) (o : Out) → 1 ≤ B → Fit B o → Fit B (from_upper B bottom x xs lower o).out
  upper_fit x xs lower o l f = subst (λ (s : State). Fit B s.out) (sym (from_upper_lem B bottom x xs lower o)) (put_fit (reusable B bottom o lower x) x o l (placed_of B bottom o lower x) f)

  lower_fit : (y : Block) (ys upper : Level) (o : Out) → 1 ≤ B → Fit B o → Fit B (from_lower B bottom y ys upper o).out
  lower_fit y ys upper o l f = subst (λ (s : State). Fit B s.out) (sym (from_lower_lem B bottom y ys upper o)) (put_fit (reusable B bottom o upper y) y o l (placed_of B bottom o upper y) f)

  step_fit : (s : State) → 1 ≤ B → Fit B s.out → Fit B (step B bottom s).out
  step_fit s l f = go s.upper s.lower s.out f
    where
      go : (u v : Level) (o : Out) → Fit B o → Fit B (step_on B bottom u v o).out
      go [] [] o f = f
      go (x ∷ xs) [] o f = upper_fit x xs [] o l f
      go [] (y ∷ ys) o f = lower_fit y ys [] o l f
      go (x ∷ xs) (y ∷ ys) o f =
          if_either (λ (s : State). Fit B s.out) (ltb (first_key y.recs) (first_key x.recs)) _ _ (lower_fit y ys (x ∷ xs) o l f)
          (if_either (λ (s : State). Fit B s.out) (eqb (first_key y.recs) (first_key x.recs)) _ _ (gather_fit (head_rec x) o f) (upper_fit x xs (y ∷ ys) o l f))

  pub steps_fit : (n : ℕ) (s : State) → 1 ≤ B → Fit B s.out → Fit B (iterate n (step B bottom) s).out
  steps_fit zero s l f = f
  steps_fit (suc n) s l f = steps_fit n (step B bottom s) l (step_fit s l f)

pub reverse_fit : (B : ℕ) (l acc : Level) → NewFit B l → NewFit B acc → NewFit B (reverse_aux l acc)
reverse_fit B [] acc f g = g
reverse_fit B (b ∷ l) acc f g = reverse_fit B l (b ∷ acc) f.1 (f.0, g)

left_fit : (B : ℕ) (buf : List Rec) (done : Level) → length buf < B → NewFit B done → NewFit B (join_left B buf done)
left_fit B [] done h f = f
left_fit B (r ∷ rs) [] h f = (λ _. omega arith, f)
left_fit B (r ∷ rs) (e ∷ es) h f = go (leb (size e + length (r ∷ rs)) B) refl
  where
    go : (t : Bool) → leb (size e + length (r ∷ rs)) B ≡ t → NewFit B (if t then new (e.recs ++ (r ∷ rs)) ∷ es otherwise new (r ∷ rs) ∷ e ∷ es)
    go true w = (λ _. omega (arith, leb-true (size e + length (r ∷ rs)) B w, length-append e.recs (r ∷ rs)), f.1)
    go false w = (λ _. omega arith, f)

pub join_fit : (B : ℕ) (done behind : Level) → NewFit B done → NewFit B behind → NewFit B (join B done behind)
join_fit B [] behind f g = g
join_fit B (e ∷ es) [] f g = reverse_fit B (e ∷ es) [] f tt
join_fit B (e ∷ es) (a ∷ bs) f g = go (leb (size e + size a) B) refl
  where
    go : (t : Bool) → leb (size e + size a) B ≡ t → NewFit B (if t then reverse_aux es (new (e.recs ++ a.recs) ∷ bs) otherwise reverse_aux (e ∷ es) (a ∷ bs))
    go true w = reverse_fit B es (new (e.recs ++ a.recs) ∷ bs) f.1 (λ _. omega (arith, leb-true (size e + size a) B w, length-append e.recs a.recs), g.1)
    go false w = reverse_fit B (e ∷ es) (a ∷ bs) f g

-- the new blocks of a merge have at most B records
pub merge_fit : (B : ℕ) (o : Out) (behind : Level) → Fit B o → NewFit B behind → NewFit B (join B (join_left B o.buffer o.done) behind)
merge_fit B o behind f g = join_fit B (join_left B o.buffer o.done) behind (left_fit B o.buffer o.done f.few f.done) g

-- every block holds a record
abbrev pub Filled : Level → Type 0
Filled [] = Unit {0}
Filled (b ∷ bs) = (1 ≤ size b) × Filled bs

-- the records that are still to be read
abbrev pub left : State → ℕ
left s = length (records s.upper) + length (records s.lower)

rest_filled : (b : Block) (bs : Level) → Filled (b ∷ bs) → Filled (rest (b ∷ bs)) × (suc (length (records (rest (b ∷ bs)))) ≡ length (records (b ∷ bs)))
rest_filled b bs f = go b.recs f.0
  where
    go : (rs : List Rec) → 1 ≤ length rs → Filled (rest (new rs ∷ bs)) × (suc (length (records (rest (new rs ∷ bs)))) ≡ length (records (new rs ∷ bs)))
    go [] h = absurd (omega arith)
    go (r ∷ []) h = (f.1, refl)
    go (r ∷ s ∷ rs) h = ((omega arith, f.1), refl)

cons_count : (b : Block) (bs : Level) → 1 ≤ size b → suc (length (records bs)) ≤ length (records (b ∷ bs))
cons_count b bs h = rw length-append (omega arith)

past_less : (r : Bool) (b : Block) (bs : Level) → Filled (b ∷ bs) → Filled (past r b bs) × (suc (length (records (past r b bs))) ≤ length (records (b ∷ bs)))
past_less true b bs f = (f.1, cons_count b bs f.0)
past_less false b bs f = let p = rest_filled b bs f in (p.0, omega (arith, p.1))

-- a step reads a record or more
pub record Less (s r : State) : Type 0 where
  pub upper : Filled r.upper
  pub lower : Filled r.lower
  pub count : left r ≤ left s - 1

module _ (B : ℕ) (bottom : Bool) where
  upper_less : (x : Block) (xs lower : Level) (o : Out) → Filled (x ∷ xs) → Filled lower → Less (record { upper = x ∷ xs; lower = lower; out = o }) (from_upper B bottom x xs lower o)
  upper_less x xs lower o f g =
      let p = past_less (reusable B bottom o lower x) x xs f in
      subst (Less (record { upper = x ∷ xs; lower = lower; out = o })) (sym (from_upper_lem B bottom x xs lower o)) (record { upper = p.0; lower = g; count = omega (arith, p.1) })

  lower_less : (y : Block) (ys upper : Level) (o : Out) → Filled (y ∷ ys) → Filled upper → Less (record { upper = upper; lower = y ∷ ys; out = o }) (from_lower B bottom y ys upper o)
  lower_less y ys upper o f g =
      let p = past_less (reusable B bottom o upper y) y ys f in
      subst (Less (record { upper = upper; lower = y ∷ ys; out = o })) (sym (from_lower_lem B bottom y ys upper o)) (record { upper = g; lower = p.0; count = omega (arith, p.1) })

  both_less : (x : Block) (xs : Level) (y : Block) (ys : Level) (o : Out) → Filled (x ∷ xs) → Filled (y ∷ ys) → Less (record { upper = x ∷ xs; lower = y ∷ ys; out = o }) (from_both B bottom x xs (y ∷ ys) o)
  both_less x xs y ys o f g = let p = past_less false x xs f in let q = past_less false y ys g in record { upper = p.0; lower = q.0; count = omega (arith, p.1, q.1) }

  step_less : (s : State) → Filled s.upper → Filled s.lower → Less s (step B bottom s)
  step_less s f g = go s.upper s.lower s.out f g
    where
      go : (u v : Level) (o : Out) → Filled u → Filled v → Less (record { upper = u; lower = v; out = o }) (step_on B bottom u v o)
      go [] [] o f g = record { upper = tt; lower = tt; count = omega arith }
      go (x ∷ xs) [] o f g = upper_less x xs [] o f g
      go [] (y ∷ ys) o f g = lower_less y ys [] o g f
      go (x ∷ xs) (y ∷ ys) o f g =
          if_either (Less (record { upper = x ∷ xs; lower = y ∷ ys; out = o })) (ltb (first_key y.recs) (first_key x.recs)) _ _ (lower_less y ys (x ∷ xs) o g f)
          (if_either (Less (record { upper = x ∷ xs; lower = y ∷ ys; out = o })) (eqb (first_key y.recs) (first_key x.recs)) _ _ (both_less x xs y ys o f g) (upper_less x xs (y ∷ ys) o f g))

  none_left : (l : Level) → Filled l → length (records l) ≡ 0 → l ≡ []
  none_left [] f e = refl
  none_left (b ∷ bs) f e = absurd (omega (arith, cons_count b bs f.0))

  -- when as many steps are made as there are records, both sides are used up
  pub steps_end : (n : ℕ) (s : State) → Filled s.upper → Filled s.lower → left s ≤ n → ((iterate n (step B bottom) s).upper ≡ []) × ((iterate n (step B bottom) s).lower ≡ [])
  steps_end zero s f g h = (none_left s.upper f (omega arith), none_left s.lower g (omega arith))
  steps_end (suc n) s f g h = let l = step_less s f g in let c = l.count in steps_end n (step B bottom s) l.upper l.lower (omega arith)

  pub step_idle : (s : State) → s.upper ≡ [] → s.lower ≡ [] → step B bottom s ≡ s
  step_idle s e f = rw (e, f)

  idle_steps : (n : ℕ) (s : State) → s.upper ≡ [] → s.lower ≡ [] → iterate n (step B bottom) s ≡ s
  idle_steps zero s e f = refl
  idle_steps (suc n) s e f = ap (iterate n (step B bottom)) (step_idle s e f) ∙ idle_steps n s e f

  -- further steps change nothing
  pub steps_enough : (n m : ℕ) (s : State) → Filled s.upper → Filled s.lower → left s ≤ n → n ≤ m → iterate m (step B bottom) s ≡ iterate n (step B bottom) s
  steps_enough zero m s f g h l = idle_steps m s (none_left s.upper f (omega arith)) (none_left s.lower g (omega arith))
  steps_enough (suc n) zero s f g h l = absurd (omega arith)
  steps_enough (suc n) (suc m) s f g h l = let k = step_less s f g in let c = k.count in steps_enough n m (step B bottom s) k.upper k.lower (omega arith) (omega arith)
