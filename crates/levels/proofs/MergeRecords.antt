-- Steps 3 and 4: the records of the level that a merge of given X and Y makes. Nothing here knows how X was chosen.
use Prim.Native.Nat.{ℕ, zero, suc, ◌+◌, ◌<◌, ◌≤◌}
use mathlib.Core.Path.{◌≡◌, refl, sym, ◌∙◌, ap}
use mathlib.Core.Bool.{Bool, true, false, ◌&&◌, ◌||◌, not}
use mathlib.Core.List.{List, [], ◌∷◌, ◌++◌, append_assoc, append-nil, reverse, reverse_aux, tail}
use native.Mathlib.Omega.{arith}
use lib.Dec.{leb, ltb, eqb}
use lib.ListN.{length, length-append}
use borrow.Author.Tests.{ltb-true, ltb-false, eqb-true, eqb-false}
use Rattle.levels.specs.Basics.{if◌then◌otherwise◌, iterate}
use Rattle.levels.specs.Record.{Rec, Block, Level, size, new, placed, records, first_key, last_key, has_tombstone}
use Rattle.levels.specs.Map.{into, overlay, unmarked}
use Rattle.levels.specs.Merge.{Out, State, ends_below, may_follow, reusable, flush, rest, head_rec, reuse, keep, gather, from_upper, from_lower, from_both, step_on, step, join_left, join, stream, merge, close}
use Rattle.levels.specs.Rising.{Rising}
use Rattle.levels.proofs.Basics.{and_left, and_right, if_either}
use Rattle.levels.proofs.Rising.{rising_from, rising_left, rising_right}
use Rattle.levels.proofs.Overlay.{into_below, into_same, into_above}
use Rattle.levels.proofs.View.{unmarked_keep}
use Rattle.levels.proofs.Levels.{Filled, records_append}

-- the records of what has been made, which is kept last block first
abbrev pub done_recs : Level → List Rec
done_recs [] = []
done_recs (b ∷ bs) = done_recs bs ++ b.recs

-- and of the buffer behind it
abbrev pub out_recs : Out → List Rec
out_recs o = done_recs o.done ++ o.buffer

-- "Marks stay, except that level h drops them."
abbrev pub kept : Bool → List Rec → List Rec
kept false rs = rs
kept true rs = unmarked rs

flush_recs : (buffer : List Rec) (done : Level) → done_recs (flush buffer done) ≡ done_recs done ++ buffer
flush_recs [] done = sym (append-nil (done_recs done))
flush_recs (r ∷ rs) done = refl

-- a reused block comes behind all that is made
pub reuse_recs : (b : Block) (o : Out) → out_recs (reuse b o) ≡ out_recs o ++ b.recs
reuse_recs b o = simp (append-nil, flush_recs)

keep_recs : (B : ℕ) (r : Rec) (o : Out) → out_recs (keep B r o) ≡ out_recs o ++ (r ∷ [])
keep_recs B r o = go (leb B (suc (length o.buffer)))
  where
    go : (t : Bool) → out_recs (if t then record { buffer = []; done = new (o.buffer ++ (r ∷ [])) ∷ o.done } otherwise record { buffer = o.buffer ++ (r ∷ []); done = o.done }) ≡ out_recs o ++ (r ∷ [])
    go true = simp (append-nil, append_assoc)
    go false = simp append_assoc

-- a record read comes behind all that is made, unless it is dropped
pub gather_recs : (B : ℕ) (bottom : Bool) (r : Rec) (o : Out) → out_recs (gather B bottom r o) ≡ out_recs o ++ kept bottom (r ∷ [])
unfolding unmarked
gather_recs B false r o = keep_recs B r o
gather_recs B true r o = go r.tombstone
  where
    go : (t : Bool) → out_recs (if t then o otherwise keep B r o) ≡ out_recs o ++ elim t [ true ↦ [] | false ↦ r ∷ [] ]
    go true = sym (append-nil (out_recs o))
    go false = keep_recs B r o

-- the first key of a list is above k, or the list is empty
abbrev Ahead : ℕ → List Rec → Type 0
Ahead k [] = Unit {0}
Ahead k (r ∷ rs) = k < r.key

ahead_less : (j k : ℕ) (rs : List Rec) → j ≤ k → Ahead k rs → Ahead j rs
ahead_less j k [] h a = tt
ahead_less j k (r ∷ rs) h a = omega arith

overlay_upper : (r : Rec) (rs ys : List Rec) → Ahead r.key ys → overlay (r ∷ rs) ys ≡ r ∷ overlay rs ys
unfolding overlay into
overlay_upper r rs [] a = refl
overlay_upper r rs (y ∷ ys) a = into_above r (overlay rs) y ys a

overlay_lower : (xs : List Rec) (r : Rec) (rs : List Rec) → Ahead r.key xs → overlay xs (r ∷ rs) ≡ r ∷ overlay xs rs
unfolding overlay
overlay_lower [] r rs a = refl
overlay_lower (x ∷ xs) r rs a = into_below x (overlay xs) r rs a

overlay_same : (x : Rec) (xs : List Rec) (y : Rec) (ys : List Rec) → y.key ≡ x.key → overlay (x ∷ xs) (y ∷ ys) ≡ x ∷ overlay xs ys
unfolding overlay
overlay_same x xs y ys e = into_same x (overlay xs) y ys e

last_most : (low : ℕ) (r : Rec) (rs : List Rec) → Rising low (r ∷ rs) → r.key ≤ last_key (r ∷ rs)
last_most low r [] h = omega arith
last_most low r (s ∷ rs) h = omega (arith, last_most (suc r.key) s rs h.1)

-- a whole block whose keys are below the other list's
block_upper : (low : ℕ) (b xs ys : List Rec) → Rising low b → Ahead (last_key b) ys → overlay (b ++ xs) ys ≡ b ++ overlay xs ys
block_upper low [] xs ys h a = refl
block_upper low (r ∷ []) xs ys h a = overlay_upper r xs ys a
block_upper low (r ∷ s ∷ rs) xs ys h a =
    overlay_upper r ((s ∷ rs) ++ xs) ys (ahead_less r.key (last_key (s ∷ rs)) ys (omega (arith, last_most (suc r.key) s rs h.1)) a)
    ∙ ap (λ (l : List Rec). r ∷ l) (block_upper (suc r.key) (s ∷ rs) xs ys h.1 a)

block_lower : (low : ℕ) (xs b ys : List Rec) → Rising low b → Ahead (last_key b) xs → overlay xs (b ++ ys) ≡ b ++ overlay xs ys
block_lower low xs [] ys h a = refl
block_lower low xs (r ∷ []) ys h a = overlay_lower xs r ys a
block_lower low xs (r ∷ s ∷ rs) ys h a =
    overlay_lower xs r ((s ∷ rs) ++ ys) (ahead_less r.key (last_key (s ∷ rs)) xs (omega (arith, last_most (suc r.key) s rs h.1)) a)
    ∙ ap (λ (l : List Rec). r ∷ l) (block_lower (suc r.key) xs (s ∷ rs) ys h.1 a)

kept_cons : (bottom : Bool) (r : Rec) (rs : List Rec) → kept bottom (r ∷ rs) ≡ kept bottom (r ∷ []) ++ kept bottom rs
unfolding unmarked
kept_cons false r rs = refl
kept_cons true r rs = go r.tombstone
  where
    go : (t : Bool) → elim t [ true ↦ unmarked rs | false ↦ r ∷ unmarked rs ] ≡ elim t [ true ↦ [] | false ↦ r ∷ [] ] ++ unmarked rs
    go true = refl
    go false = refl

-- a block that may be reused loses no record
kept_block : (bottom : Bool) (b rs : List Rec) → not (bottom && has_tombstone b) ≡ true → kept bottom (b ++ rs) ≡ b ++ kept bottom rs
kept_block false b rs h = refl
kept_block true [] rs h = refl
kept_block true (r ∷ b) rs h = go r.tombstone refl h (kept_block true b rs)
  where
    go : (t : Bool) → r.tombstone ≡ t → not (t || has_tombstone b) ≡ true → (not (has_tombstone b) ≡ true → unmarked (b ++ rs) ≡ b ++ unmarked rs)
        → unmarked (r ∷ (b ++ rs)) ≡ r ∷ (b ++ unmarked rs)
    go true d e ih = cc
    go false d e ih = unmarked_keep r (b ++ rs) d ∙ ap (λ (l : List Rec). r ∷ l) (ih e)

pub records_head : (b : Block) (bs : Level) → 1 ≤ size b → records (b ∷ bs) ≡ head_rec b ∷ records (rest (b ∷ bs))
records_head b bs h = go b.recs h
  where
    go : (rs : List Rec) → 1 ≤ length rs → records (new rs ∷ bs) ≡ head_rec (new rs) ∷ records (rest (new rs ∷ bs))
    go [] h = absurd (omega arith)
    go (r ∷ []) h = refl
    go (r ∷ s ∷ rs) h = refl

ends_ahead : (k : ℕ) (l : Level) → Filled l → ends_below k l ≡ true → Ahead k (records l)
ends_ahead k [] f e = tt
ends_ahead k (b ∷ bs) f e = go b.recs f.0 e
  where
    go : (rs : List Rec) → 1 ≤ length rs → ltb k (first_key rs) ≡ true → Ahead k (rs ++ records bs)
    go [] h e = absurd (omega arith)
    go (r ∷ rs) h e = ltb-true k r.key e

-- what is left of X and Y is sorted and has no empty block
pub record Sorted (s : State) : Type 0 where
  pub filled_u : Filled s.upper
  pub filled_l : Filled s.lower
  pub rising_u : Rising 0 (records s.upper)
  pub rising_l : Rising 0 (records s.lower)

-- what the level made will hold: what is made, and what is still to be merged
abbrev outcome : Bool → State → List Rec
outcome bottom s = out_recs s.out ++ kept bottom (overlay (records s.upper) (records s.lower))

-- what the test of a reuse says
pub reusable_says : (B : ℕ) (bottom : Bool) (o : Out) (l : Level) (b : Block) → reusable B bottom o l b ≡ true
    → (ends_below (last_key b.recs) l ≡ true) × (placed b ≡ true) × (not (bottom && has_tombstone b.recs) ≡ true) × (may_follow B b o.buffer o.done ≡ true)
reusable_says B bottom o l b e = search (and_left, and_right)

module _ (B : ℕ) (bottom : Bool) where
  gather_outcome : (r : Rec) (o : Out) (m : List Rec) → out_recs (gather B bottom r o) ++ kept bottom m ≡ out_recs o ++ kept bottom (r ∷ m)
  gather_outcome r o m =
      ap (λ (l : List Rec). l ++ kept bottom m) (gather_recs B bottom r o) ∙ append_assoc (out_recs o) (kept bottom (r ∷ [])) (kept bottom m)
      ∙ ap (λ (l : List Rec). out_recs o ++ l) (sym (kept_cons bottom r m))

  upper_outcome : (x : Block) (xs lower : Level) (o : Out) → 1 ≤ size x → Filled lower → Rising 0 (records (x ∷ xs)) → Ahead (head_rec x).key (records lower)
      → outcome bottom (from_upper B bottom x xs lower o) ≡ out_recs o ++ kept bottom (overlay (records (x ∷ xs)) (records lower))
  upper_outcome x xs lower o f g h a = go (reusable B bottom o lower x) refl
    where
      go : (t : Bool) → reusable B bottom o lower x ≡ t
          → outcome bottom (if t then record { upper = xs; lower = lower; out = reuse x o } otherwise record { upper = rest (x ∷ xs); lower = lower; out = gather B bottom (head_rec x) o })
          ≡ out_recs o ++ kept bottom (overlay (records (x ∷ xs)) (records lower))
      go true e =
          let c = reusable_says B bottom o lower x e in
          rw (reuse_recs x o, block_upper 0 x.recs (records xs) (records lower) (rising_left 0 x.recs (records xs) h) (ends_ahead (last_key x.recs) lower g c.0))
          (simp (kept_block bottom x.recs (overlay (records xs) (records lower)) c.2, append_assoc))
      go false e =
          rw (records_head x xs f, overlay_upper (head_rec x) (records (rest (x ∷ xs))) (records lower) a)
          (gather_outcome (head_rec x) o (overlay (records (rest (x ∷ xs))) (records lower)))

  lower_outcome : (y : Block) (ys upper : Level) (o : Out) → 1 ≤ size y → Filled upper → Rising 0 (records (y ∷ ys)) → Ahead (head_rec y).key (records upper)
      → outcome bottom (from_lower B bottom y ys upper o) ≡ out_recs o ++ kept bottom (overlay (records upper) (records (y ∷ ys)))
  lower_outcome y ys upper o f g h a = go (reusable B bottom o upper y) refl
    where
      go : (t : Bool) → reusable B bottom o upper y ≡ t
          → outcome bottom (if t then record { upper = upper; lower = ys; out = reuse y o } otherwise record { upper = upper; lower = rest (y ∷ ys); out = gather B bottom (head_rec y) o })
          ≡ out_recs o ++ kept bottom (overlay (records upper) (records (y ∷ ys)))
      go true e =
          let c = reusable_says B bottom o upper y e in
          rw (reuse_recs y o, block_lower 0 (records upper) y.recs (records ys) (rising_left 0 y.recs (records ys) h) (ends_ahead (last_key y.recs) upper g c.0))
          (simp (kept_block bottom y.recs (overlay (records upper) (records ys)) c.2, append_assoc))
      go false e =
          rw (records_head y ys f, overlay_lower (records upper) (head_rec y) (records (rest (y ∷ ys))) a)
          (gather_outcome (head_rec y) o (overlay (records upper) (records (rest (y ∷ ys)))))

  both_outcome : (x : Block) (xs : Level) (y : Block) (ys : Level) (o : Out) → 1 ≤ size x → 1 ≤ size y → (head_rec y).key ≡ (head_rec x).key
      → outcome bottom (from_both B bottom x xs (y ∷ ys) o) ≡ out_recs o ++ kept bottom (overlay (records (x ∷ xs)) (records (y ∷ ys)))
  both_outcome x xs y ys o f g e =
      rw (records_head x xs f, records_head y ys g, overlay_same (head_rec x) (records (rest (x ∷ xs))) (head_rec y) (records (rest (y ∷ ys))) e)
      (gather_outcome (head_rec x) o (overlay (records (rest (x ∷ xs))) (records (rest (y ∷ ys)))))

  head_key : (b : Block) → 1 ≤ size b → (head_rec b).key ≡ first_key b.recs
  head_key b h = go b.recs h
    where
      go : (rs : List Rec) → 1 ≤ length rs → (head_rec (new rs)).key ≡ first_key rs
      go [] h = absurd (omega arith)
      go (r ∷ rs) h = refl

  head_ahead : (k : ℕ) (b : Block) (bs : Level) → 1 ≤ size b → k < first_key b.recs → Ahead k (records (b ∷ bs))
  head_ahead k b bs h l = rw records_head (rw head_key l)

  -- a step changes nothing of what the level made will hold
  step_outcome : (s : State) → Sorted s → outcome bottom (step B bottom s) ≡ outcome bottom s
  step_outcome s h = go s.upper s.lower s.out h.filled_u h.filled_l h.rising_u h.rising_l
    where
      go : (u l : Level) (o : Out) → Filled u → Filled l → Rising 0 (records u) → Rising 0 (records l) → outcome bottom (step_on B bottom u l o) ≡ out_recs o ++ kept bottom (overlay (records u) (records l))
      go [] [] o fu fl ru rl = refl
      go (x ∷ xs) [] o fu fl ru rl = upper_outcome x xs [] o fu.0 tt ru tt
      go [] (y ∷ ys) o fu fl ru rl = lower_outcome y ys [] o fl.0 tt rl tt
      go (x ∷ xs) (y ∷ ys) o fu fl ru rl = split (ltb (first_key y.recs) (first_key x.recs)) (eqb (first_key y.recs) (first_key x.recs)) refl refl
        where
          split : (s t : Bool) → ltb (first_key y.recs) (first_key x.recs) ≡ s → eqb (first_key y.recs) (first_key x.recs) ≡ t
              → outcome bottom (if s then from_lower B bottom y ys (x ∷ xs) o otherwise if t then from_both B bottom x xs (y ∷ ys) o otherwise from_upper B bottom x xs (y ∷ ys) o)
              ≡ out_recs o ++ kept bottom (overlay (records (x ∷ xs)) (records (y ∷ ys)))
          split true t d e = lower_outcome y ys (x ∷ xs) o fl.0 fu rl (head_ahead (head_rec y).key x xs fu.0 (omega (arith, head_key y fl.0, ltb-true (first_key y.recs) (first_key x.recs) d)))
          split false true d e = both_outcome x xs y ys o fu.0 fl.0 (omega (arith, head_key x fu.0, head_key y fl.0, eqb-true (first_key y.recs) (first_key x.recs) e))
          split false false d e = upper_outcome x xs (y ∷ ys) o fu.0 fl ru (head_ahead (head_rec x).key y ys fl.0 (omega (arith, head_key x fu.0, ltb-false (first_key y.recs) (first_key x.recs) d, eqb-false (first_key y.recs) (first_key x.recs) e)))

rest_rising : (b : Block) (bs : Level) → 1 ≤ size b → Rising 0 (records (b ∷ bs)) → Rising 0 (records (rest (b ∷ bs)))
rest_rising b bs f h =
    let k : Rising 0 (head_rec b ∷ records (rest (b ∷ bs))) = rw (records_head b bs f) at h in
    rising_from 0 (suc (head_rec b).key) (records (rest (b ∷ bs))) (omega arith) k.1

flush_filled : (rs : List Rec) (bs : Level) → Filled bs → Filled (flush rs bs)
flush_filled [] bs f = f
flush_filled (r ∷ rs) bs f = (omega arith, f)

rest_filled : (l : Level) → Filled l → Filled (rest l)
rest_filled [] f = tt
rest_filled (b ∷ bs) f = flush_filled (tail b.recs) bs f.1

pub rest_length : (b : Block) (bs : Level) → 1 ≤ size b → length (records (b ∷ bs)) ≡ suc (length (records (rest (b ∷ bs))))
rest_length b bs f = ap length (records_head b bs f)

-- the records that are still to be read
abbrev pub to_read : State → ℕ
to_read s = length (records s.upper) + length (records s.lower)

-- what a step keeps, and that it gets on
pub record Stepped (n : ℕ) (s : State) : Type 0 where
  pub sorted : Sorted s
  pub fewer : to_read s ≤ n

length_tail : (b : Block) (bs : Level) → 1 ≤ size b → length (records bs) < length (records (b ∷ bs))
length_tail b bs f = omega (arith, length-append b.recs (records bs))

module _ (B : ℕ) (bottom : Bool) (n : ℕ) (o : Out) where
  upper_stepped : (x : Block) (xs l : Level) → Filled (x ∷ xs) → Filled l → Rising 0 (records (x ∷ xs)) → Rising 0 (records l)
      → length (records (x ∷ xs)) + length (records l) ≤ suc n → Stepped n (from_upper B bottom x xs l o)
  upper_stepped x xs l fu fl ru rl le = if_either (Stepped n) (reusable B bottom o l x) (record { upper = xs; lower = l; out = reuse x o }) (record { upper = rest (x ∷ xs); lower = l; out = gather B bottom (head_rec x) o })
      (record { sorted = record { filled_u = fu.1; filled_l = fl; rising_u = rising_right 0 x.recs (records xs) ru; rising_l = rl }; fewer = omega (arith, length_tail x xs fu.0) })
      (record { sorted = record { filled_u = rest_filled (x ∷ xs) fu; filled_l = fl; rising_u = rest_rising x xs fu.0 ru; rising_l = rl }; fewer = omega (arith, rest_length x xs fu.0) })

  lower_stepped : (y : Block) (ys u : Level) → Filled u → Filled (y ∷ ys) → Rising 0 (records u) → Rising 0 (records (y ∷ ys))
      → length (records u) + length (records (y ∷ ys)) ≤ suc n → Stepped n (from_lower B bottom y ys u o)
  lower_stepped y ys u fu fl ru rl le = if_either (Stepped n) (reusable B bottom o u y) (record { upper = u; lower = ys; out = reuse y o }) (record { upper = u; lower = rest (y ∷ ys); out = gather B bottom (head_rec y) o })
      (record { sorted = record { filled_u = fu; filled_l = fl.1; rising_u = ru; rising_l = rising_right 0 y.recs (records ys) rl }; fewer = omega (arith, length_tail y ys fl.0) })
      (record { sorted = record { filled_u = fu; filled_l = rest_filled (y ∷ ys) fl; rising_u = ru; rising_l = rest_rising y ys fl.0 rl }; fewer = omega (arith, rest_length y ys fl.0) })

  both_stepped : (x : Block) (xs : Level) (y : Block) (ys : Level) → Filled (x ∷ xs) → Filled (y ∷ ys) → Rising 0 (records (x ∷ xs)) → Rising 0 (records (y ∷ ys))
      → length (records (x ∷ xs)) + length (records (y ∷ ys)) ≤ suc n → Stepped n (from_both B bottom x xs (y ∷ ys) o)
  both_stepped x xs y ys fu fl ru rl le =
      record { sorted = record { filled_u = rest_filled (x ∷ xs) fu; filled_l = rest_filled (y ∷ ys) fl; rising_u = rest_rising x xs fu.0 ru; rising_l = rest_rising y ys fl.0 rl }; fewer = omega (arith, rest_length x xs fu.0, rest_length y ys fl.0) }

  step_stepped : (u l : Level) → Filled u → Filled l → Rising 0 (records u) → Rising 0 (records l) → length (records u) + length (records l) ≤ suc n → Stepped n (step_on B bottom u l o)
  step_stepped [] [] fu fl ru rl le = record { sorted = record { filled_u = tt; filled_l = tt; rising_u = tt; rising_l = tt }; fewer = omega arith }
  step_stepped (x ∷ xs) [] fu fl ru rl le = upper_stepped x xs [] fu fl ru rl le
  step_stepped [] (y ∷ ys) fu fl ru rl le = lower_stepped y ys [] fu fl ru rl le
  step_stepped (x ∷ xs) (y ∷ ys) fu fl ru rl le = if_either (Stepped n) (ltb (first_key y.recs) (first_key x.recs)) _ _ (lower_stepped y ys (x ∷ xs) fu fl ru rl le)
      (if_either (Stepped n) (eqb (first_key y.recs) (first_key x.recs)) _ _ (both_stepped x xs y ys fu fl ru rl le) (upper_stepped x xs (y ∷ ys) fu fl ru rl le))

module _ (B : ℕ) (bottom : Bool) where
  -- "Each step takes a record or more, so there are enough steps"
  iterate_outcome : (n : ℕ) (s : State) → Stepped n s → (outcome bottom (iterate n (step B bottom) s) ≡ outcome bottom s) × Stepped 0 (iterate n (step B bottom) s)
  iterate_outcome zero s h = (refl, h)
  iterate_outcome (suc n) s h =
      let ih = iterate_outcome n (step B bottom s) (step_stepped B bottom n s.out s.upper s.lower h.sorted.filled_u h.sorted.filled_l h.sorted.rising_u h.sorted.rising_l h.fewer) in
      (ih.0 ∙ step_outcome B bottom s h.sorted, ih.1)

none_left : (l : List Rec) → length l ≤ 0 → l ≡ []
none_left [] h = refl
none_left (r ∷ rs) h = absurd (omega arith)

kept_nil : (bottom : Bool) → kept bottom [] ≡ []
unfolding unmarked
kept_nil false = refl
kept_nil true = refl

all_made : (bottom : Bool) (s : State) → Stepped 0 s → outcome bottom s ≡ out_recs s.out
unfolding overlay
all_made bottom s h =
    rw (none_left (records s.upper) (omega arith), none_left (records s.lower) (omega arith), kept_nil bottom) (append-nil (out_recs s.out))

reverse_records : (done l : Level) → records (reverse_aux done l) ≡ done_recs done ++ records l
reverse_records [] l = refl
reverse_records (b ∷ bs) l = reverse_records bs (b ∷ l) ∙ sym (append_assoc (done_recs bs) b.recs (records l))

pub reverse_done : (l m : Level) → done_recs (reverse_aux l m) ≡ done_recs m ++ records l
reverse_done [] m = sym (append-nil (done_recs m))
reverse_done (b ∷ bs) m = reverse_done bs (b ∷ m) ∙ append_assoc (done_recs m) b.recs (records bs)

-- step 4 keeps all records
pub join_left_records : (B : ℕ) (buffer : List Rec) (done : Level) → done_recs (join_left B buffer done) ≡ done_recs done ++ buffer
join_left_records B [] done = sym (append-nil (done_recs done))
join_left_records B (r ∷ rs) [] = refl
join_left_records B (r ∷ rs) (e ∷ es) = if_either (λ l. done_recs l ≡ done_recs (e ∷ es) ++ (r ∷ rs)) (leb (size e + length (r ∷ rs)) B) (new (e.recs ++ (r ∷ rs)) ∷ es) (new (r ∷ rs) ∷ e ∷ es) (sym (append_assoc (done_recs es) e.recs (r ∷ rs))) refl

pub join_records : (B : ℕ) (done behind : Level) → records (join B done behind) ≡ done_recs done ++ records behind
join_records B [] behind = refl
join_records B (e ∷ es) [] = reverse_records (e ∷ es) []
join_records B (e ∷ es) (a ∷ bs) = if_either (λ l. records l ≡ done_recs (e ∷ es) ++ records (a ∷ bs)) (leb (size e + size a) B) (reverse_aux es (new (e.recs ++ a.recs) ∷ bs)) (reverse_aux (e ∷ es) (a ∷ bs))
    (reverse_records es (new (e.recs ++ a.recs) ∷ bs) ∙ simp append_assoc)
    (reverse_records (e ∷ es) (a ∷ bs))

-- the records of a merged level: those before Y, X's over Y's (without tombstones in level h), those behind Y
pub merge_records : (B : ℕ) (bottom : Bool) (before xs ys behind : Level) → Filled xs → Filled ys → Rising 0 (records xs) → Rising 0 (records ys)
    → records (merge B bottom before xs ys behind) ≡ records before ++ (kept bottom (overlay (records xs) (records ys)) ++ records behind)
merge_records B bottom before xs ys behind fx fy rx ry =
    let s : State = record { upper = xs; lower = ys; out = record { buffer = []; done = reverse before } } in
    let t : State = stream B bottom before xs ys in
    let i = iterate_outcome B bottom (length (records xs) + length (records ys)) s (record { sorted = record { filled_u = fx; filled_l = fy; rising_u = rx; rising_l = ry }; fewer = omega arith }) in
    let start : outcome bottom s ≡ records before ++ kept bottom (overlay (records xs) (records ys)) = simp (append-nil, reverse_done) in
    join_records B (join_left B t.out.buffer t.out.done) behind
    ∙ ap (λ (l : List Rec). l ++ records behind) (join_left_records B t.out.buffer t.out.done ∙ sym (all_made bottom t i.1) ∙ i.0 ∙ start)
    ∙ append_assoc (records before) (kept bottom (overlay (records xs) (records ys))) (records behind)

-- step 2 keeps the records left and right of X
pub close_records : (B i : ℕ) (left right : Level) → records (close B i left right) ≡ records left ++ records right
close_records B zero left right = records_append left right
close_records B (suc i) left right = join_records B (reverse left) right ∙ ap (λ (l : List Rec). l ++ records right) (reverse_done left [])
