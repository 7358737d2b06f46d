-- Steps 2 to 4 keep the waste rule "Pair", and every block holds 1 to B records.
use Prim.Native.Nat.{ℕ, zero, suc, ◌+◌, ◌<◌, ◌≤◌}
use mathlib.Core.Path.{◌≡◌, refl}
use mathlib.Core.Bool.{Bool, true, false, ◌&&◌}
use mathlib.Core.List.{List, [], ◌∷◌, ◌++◌, reverse, reverse_aux, tail}
use native.Mathlib.Omega.{arith}
use lib.Dec.{leb, ltb, eqb}
use lib.ListN.{length, length-append}
use borrow.Author.Tests.{leb-true, leb-false, ltb-true}
use Rattle.levels.specs.Basics.{if◌then◌otherwise◌, iterate}
use Rattle.levels.specs.Record.{Rec, Block, Level, size, new, records, first_key}
use Rattle.levels.specs.Merge.{Out, State, apart, may_follow, reusable, flush, rest, head_rec, reuse, gather, from_upper, from_lower, from_both, step_on, step, join_left, join, stream, merge, close}
use Rattle.levels.specs.Well.{Sized, Apart, Pairs, Well}
use Rattle.levels.proofs.Basics.{and_left, and_right, if_either}
use Rattle.levels.proofs.Lists.{length_snoc}
use Rattle.levels.proofs.Levels.{well_tail, well_nil}
use Rattle.levels.proofs.MergeRecords.{reusable_says}

apart_of : (B n : ℕ) (l : Level) → apart B n l ≡ true → Apart B n l
apart_of B n [] e = tt
apart_of B n (b ∷ bs) e = ltb-true B (size b + n) e

-- enough records are apart from any block
apart_full : (B n : ℕ) (l : Level) → B ≤ n → Sized B l → Apart B n l
apart_full B n [] h s = tt
apart_full B n (b ∷ bs) h s = omega arith

apart_more : (B m n : ℕ) (l : Level) → m ≤ n → Apart B m l → Apart B n l
apart_more B m n [] h a = tt
apart_more B m n (b ∷ bs) h a = omega arith

-- what is made keeps the pair rule and the sizes, and the buffer has room for a record
pub record Good (B : ℕ) (o : Out) : Type 0 where
  pub pairs : Pairs B o.done
  pub sized : Sized B o.done
  pub room : length o.buffer < B

-- a record read keeps this: a full buffer makes a block of B
pub gather_good : (B : ℕ) (bottom : Bool) (r : Rec) (o : Out) → Good B o → Good B (gather B bottom r o)
gather_good B bottom r o g = go (bottom && r.tombstone) (leb B (suc (length o.buffer))) refl
  where
    go : (s t : Bool) → leb B (suc (length o.buffer)) ≡ t
        → Good B (if s then o otherwise if t then record { buffer = []; done = new (o.buffer ++ (r ∷ [])) ∷ o.done } otherwise record { buffer = o.buffer ++ (r ∷ []); done = o.done })
    go true t e = g
    go false true e =
        let n = length_snoc o.buffer r in
        let f = leb-true B (suc (length o.buffer)) e in
        record { pairs = (apart_full B (length (o.buffer ++ (r ∷ []))) o.done (omega arith) g.sized, g.pairs); sized = (omega arith, omega (arith, g.room), g.sized); room = omega (arith, g.room) }
    go false false e =
        let n = length_snoc o.buffer r in
        record { pairs = g.pairs; sized = g.sized; room = omega (arith, leb-false B (suc (length o.buffer)) e) }

-- a reused block keeps this, by the two tests
pub reuse_good : (B : ℕ) (b : Block) (o : Out) → 1 ≤ size b → size b ≤ B → may_follow B b o.buffer o.done ≡ true → Good B o → Good B (reuse b o)
reuse_good B b o p q m g = go o.buffer m g.room
  where
    go : (buffer : List Rec) → may_follow B b buffer o.done ≡ true → length buffer < B → Good B (record { buffer = []; done = b ∷ flush buffer o.done })
    go [] m h = record { pairs = (apart_of B (size b) o.done m, g.pairs); sized = (p, q, g.sized); room = omega arith }
    go (r ∷ rs) m h = record {
      pairs = (ltb-true B (length (r ∷ rs) + size b) (and_left _ (apart B (length (r ∷ rs)) o.done) m), (apart_of B (length (r ∷ rs)) o.done (and_right (ltb B (length (r ∷ rs) + size b)) _ m), g.pairs));
      sized = (p, q, (omega arith, omega arith, g.sized));
      room = omega arith;
    }

-- what is left of a begun block has 1 to B records, or there is none
pub rest_sized : (B : ℕ) (l : Level) → Sized B l → Sized B (rest l)
rest_sized B [] s = tt
rest_sized B (b ∷ bs) s = go b.recs s.1
  where
    go : (rs : List Rec) → length rs ≤ B → Sized B (flush (tail rs) bs)
    go [] h = s.2
    go (r ∷ []) h = s.2
    go (r ∷ t ∷ rs) h = (omega arith, omega arith, s.2)

-- X and Y turned round
abbrev pub turned : State → State
turned s = record { upper = s.lower; lower = s.upper; out = s.out }

-- what a step that reads X gives, and X and Y turned round keep, a step that reads Y gives too
pub lower_step : (P : State → Type 0) → ((s : State) → P s → P (turned s)) → (B : ℕ) (bottom : Bool) (y : Block) (ys u : Level) (o : Out) → P (from_upper B bottom y ys u o) → P (from_lower B bottom y ys u o)
lower_step P turn B bottom y ys u o = go (reusable B bottom o u y) (record { upper = ys; lower = u; out = reuse y o }) (record { upper = rest (y ∷ ys); lower = u; out = gather B bottom (head_rec y) o })
  where
    go : (t : Bool) (a b : State) → P (if t then a otherwise b) → P (if t then turned a otherwise turned b)
    go true a b p = turn a p
    go false a b p = turn b p

-- what a step keeps
pub record Keeps (B : ℕ) (s : State) : Type 0 where
  pub sized_u : Sized B s.upper
  pub sized_l : Sized B s.lower
  pub good : Good B s.out

module _ (B : ℕ) (bottom : Bool) (o : Out) (g : Good B o) where
  upper_keeps : (x : Block) (xs l : Level) → Sized B (x ∷ xs) → Sized B l → Keeps B (from_upper B bottom x xs l o)
  upper_keeps x xs l su sl = go (reusable B bottom o l x) refl
    where
      go : (t : Bool) → reusable B bottom o l x ≡ t → Keeps B (if t then record { upper = xs; lower = l; out = reuse x o } otherwise record { upper = rest (x ∷ xs); lower = l; out = gather B bottom (head_rec x) o })
      go true e = record { sized_u = su.2; sized_l = sl; good = reuse_good B x o su.0 su.1 (reusable_says B bottom o l x e).3 g }
      go false e = record { sized_u = rest_sized B (x ∷ xs) su; sized_l = sl; good = gather_good B bottom (head_rec x) o g }

  lower_keeps : (y : Block) (ys u : Level) → Sized B u → Sized B (y ∷ ys) → Keeps B (from_lower B bottom y ys u o)
  lower_keeps y ys u su sl = lower_step (Keeps B) (λ s k. record { sized_u = k.sized_l; sized_l = k.sized_u; good = k.good }) B bottom y ys u o (upper_keeps y ys u sl su)

  both_keeps : (x : Block) (xs : Level) (l : Level) → Sized B (x ∷ xs) → Sized B l → Keeps B (from_both B bottom x xs l o)
  both_keeps x xs l su sl = record { sized_u = rest_sized B (x ∷ xs) su; sized_l = rest_sized B l sl; good = gather_good B bottom (head_rec x) o g }

  -- a step keeps this
  pub step_keeps : (u l : Level) → Sized B u → Sized B l → Keeps B (step_on B bottom u l o)
  step_keeps [] [] su sl = record { sized_u = tt; sized_l = tt; good = g }
  step_keeps (x ∷ xs) [] su sl = upper_keeps x xs [] su sl
  step_keeps [] (y ∷ ys) su sl = lower_keeps y ys [] su sl
  step_keeps (x ∷ xs) (y ∷ ys) su sl = if_either (Keeps B) (ltb (first_key y.recs) (first_key x.recs)) _ _ (lower_keeps y ys (x ∷ xs) su sl)
      (if_either (Keeps B) (eqb (first_key y.recs) (first_key x.recs)) _ _ (both_keeps x xs (y ∷ ys) su sl) (upper_keeps x xs (y ∷ ys) su sl))

-- and so do any number of steps
pub iterate_keeps : (B : ℕ) (bottom : Bool) (n : ℕ) (s : State) → Keeps B s → Keeps B (iterate n (step B bottom) s)
iterate_keeps B bottom zero s k = k
iterate_keeps B bottom (suc n) s k = iterate_keeps B bottom n (step B bottom s) (step_keeps B bottom s.out k.good s.upper s.lower k.sized_u k.sized_l)

-- a last block may grow
pub well_grow : (B : ℕ) (e f : Block) (es : Level) → size e ≤ size f → size f ≤ B → Well B (e ∷ es) → Well B (f ∷ es)
well_grow B e f es p q w = record { pairs = (apart_more B (size e) (size f) es p w.pairs.0, w.pairs.1); sized = (omega (arith, w.sized.0), q, w.sized.2) }

-- step 4: the leftover, alone or with e
pub left_well : (B : ℕ) (buffer : List Rec) (done : Level) → length buffer < B → Well B done → Well B (join_left B buffer done)
left_well B [] done h w = w
left_well B (r ∷ rs) [] h w = record { pairs = (tt, tt); sized = (omega arith, omega arith, tt) }
left_well B (r ∷ rs) (e ∷ es) h w = go (leb (size e + length (r ∷ rs)) B) refl
  where
    go : (t : Bool) → leb (size e + length (r ∷ rs)) B ≡ t → Well B (if t then new (e.recs ++ (r ∷ rs)) ∷ es otherwise new (r ∷ rs) ∷ e ∷ es)
    go true d = let n = length-append e.recs (r ∷ rs) in
        well_grow B e (new (e.recs ++ (r ∷ rs))) es (omega arith) (omega (arith, leb-true (size e + length (r ∷ rs)) B d)) w
    go false d = record { pairs = (leb-false (size e + length (r ∷ rs)) B d, w.pairs); sized = (omega arith, omega arith, w.sized) }

-- two levels end to end, the first turned round
pub reverse_well : (B : ℕ) (e : Block) (es l : Level) → Well B (e ∷ es) → Well B (e ∷ l) → Well B (reverse_aux es (e ∷ l))
reverse_well B e [] l w v = v
reverse_well B e (f ∷ fs) l w v = reverse_well B f fs (e ∷ l) (well_tail B e (f ∷ fs) w)
    (record { pairs = (omega (arith, w.pairs.0), v.pairs); sized = (w.sized.2.0, w.sized.2.1, v.sized) })

-- step 4: the last block, alone or with the block after Y
pub join_well : (B : ℕ) (done behind : Level) → Well B done → Well B behind → Well B (join B done behind)
join_well B [] behind w v = v
join_well B (e ∷ es) [] w v = reverse_well B e es [] w (record { pairs = (tt, tt); sized = (w.sized.0, w.sized.1, tt) })
join_well B (e ∷ es) (a ∷ bs) w v = go (leb (size e + size a) B) refl
  where
    both : Block
    both = new (e.recs ++ a.recs)

    go : (t : Bool) → leb (size e + size a) B ≡ t → Well B (if t then reverse_aux es (new (e.recs ++ a.recs) ∷ bs) otherwise reverse_aux (e ∷ es) (a ∷ bs))
    go true d = let n = length-append e.recs a.recs in let m = leb-true (size e + size a) B d in
        reverse_well B both es bs (well_grow B e both es (omega arith) (omega arith) w) (well_grow B a both bs (omega arith) (omega arith) v)
    go false d = reverse_well B e es (a ∷ bs) w (record { pairs = (omega (arith, leb-false (size e + size a) B d), v.pairs); sized = (w.sized.0, w.sized.1, v.sized) })

-- the blocks before Y, last first
pub reverse_before : (B : ℕ) (l m : Level) → Well B l → Well B m → ((b : Block) → (bs : Level) → l ≡ b ∷ bs → Apart B (size b) m) → Well B (reverse_aux l m)
reverse_before B [] m w v a = v
reverse_before B (b ∷ bs) m w v a = reverse_well B b bs m w (record { pairs = (a b bs refl, v.pairs); sized = (w.sized.0, w.sized.1, v.sized) })

-- the merged level keeps the pair rule and the sizes
pub merge_well : (B : ℕ) (bottom : Bool) (before xs ys behind : Level) → 1 ≤ B → Well B before → Sized B xs → Sized B ys → Well B behind → Well B (merge B bottom before xs ys behind)
merge_well B bottom before xs ys behind p wb sx sy wa =
    let w0 = reverse_before B before [] wb (well_nil B) (λ b bs e. tt) in
    let k = iterate_keeps B bottom (length (records xs) + length (records ys)) (record { upper = xs; lower = ys; out = record { buffer = []; done = reverse before } })
    (record { sized_u = sx; sized_l = sy; good = record { pairs = w0.pairs; sized = w0.sized; room = omega arith } }) in
    let o = (stream B bottom before xs ys).out in
    join_well B (join_left B o.buffer o.done) behind (left_well B o.buffer o.done k.good.room (record { pairs = k.good.pairs; sized = k.good.sized })) wa

-- step 2 keeps them in the upper level, from level 1 on
pub close_well : (B i : ℕ) (left right : Level) → Well B left → Well B right → Well B (close B (suc i) left right)
close_well B i left right wl wr = join_well B (reverse left) right (reverse_before B left [] wl (well_nil B) (λ b bs e. tt)) wr
