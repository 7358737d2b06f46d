-- What is said of the blocks of a level: their sizes, the pair rule, their key ranges; and the records of levels end to end.
use Prim.Native.Nat.{ℕ, zero, suc, ◌+◌, ◌*◌, ◌≤◌}
use mathlib.Core.Path.{◌≡◌, refl, sym, ◌∙◌, ap}
use mathlib.Core.Bool.{Bool, true, false}
use mathlib.Core.List.{List, [], ◌∷◌, ◌++◌, append_assoc}
use native.Mathlib.Omega.{arith}
use lib.ListN.{length, length-append, take, drop}
use borrow.Author.Tests.{ltb-true, lt-ltb}
use Rattle.levels.specs.Basics.{if◌then◌otherwise◌}
use Rattle.levels.specs.Record.{Rec, Block, Level, size, records, first_key, last_key}
use Rattle.levels.specs.Waste.{pair_rule}
use Rattle.levels.specs.Well.{Sized, Apart, Pairs, Well}
use Rattle.levels.specs.Rising.{Rising, Below}
use Rattle.levels.proofs.Basics.{and_left, and_right, and_both}
use Rattle.levels.proofs.Rising.{rising_right}

-- every block holds a record
abbrev pub Filled : Level → Type 0
Filled [] = Unit {0}
Filled (b ∷ bs) = (1 ≤ size b) × Filled bs

-- the key ranges of the blocks rise and share no key, the first not below `low`
abbrev pub Ordered : ℕ → Level → Type 0
Ordered low [] = Unit {0}
Ordered low (b ∷ bs) = (low ≤ first_key b.recs) × (first_key b.recs ≤ last_key b.recs) × Ordered (suc (last_key b.recs)) bs

-- the test of the pair rule says it
pub test_pairs : (B : ℕ) (l : Level) → pair_rule B l ≡ true → Pairs B l
test_pairs B [] e = tt
test_pairs B (b ∷ []) e = (tt, tt)
test_pairs B (b ∷ c ∷ bs) e =
    let m = ltb-true B (size b + size c) (and_left _ (pair_rule B (c ∷ bs)) e) in
    (omega arith, test_pairs B (c ∷ bs) (search (and_left, and_right)))

-- and is passed by a level that keeps it
pub pairs_test : (B : ℕ) (l : Level) → Pairs B l → pair_rule B l ≡ true
pairs_test B [] p = refl
pairs_test B (b ∷ []) p = refl
pairs_test B (b ∷ c ∷ bs) p = and_both _ _ (lt-ltb B (size b + size c) (omega (arith, p.0))) (pairs_test B (c ∷ bs) p.1)

-- a block of 1 to B records holds a record
pub sized_filled : (B : ℕ) (l : Level) → Sized B l → Filled l
sized_filled B [] s = tt
sized_filled B (b ∷ bs) s = (s.0, sized_filled B bs s.2)

-- a level has at least a record for each block, and at most B
pub sized_least : (B : ℕ) (l : Level) → Sized B l → length l ≤ length (records l)
sized_least B [] s = omega arith
sized_least B (b ∷ bs) s = omega (arith, s.0, sized_least B bs s.2, length-append b.recs (records bs))

pub sized_most : (B : ℕ) (l : Level) → Sized B l → length (records l) ≤ length l * B
sized_most B [] s = omega arith
sized_most B (b ∷ bs) s = omega (arith, s.1, sized_most B bs s.2, length-append b.recs (records bs))

-- levels end to end
pub records_append : (k l : Level) → records (k ++ l) ≡ records k ++ records l
records_append [] l = refl
records_append (b ∷ bs) l = ap (λ (m : List Rec). b.recs ++ m) (records_append bs l) ∙ sym (append_assoc b.recs (records bs) (records l))

pub records_three : (a b c : Level) → records (a ++ (b ++ c)) ≡ records a ++ (records b ++ records c)
records_three a b c = records_append a (b ++ c) ∙ ap (λ (l : List Rec). records a ++ l) (records_append b c)

pub records_three_length : (a b c : Level) → length (records (a ++ (b ++ c))) ≡ length (records a) + length (records b) + length (records c)
records_three_length a b c =
    omega (arith, ap length (records_append a (b ++ c)), length-append (records a) (records (b ++ c)), ap length (records_append b c), length-append (records b) (records c))

-- the rest of a level, and a beginning of it
pub well_tail : (B : ℕ) (b : Block) (bs : Level) → Well B (b ∷ bs) → Well B bs
well_tail B b bs w = record { pairs = w.pairs.1; sized = w.sized.2 }

-- a level's records, counted twice, hold each pair of neighbours once, and the two end blocks once more
pairs_first : (B : ℕ) (b : Block) (bs : Level) → Well B (b ∷ bs) → length bs * (B + 1) + size b + 1 ≤ 2 * length (records (b ∷ bs))
pairs_first B b [] w = omega (arith, w.sized.0, length-append b.recs [])
pairs_first B b (c ∷ cs) w = omega (arith, w.pairs.0, pairs_first B c cs (well_tail B b (c ∷ cs) w), length-append b.recs (records (c ∷ cs)))

-- "two neighbouring blocks of a level hold more than B records together": two blocks or more hold on average at least (B + 1)/4 records
pub pairs_least : (B : ℕ) (l : Level) → Well B l → 2 ≤ length l → length l * (B + 1) ≤ 4 * length (records l)
pairs_least B [] w h = absurd (omega arith)
pairs_least B (b ∷ []) w h = absurd (omega arith)
pairs_least B (b ∷ c ∷ cs) w h = omega (arith, pairs_first B b (c ∷ cs) w)

-- a level without blocks
pub well_nil : (B : ℕ) → Well B []
well_nil B = record { pairs = tt; sized = tt }

-- what is left of a level without its first blocks
pub well_drop : (B n : ℕ) (l : Level) → Well B l → Well B (drop n l)
well_drop B zero l w = w
well_drop B (suc n) [] w = w
well_drop B (suc n) (b ∷ bs) w = well_drop B n bs (well_tail B b bs w)

-- and it stays sorted
pub drop_rising : (k n : ℕ) (l : Level) → Rising k (records l) → Rising k (records (drop n l))
drop_rising k zero l s = s
drop_rising k (suc n) [] s = s
drop_rising k (suc n) (b ∷ bs) s = drop_rising k n bs (rising_right k b.recs (records bs) s)

-- k is a beginning of the level l
pub data Prefix : Level → Level → Type 0 where
  empty : {l : Level} → Prefix [] l
  more : {b : Block} {k l : Level} → Prefix k l → Prefix (b ∷ k) (b ∷ l)

pub prefix_if : (t : Bool) {b : Block} {k l : Level} → Prefix k l → Prefix (if t then b ∷ k otherwise []) (b ∷ l)
prefix_if true p = more p
prefix_if false p = empty

-- with what follows it, it makes up the level
pub prefix_rest : {k l : Level} → Prefix k l → k ++ drop (length k) l ≡ l
prefix_rest empty = refl
prefix_rest (more {b = b} p) = ap (λ (m : Level). b ∷ m) (prefix_rest p)

apart_prefix : (B n : ℕ) {k l : Level} → Prefix k l → Apart B n l → Apart B n k
apart_prefix B n empty a = tt
apart_prefix B n (more p) a = a

-- a beginning of a level is well filled
pub well_prefix : (B : ℕ) {k l : Level} → Prefix k l → Well B l → Well B k
well_prefix B empty w = well_nil B
well_prefix B (more {b = b} {k = k} {l = l} p) w =
    let r = well_prefix B p (well_tail B b l w) in
    record { pairs = (apart_prefix B (size b) p w.pairs.0, r.pairs); sized = (w.sized.0, w.sized.1, r.sized) }

-- the first n blocks are a beginning
pub take_prefix : (n : ℕ) (l : Level) → Prefix (take n l) l
take_prefix zero l = empty
take_prefix (suc n) [] = empty
take_prefix (suc n) (b ∷ bs) = more (take_prefix n bs)

-- a block's keys go up to its last key, and what follows it is above that
pub block_ends : (k : ℕ) (rs ys : List Rec) → 1 ≤ length rs → Rising k (rs ++ ys) → (k ≤ last_key rs) × Below (suc (last_key rs)) rs × Rising (suc (last_key rs)) ys
block_ends k [] ys p h = absurd (omega arith)
block_ends k (r ∷ []) ys p h = (h.0, (omega arith, tt), h.1)
block_ends k (r ∷ s ∷ rs) ys p h =
    let ih = block_ends (suc r.key) (s ∷ rs) ys (omega arith) h.1 in
    (omega (arith, h.0, ih.0), (omega (arith, ih.0), ih.1), ih.2)

-- a level's keys start at its first block's first key
pub first_rising : (k : ℕ) (b : Block) (bs : Level) → 1 ≤ size b → Rising k (records (b ∷ bs)) → Rising (first_key b.recs) (records (b ∷ bs))
first_rising k b bs = go b.recs
  where
    go : (rs : List Rec) → 1 ≤ length rs → Rising k (rs ++ records bs) → Rising (first_key rs) (rs ++ records bs)
    go [] p h = absurd (omega arith)
    go (r ∷ rs) p h = (omega arith, h.1)

-- sorted records make ordered blocks
pub rising_ordered : (k : ℕ) (l : Level) → Filled l → Rising k (records l) → Ordered k l
rising_ordered k [] s h = tt
rising_ordered k (b ∷ bs) s h =
    let e = block_ends k b.recs (records bs) s.0 h in
    let f = block_ends (first_key b.recs) b.recs (records bs) s.0 (first_rising k b bs s.0 h) in
    (low b.recs s.0 h, f.0, rising_ordered (suc (last_key b.recs)) bs s.1 e.2)
  where
    low : (rs : List Rec) → 1 ≤ length rs → Rising k (rs ++ records bs) → k ≤ first_key rs
    low [] p h = absurd (omega arith)
    low (r ∷ rs) p h = h.0
