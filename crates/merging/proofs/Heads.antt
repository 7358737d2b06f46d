-- What a head shows of a side, and that the tests on heads are the definitions' tests on blocks.
use Prim.Native.Nat.{ℕ, zero, suc, ◌+◌, ◌-◌, ◌/◌, ◌%◌, ◌^◌, ◌≤◌, ◌<◌}
use mathlib.Core.Path.{◌≡◌, sym, ap, ◌∙◌, refl}
use mathlib.Core.Bool.{Bool, true, false, not, ◌&&◌, ◌||◌, true≢false}
use mathlib.Core.List.{List, [], ◌∷◌}
use mathlib.Core.Option.{none, some}
use Rattle.std.specs.Prelude.{Option, None, Some, is_some}
use mathlib.Core.Logic.{dite}
use native.Mathlib.Decide.{dec_lt}
use native.Mathlib.Numerals.{add-one}
use native.Mathlib.Nat.{pow-suc}
use native.Mathlib.Omega.{arith}
use lib.Dec.{ltb, eqb}
use lib.Pow.{shr-shr}
use lib.ListN.{length, get_or, drop}
use borrow.Author.Tests.{eq-eqb, ne_eqb, lt-ltb}
use Rattle.levels.specs.Basics.{if◌then◌otherwise◌}
use Rattle.levels.specs.Record.{Rec, Block, Level, new, size, placed, first_key, last_key, has_tombstone}
use Rattle.levels.specs.Merge.{Out, head_rec, ends_below, apart, reusable}
use Rattle.blocks.specs.declared.Offsets.{Offsets}
use Rattle.sides.specs.declared.Chunk.{Chunk}
use Rattle.sides.specs.declared.Head.{Head}
use Rattle.sides.specs.Sides.{head_at, comes_before, whole_below, follows}
use Rattle.merging.proofs.Relation.{Formed, head_size}
use Rattle.merging.proofs.Blocks.{recs_from, block_of, begun}

pub recs_length : (ws : List ℕ) (c : Chunk) (j n : ℕ) → length (recs_from ws c j n) ≡ n
unfolding recs_from
recs_length ws c j zero = refl
recs_length ws c j (suc n) = ap suc (recs_length ws c (suc j) n)

pub recs_drop : (ws : List ℕ) (c : Chunk) (j k n : ℕ) → drop k (recs_from ws c j n) ≡ recs_from ws c (j + k) (n - k)
unfolding recs_from
recs_drop ws c j zero n = let e : j + zero ≡ j = omega arith in let f : n - zero ≡ n = omega arith in rw (e, f)
recs_drop ws c j (suc k) zero = let f : zero - suc k ≡ 0 = omega arith in rw f
recs_drop ws c j (suc k) (suc n) = let e : j + suc k ≡ suc j + k = omega arith in let f : suc n - suc k ≡ n - k = omega arith in rw (e, f) (recs_drop ws c (suc j) k n)

pub recs_last : (ws : List ℕ) (c : Chunk) (j n : ℕ) → 1 ≤ n → last_key (recs_from ws c j n) ≡ get_or ws (c.keys + (j + (n - 1))) 0
unfolding recs_from
recs_last ws c j zero h = absurd (omega arith)
recs_last ws c j (suc zero) h = let e : j + (suc zero - 1) ≡ j = omega arith in rw e
recs_last ws c j (suc (suc n)) h = recs_last ws c (suc j) (suc n) (omega arith) ∙ (let e : suc j + (suc n - 1) ≡ j + (suc (suc n) - 1) = omega arith in rw e)

-- a mark word of n bits is 0 where there is no mark
pub recs_tombstone : (ws : List ℕ) (c : Chunk) (j n : ℕ) → get_or ws c.marks 0 / 2 ^ j < 2 ^ n → has_tombstone (recs_from ws c j n) ≡ not (eqb (get_or ws c.marks 0 / 2 ^ j) 0)
unfolding recs_from
recs_tombstone ws c j zero h = rw (eq-eqb (get_or ws c.marks 0 / 2 ^ j) 0 (omega arith))
recs_tombstone ws c j (suc n) h = go (get_or ws c.marks 0 / 2 ^ j) refl (recs_tombstone ws c (suc j) n)
  where
    go : (m : ℕ) → get_or ws c.marks 0 / 2 ^ j ≡ m → (get_or ws c.marks 0 / 2 ^ suc j < 2 ^ n → has_tombstone (recs_from ws c (suc j) n) ≡ not (eqb (get_or ws c.marks 0 / 2 ^ suc j) 0))
        → (eqb (get_or ws c.marks 0 / 2 ^ j % 2) 1 || has_tombstone (recs_from ws c (suc j) n)) ≡ not (eqb (get_or ws c.marks 0 / 2 ^ j) 0)
    go m e rec =
        let d : get_or ws c.marks 0 / 2 ^ suc j ≡ m / 2 = sym (ap (λ (k : ℕ). get_or ws c.marks 0 / 2 ^ k) (add-one j)) ∙ sym (shr-shr (get_or ws c.marks 0) j 1) ∙ ap (λ (k : ℕ). k / 2) e in
        let l : m < 2 ^ suc n = rw (← e) h in
        let ih = rec (rw d (half l)) in
        rw (ih, d, e) (cases (m % 2) refl)
      where
        half : m < 2 ^ suc n → m / 2 < 2 ^ n
        half l = let w = pow-suc 2 n in omega arith

        cases : (r : ℕ) → m % 2 ≡ r → (eqb (m % 2) 1 || not (eqb (m / 2) 0)) ≡ not (eqb m 0)
        cases zero e = rw (ne_eqb (m % 2) 1 (λ f. omega arith)) (same (λ f. omega arith) (λ f. omega arith))
          where
            same : (m / 2 ≡ 0 → m ≡ 0) → (m ≡ 0 → m / 2 ≡ 0) → not (eqb (m / 2) 0) ≡ not (eqb m 0)
            same p r = dite (dec_lt 0 m) (λ y. rw (ne_eqb (m / 2) 0 (λ f. omega (arith, p f)), ne_eqb m 0 (λ f. omega arith))) (λ n. rw (eq-eqb (m / 2) 0 (r (omega arith)), eq-eqb m 0 (omega arith)))
        cases (suc r) e = rw (eq-eqb (m % 2) 1 (omega arith), ne_eqb m 0 (λ f. omega arith))

-- what a head shows of the blocks that are left
pub record Shows (ws : List ℕ) (h : Head) (b : Block) : Type 0 where
  pub whole : is_some h.whole ≡ placed b
  pub key : h.key ≡ first_key b.recs
  pub last : get_or ws (h.keys + (h.n - 1)) 0 ≡ last_key b.recs
  pub head : head_rec b ≡ record { key = h.key; tombstone = eqb h.tombstone 1; pay = h.pay }
  pub filled : 1 ≤ size b
  pub place : (q : ℕ) → h.whole ≡ Some q → b.place ≡ some q
  pub n : is_some h.whole ≡ true → h.n ≡ size b
  pub marks : is_some h.whole ≡ true → has_tombstone b.recs ≡ not (eqb h.marks 0)

pub data Sees (ws : List ℕ) : Option Head → Level → Type 0 where
  nothing : Sees ws None []
  block : {h : Head} {b : Block} {bs : Level} → Shows ws h b → Sees ws (Some h) (b ∷ bs)

div_one : (n : ℕ) → n / 2 ^ 0 ≡ n
div_one n = omega arith

-- the next record of a chunk shows what is left of its block
pub shows_at : (z : Offsets) (ws : List ℕ) (c : Chunk) (j : ℕ) → Formed z ws c → j < c.n → Shows ws (head_at ws c j) (begun j (block_of ws c))
unfolding recs_from
shows_at z ws c zero f l = go c.n c.place refl f.low
  where
    go : (n : ℕ) (o : Option ℕ) → c.n ≡ n → 1 ≤ n → Shows ws (record { key = get_or ws (c.keys + 0) 0; tombstone = get_or ws c.marks 0 / 2 ^ 0 % 2; pay = get_or ws (c.pays + 0) 0; marks = get_or ws c.marks 0; keys = c.keys; pays = c.pays; n = n; place = o; whole = o }) (record { place = elim o [ Some q ↦ some q | None ↦ none ]; recs = recs_from ws c 0 n })
    go zero o e l = absurd (omega arith)
    go (suc n) o e l =
        record {
          whole = starts o;
          key = refl;
          last = sym (recs_last ws c 0 (suc n) l ∙ (let w : 0 + (suc n - 1) ≡ suc n - 1 = omega arith in rw w));
          head = refl;
          filled = omega arith;
          place = placed_at o;
          n = λ _. sym (recs_length ws c 0 (suc n));
          marks = λ _. recs_tombstone ws c 0 (suc n) (rw div_one (rw (← e) f.bits)) ∙ rw div_one;
        }
      where
        starts : (o : Option ℕ) → is_some o ≡ placed (record { place = elim o [ Some q ↦ some q | None ↦ none ]; recs = recs_from ws c 0 (suc n) })
        starts (Some q) = refl
        starts None = refl

        placed_at : (o : Option ℕ) (q : ℕ) → o ≡ Some q → (elim o [ Some q ↦ some q | None ↦ none ]) ≡ some q
        placed_at (Some p) q e = let w : p ≡ q = cc in ap some w
        placed_at None q e = absurd (cc)
shows_at z ws c (suc j) f l =
    rw recs_drop (go (c.n - suc j) refl)
  where
    go : (n : ℕ) → c.n - suc j ≡ n → Shows ws (head_at ws c (suc j)) (new (recs_from ws c (0 + suc j) n))
    go zero e = absurd (omega arith)
    go (suc n) e =
        let v : 0 + suc j ≡ suc j = omega arith in
        let o : (if eqb (suc j) 0 then c.place otherwise None) ≡ None = rw (ne_eqb (suc j) 0 (λ g. omega arith)) in
        let u : is_some (if eqb (suc j) 0 then c.place otherwise None) ≡ false = ap is_some o in
        rw v (record {
          whole = u;
          key = refl;
          last = sym (recs_last ws c (suc j) (suc n) (omega arith) ∙ (let w : suc j + (suc n - 1) ≡ c.n - 1 = omega arith in rw w));
          head = refl;
          filled = omega arith;
          place = λ q w. absurd (cc);
          n = λ w. absurd (true≢false (sym w ∙ u));
          marks = λ w. absurd (true≢false (sym w ∙ u));
        })

ends_same : (ws : List ℕ) (k : ℕ) (o : Option Head) (l : Level) → Sees ws o l → ends_below k l ≡ comes_before k o
ends_same ws k None [] nothing = refl
ends_same ws k None (b ∷ bs) s = elim s [ ]
ends_same ws k (Some h) [] s = elim s [ ]
ends_same ws k (Some h) (b ∷ bs) (block s) = rw s.key

apart_same : (B n : ℕ) (done : Level) → 1 ≤ n → apart B n done ≡ ltb B (head_size B done + n)
apart_same B n [] h = sym (lt-ltb B (B + n) (omega arith))
apart_same B n (e ∷ es) h = refl

regroup : (e c m : Bool) → ((true && e) && (c && m)) ≡ (((e && true) && c) && m)
regroup true true m = refl
regroup true false m = refl
regroup false c m = refl

if_same : (t : Bool) → (if t then false otherwise false) ≡ false
if_same true = refl
if_same false = refl

off : (u v x : Bool) → (((u && false) && v) && x) ≡ false
off true v x = refl
off false v x = refl

-- the test on heads is the definition's test
pub follows_same : (z : Offsets) (bottom : Bool) (ws : List ℕ) (h : Head) (o : Option Head) (b : Block) (l : Level) (out : Out) (e : ℕ) → Shows ws h b → Sees ws o l → e ≡ head_size z.b out.done
    → follows z bottom ws h o (length out.buffer) e ≡ reusable z.b bottom out l b
unfolding follows whole_below
follows_same z bottom ws h o b l out e s t d = go (is_some h.whole) refl out.buffer out.done d
  where
    go : (w : Bool) → is_some h.whole ≡ w → (buf : List Rec) (done : Level) → e ≡ head_size z.b done → follows z bottom ws h o (length buf) e ≡ reusable z.b bottom (record { buffer = buf; done = done }) l b
    go false w buf done d = rw (← s.whole, w) (if_same (eqb (length buf) 0) ∙ sym (off (ends_below (last_key b.recs) l) _ _))
    go true w [] done d =
        rw (← s.whole, w, ends_same ws (last_key b.recs) o l t, s.last, s.marks w, s.n w, d, apart_same z.b (size b) done s.filled)
        (regroup (comes_before (last_key b.recs) o) (not (bottom && not (eqb h.marks 0))) (ltb z.b (head_size z.b done + size b)))
    go true w (r ∷ rs) done d =
        rw (ne_eqb (length (r ∷ rs)) 0 (λ f. omega arith), ← s.whole, w, ends_same ws (last_key b.recs) o l t, s.last, s.marks w, s.n w, d, apart_same z.b (length (r ∷ rs)) done (omega arith))
        (regroup (comes_before (last_key b.recs) o) (not (bottom && not (eqb h.marks 0))) (ltb z.b (length (r ∷ rs) + size b) && ltb z.b (head_size z.b done + length (r ∷ rs))))
