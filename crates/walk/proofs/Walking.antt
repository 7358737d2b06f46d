-- The walk over four levels: what holds before each turn, and what is said of it at the end.
use Prim.Native.Nat.{ℕ, suc, ◌+◌, ◌%◌, ◌≤◌, ◌<◌, min}
use mathlib.Core.Path.{◌≡◌, refl, sym, ap, ◌∙◌}
use mathlib.Core.Bool.{Bool, true, false}
use mathlib.Core.List.{List, [], ◌∷◌, ◌++◌, map, append_assoc}
use native.Mathlib.Omega.{arith}
use lib.Dec.{eqb}
use lib.ListN.{length, length-append}
use Rattle.levels.specs.Record.{Rec}
use Rattle.levels.specs.Map.{view, unmarked}
use Rattle.levels.specs.Rising.{Rising, Below}
use Rattle.levels.proofs.Rising.{rising_from, rising_right, below_append, below_more}
use Rattle.levels.proofs.Laid.{kept_length}
use Rattle.levels.proofs.View.{unmarked_drop, unmarked_keep, unmarked_rising}
use Rattle.words.specs.Stores.{word}
use Rattle.chunks.specs.declared.Chunk.{Chunk}
use Rattle.chunks.specs.Peel.{past, live_bit}
use Rattle.walk.specs.declared.Cursor.{Cursor}
use Rattle.walk.specs.declared.Front.{Front}
use Rattle.walk.specs.Walk.{rest, Abreast, rests_of, rests, Ahead, entered, Written, Copies, Walked, least_of, upper_of}
use Rattle.walk.proofs.Between.{unmarked_append, live_one, skims_length}
use Rattle.walk.proofs.Four.{Low, low_under, LeastOf, load, rests_least, rests_end, rests_pass, turn, walk_less}
use Rattle.walk.proofs.Nearest.{Nearest, nearest_of, least_low}
use Rattle.walk.proofs.From.{least_rising}
use Rattle.walk.proofs.Listing.{written_none, written_one}

unmarked_nil : unmarked [] ≡ []
unfolding unmarked
unmarked_nil = refl

-- a list without its tombstones keeps its upper bound
pub unmarked_below : (high : ℕ) (rs : List Rec) → Below high rs → Below high (unmarked rs)
unfolding unmarked
unmarked_below high [] b = tt
unmarked_below high (r ∷ rs) b = go r.tombstone refl (unmarked_below high rs b.1)
  where
    go : (t : Bool) → r.tombstone ≡ t → Below high (unmarked rs) → Below high (unmarked (r ∷ rs))
    go true e i = rw (unmarked_drop r rs e) i
    go false e i = rw (unmarked_keep r rs e) (b.0, i)

-- Before a turn: the records that the walk has passed are below `stop`, counted and written, and what is left is sorted.
pub record Walking (ws : List ℕ) (from : Front) (stop : ℕ) (keys pays : List ℕ) (f : Front) (n : ℕ) (keys' pays' : List ℕ) : Type 0 where
  pub abreast : Abreast ws f
  pub before : List Rec
  pub cut : rests ws from ≡ before ++ rests ws f
  pub below : Below stop before
  pub rises : Rising 0 (rests ws f)
  pub counted : n ≡ length (unmarked before)
  pub written : Written keys pays (unmarked before) keys' pays'

-- Within a turn: the last level has gone past the records below the others' next keys and below `stop`, and k is the least of the next keys and `stop`.
pub record Passing (ws : List ℕ) (from : Front) (stop : ℕ) (keys pays : List ℕ) (f : Front) (last : Cursor) (n : ℕ) (keys' pays' : List ℕ) (k : ℕ) : Type 0 where
  pub walking : Walking ws from stop keys pays (record { upper = f.upper; last = last }) n keys' pays'
  pub shorter : load (rests_of ws (record { upper = f.upper; last = last })) ≤ load (rests_of ws f)
  pub nearest : Nearest f.upper last stop k

load_last : (xs : List (List Rec)) (a b : List Rec) → length a ≤ length b → load (xs ++ (a ∷ [])) ≤ load (xs ++ (b ∷ []))
load_last [] a b h = omega arith
load_last (x ∷ xs) a b h = omega (arith, load_last xs a b h)

module _ (ws : List ℕ) (from : Front) (stop : ℕ) (keys pays : List ℕ) (a : Ahead ws from) where
  pub walking_start : Walking ws from stop keys pays from 0 keys pays
  unfolding unmarked
  walking_start = record { abreast = a.abreast; before = []; cut = refl; below = tt; rises = a.rises; counted = refl; written = written_none keys pays }

  module _ (f : Front) (n : ℕ) (keys' pays' : List ℕ) (w : Walking ws from stop keys pays f n keys' pays') where
    -- the count stays far below the largest number
    pub walking_few : n ≤ 65536
    walking_few =
        let e = ap (λ (rs : List Rec). length rs) w.cut ∙ length-append w.before (rests ws f) in
        omega (arith, e, a.few, w.counted, kept_length true w.before)

    -- the last level past the records below the least of `stop` and the next keys of the others
    pub bound_high : (bound : ℕ) → bound ≡ least_of stop f.upper → stop ≤ 4294967296 → bound ≤ 4294967296
    bound_high bound e h = omega (arith, (least_low stop f.upper).1)

    module _ (bound : ℕ) (e : bound ≡ least_of stop f.upper) (last : Cursor) (total : ℕ) (keys'' pays'' : List ℕ)
        (k : Copies ws f.last bound n keys' pays' last total keys'' pays'') where
      walking_pass : Walking ws from stop keys pays (record { upper = f.upper; last = last }) total keys'' pays''
      walking_pass =
          let g = w.abreast in
          let b = least_low stop f.upper in
          let q = rests_pass ws f.last g.last f.upper g.upper bound (low_under bound (least_of stop f.upper) f.upper (omega arith) b.0) last k.live k.skims in
          record {
            abreast = record { upper = g.upper; last = k.skims.good };
            before = w.before ++ k.skims.between;
            cut = w.cut ∙ ap (λ (rs : List Rec). w.before ++ rs) q ∙ sym (append_assoc w.before k.skims.between _);
            below = below_append stop w.before k.skims.between w.below (below_more bound stop k.skims.between (omega (arith, b.1)) k.skims.below);
            rises = rising_right 0 k.skims.between _ (rw q at w.rises);
            counted = rw (unmarked_append w.before k.skims.between, length-append (unmarked w.before) (unmarked k.skims.between)) (omega (arith, k.counted, k.skims.counted, w.counted));
            written = rw (unmarked_append w.before k.skims.between) (k.listed keys pays (unmarked w.before) (sym w.counted) w.written);
          }

      pub passing : (key : ℕ) → key ≡ min bound last.key → Passing ws from stop keys pays f last total keys'' pays'' key
      passing key z =
          record {
            walking = walking_pass;
            shorter = load_last (map (rest ws) f.upper) (rest ws last) (rest ws f.last) (skims_length ws f.last bound last k.live k.skims);
            nearest = nearest_of f.upper last stop key (rw (← e) z);
          }

    -- a turn: the record of the least key is listed, and leaves every level
    module _ (k : ℕ) (m : LeastOf f.upper f.last k) (h : k < 4294967296) (s : k < stop) (r : Chunk) (e : r ≡ upper_of k f.upper f.last) (total : ℕ) (keys'' pays'' : List ℕ)
        (c : total ≡ n + live_bit (eqb (r.marks % 2) 1))
        (ek : keys'' ≡ entered (eqb (r.marks % 2) 1) (min (length keys') (length pays')) n k keys')
        (ep : pays'' ≡ entered (eqb (r.marks % 2) 1) (min (length keys') (length pays')) n (word ws r.pays) pays')
        (f' : Front) (g : Abreast ws f') (ef : rests_of ws f' ≡ map (past k) (rests_of ws f)) where
      pub walking_turn : Walking ws from stop keys pays f' total keys'' pays''
      walking_turn =
          let x : Rec = record { key = k; tombstone = eqb (r.marks % 2) 1; pay = word ws r.pays } in
          let q : rests ws f ≡ x ∷ rests ws f' = turn ws f.last w.abreast.last f.upper w.abreast.upper k m h r e ∙ ap (λ (rs : List (List Rec)). x ∷ view rs) (sym ef) in
          record {
            abreast = g;
            before = w.before ++ (x ∷ []);
            cut = w.cut ∙ ap (λ (rs : List Rec). w.before ++ rs) q ∙ sym (append_assoc w.before (x ∷ []) (rests ws f'));
            below = below_append stop w.before (x ∷ []) w.below (s, tt);
            rises = rising_from 0 (suc k) (rests ws f') (omega arith) (rw q at w.rises).1;
            counted = rw (unmarked_append w.before (x ∷ []), length-append (unmarked w.before) (unmarked (x ∷ []))) (omega (arith, c, w.counted, live_one x));
            written = rw (unmarked_append w.before (x ∷ []), ek, ep) (written_one keys pays (unmarked w.before) keys' pays' w.written n x (sym w.counted));
          }

      pub walking_less : load (rests_of ws f') < load (rests_of ws f)
      walking_less = rw ef (walk_less ws f.last w.abreast.last f.upper w.abreast.upper k m h)

    -- the end: no next key is below `stop`, or enough are counted
    walked_by : (most : ℕ) → (n ≤ most → Rising stop (unmarked (rests ws f))) → (n ≤ most → 4294967296 ≤ stop → unmarked (rests ws f) ≡ []) → Walked ws from stop most keys pays n keys' pays'
    walked_by most e z = record {
      passed = unmarked w.before;
      left = unmarked (rests ws f);
      cut = ap unmarked w.cut ∙ unmarked_append w.before (rests ws f);
      below = unmarked_below stop w.before w.below;
      counted = w.counted;
      written = w.written;
      ended = e;
      all = z;
    }

    pub walking_end : (most : ℕ) → Low stop f.upper → stop ≤ f.last.key → Walked ws from stop most keys pays n keys' pays'
    walking_end most h y =
        let g = w.abreast in
        walked_by most
        (λ q. unmarked_rising stop (rests ws f) (least_rising 0 stop (rests ws f) w.rises (rests_least ws f.last g.last f.upper g.upper stop h y)))
        (λ q z. ap unmarked (rests_end ws f.last g.last f.upper g.upper (low_under 4294967296 stop f.upper z h) (omega arith)) ∙ unmarked_nil)

    pub walking_most : (most : ℕ) → most < n → Walked ws from stop most keys pays n keys' pays'
    walking_most most h = walked_by most (λ q. absurd (omega arith)) (λ q z. absurd (omega arith))
