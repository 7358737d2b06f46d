-- Cursors side by side, upper ones and the last: a turn of the walk, and its end.
use Prim.Native.Nat.{ℕ, zero, suc, ◌+◌, ◌-◌, ◌*◌, ◌%◌, ◌≤◌, ◌<◌}
use mathlib.Core.Path.{◌≡◌, refl, sym, ap, ◌∙◌}
use mathlib.Core.Bool.{Bool, true, false}
use mathlib.Core.List.{List, [], ◌∷◌, ◌++◌, map}
use native.Mathlib.Decide.{ℕ_discrete}
use native.Mathlib.Omega.{arith}
use native.Mathlib.Nat.{le_trans, mul-le-mul}
use borrow.Author.Tests.{eq-eqb, ne_eqb}
use lib.Dec.{eqb}
use native.Mathlib.Numerals.{add-one}
use lib.ListN.{length, get_or, drop, length-append}
use lib.Seq.{drop-cons}
use Rattle.std.proofs.lemmas.List.{drop_all}
use Rattle.std.specs.Prelude.{cond, All, find, unwrap_or, option_map, Some}
use Rattle.levels.specs.Record.{Rec}
use Rattle.levels.specs.Map.{overlay, view}
use Rattle.levels.proofs.Overlay.{overlay_nil}
use Rattle.levels.proofs.Laid.{overlay_length, kept_length}
use Rattle.words.specs.Stores.{word}
use Rattle.chunks.specs.declared.Chunk.{Chunk}
use Rattle.chunks.specs.Chunks.{chunk_recs}
use Rattle.chunks.specs.Peel.{past}
use Rattle.words.proofs.Slots.{slots_length}
use Rattle.chunks.proofs.Overlay.{Least, peel, taken, or_list, taken_past}
use Rattle.directory.specs.declared.Directory.{Directory}
use Rattle.directory.specs.Directory.{Formed, records_from, records_of, chunk_at}
use Rattle.walk.specs.declared.Cursor.{Cursor}
use Rattle.walk.specs.Walk.{head_of, rest, Good, Skims, layered, AllFormed, upper_of}
use Rattle.walk.proofs.Rest.{alive_of, rest_end, taken_hit, taken_other, least_of_lem, shrinks, shrinks_hit}
use Rattle.walk.proofs.Between.{overlay_before}

-- what holds of each of a list holds of the first and of those after it
module _ {X : Type 0} (P : X → Type 0) (x : X) (xs : List X) (a : All P (x ∷ xs)) where
  pub all_head : P x
  all_head = a 0 x (omega arith)

  pub all_tail : All P xs
  all_tail = λ i d h. a (suc i) d (omega arith)

-- a list of four, element by element
pub four_items : {X : Type 0} (xs : List X) (d : X) → length xs ≡ 4 → xs ≡ get_or xs 0 d ∷ get_or xs 1 d ∷ get_or xs 2 d ∷ get_or xs 3 d ∷ []
four_items [] d h = absurd (omega arith)
four_items (a ∷ []) d h = absurd (omega arith)
four_items (a ∷ b ∷ []) d h = absurd (omega arith)
four_items (a ∷ b ∷ c ∷ []) d h = absurd (omega arith)
four_items (a ∷ b ∷ c ∷ e ∷ []) d h = refl
four_items (a ∷ b ∷ c ∷ e ∷ f ∷ xs) d h = absurd (omega arith)

-- k is above no next key, and it is no next key
abbrev pub Low : ℕ → List Cursor → Type 0
Low k [] = Unit {0}
Low k (u ∷ us) = (k ≤ u.key) × Low k us

abbrev pub Misses : ℕ → List Cursor → Type 0
Misses k [] = Unit {0}
Misses k (u ∷ us) = (u.key ≡ k → ⊥) × Misses k us

pub low_under : (k b : ℕ) (us : List Cursor) → k ≤ b → Low b us → Low k us
low_under k b [] h l = tt
low_under k b (u ∷ us) h l = (omega (arith, l.0), low_under k b us h l.1)

-- k is the next key of one of the cursors, and above none
pub record LeastOf (us : List Cursor) (c : Cursor) (k : ℕ) : Type 0 where
  pub low : Low k us
  pub low_last : k ≤ c.key
  pub hit : Misses k us → c.key ≡ k

-- what is left of levels, the last one last
abbrev pub lefts : List ℕ → List Cursor → Cursor → List (List Rec)
lefts ws us c = map (rest ws) us ++ (rest ws c ∷ [])

-- the uppermost cursor with key k is the first, or one of the others
module _ (k : ℕ) (u : Cursor) (us : List Cursor) (c : Cursor) where
  upper_case : (b : Bool) → eqb u.key k ≡ b → upper_of k (u ∷ us) c ≡ unwrap_or (option_map (λ (v : Cursor). v.chunk) (cond b (Some u) (find (λ (v : Cursor). eqb v.key k) us))) c.chunk
  upper_case b e = ap (λ (t : Bool). unwrap_or (option_map (λ (v : Cursor). v.chunk) (cond t (Some u) (find (λ (v : Cursor). eqb v.key k) us))) c.chunk) e

  pub upper_here : u.key ≡ k → upper_of k (u ∷ us) c ≡ u.chunk
  upper_here e = upper_case true (eq-eqb _ _ e)

  pub upper_other : (u.key ≡ k → ⊥) → upper_of k (u ∷ us) c ≡ upper_of k us c
  upper_other n = upper_case false (ne_eqb _ _ n)

-- none of the first i has it: it is one of the others, the next one if that has it
module _ (k : ℕ) (us : List Cursor) (c : Cursor) (i : ℕ) (d : Cursor) (h : i < length us) where
  upper_at : (e : Cursor) → get_or us i d ≡ e → upper_of k (drop i us) c ≡ upper_of k (e ∷ drop (i + 1) us) c
  upper_at e q =
      let s : drop i us ≡ e ∷ drop (i + 1) us = rw (add-one i, ← q) (drop-cons us i d h) in
      ap (λ (vs : List Cursor). upper_of k vs c) s

  pub upper_found : upper_of k (drop i us) c ≡ upper_of k us c → (get_or us i d).key ≡ k → (get_or us i d).chunk ≡ upper_of k us c
  upper_found s e = sym (upper_here k (get_or us i d) (drop (i + 1) us) c e) ∙ sym (upper_at (get_or us i d) refl) ∙ s

  pub upper_next : upper_of k (drop i us) c ≡ upper_of k us c → ((get_or us i d).key ≡ k → ⊥) → upper_of k (drop (i + 1) us) c ≡ upper_of k us c
  upper_next s n = sym (upper_other k (get_or us i d) (drop (i + 1) us) c n) ∙ sym (upper_at (get_or us i d) refl) ∙ s

pub upper_last : (k : ℕ) (us : List Cursor) (c : Cursor) (i : ℕ) → length us ≤ i → upper_of k (drop i us) c ≡ upper_of k us c → c.chunk ≡ upper_of k us c
upper_last k us c i h s = sym (ap (λ (vs : List Cursor). upper_of k vs c) (drop_all i us h)) ∙ s

-- the records that are left, with those that decide nothing
abbrev pub load : List (List Rec) → ℕ
load [] = 0
load (x ∷ xs) = length x + load xs

-- laid over each other they are no more
pub view_length : (xs : List (List Rec)) → length (view xs) ≤ load xs
unfolding view
view_length [] = omega arith
view_length (x ∷ xs) = omega (arith, overlay_length x (view xs), view_length xs)

module _ (ws : List ℕ) (c : Cursor) (g : Good ws c) where
  -- a bound of the next keys is one of what is left
  pub rests_least : (us : List Cursor) → All (Good ws) us → (k : ℕ) → Low k us → k ≤ c.key → Least k (view (lefts ws us c))
  unfolding view
  rests_least [] a k l h = rw (overlay_nil (rest ws c)) (least_of_lem ws c g k h)
  rests_least (u ∷ us) a k l h =
      (peel k (rest ws u) (view (lefts ws us c)) (least_of_lem ws u (all_head (Good ws) u us a) k l.0) (rests_least us (all_tail (Good ws) u us a) k l.1 h)).least

  -- where every level is used up, nothing is left
  pub rests_end : (us : List Cursor) → All (Good ws) us → Low 4294967296 us → 4294967296 ≤ c.key → view (lefts ws us c) ≡ []
  unfolding view overlay
  rests_end [] a l h = rw (rest_end ws c g h)
  rests_end (u ∷ us) a l h = rw (rest_end ws u (all_head (Good ws) u us a) l.0, rests_end us (all_tail (Good ws) u us a) l.1 h)

  module _ (k : ℕ) (b : k ≤ c.key) where
    -- without the records of key k
    pasts_are : (us : List Cursor) → All (Good ws) us → Low k us → past k (view (lefts ws us c)) ≡ view (map (past k) (lefts ws us c))
    unfolding view
    pasts_are [] a l = rw (overlay_nil (rest ws c), overlay_nil (past k (rest ws c)))
    pasts_are (u ∷ us) a l =
        let t = all_tail (Good ws) u us a in
        (peel k (rest ws u) (view (lefts ws us c)) (least_of_lem ws u (all_head (Good ws) u us a) k l.0) (rests_least us t k l.1 b)).pasts ∙ ap (overlay (past k (rest ws u))) (pasts_are us t l.1)

    module _ (h : k < 4294967296) where
      -- the record that decides for k
      decides_is : (us : List Cursor) → All (Good ws) us → Low k us → (Misses k us → c.key ≡ k) → taken k (view (lefts ws us c)) ≡ head_of ws (upper_of k us c) ∷ []
      unfolding view
      decides_is [] a l m = rw (overlay_nil (rest ws c)) (taken_hit ws c g k (m tt) h)
      decides_is (u ∷ us) a l m = (peel k (rest ws u) (view (lefts ws us c)) (least_of_lem ws u i k l.0) (rests_least us t k l.1 b)).takens ∙ go (ℕ_discrete u.key k) (λ n. decides_is us t l.1 (λ z. m (n, z)))
        where
          i : Good ws u
          i = all_head (Good ws) u us a

          t : All (Good ws) us
          t = all_tail (Good ws) u us a

          go : Dec (u.key ≡ k) → ((u.key ≡ k → ⊥) → taken k (view (lefts ws us c)) ≡ head_of ws (upper_of k us c) ∷ []) → or_list (taken k (rest ws u)) (taken k (view (lefts ws us c))) ≡ head_of ws (upper_of k (u ∷ us) c) ∷ []
          go (yes e) r = rw (taken_hit ws u i k e h, upper_here k u us c e)
          go (no n) r = rw (taken_other ws u i k n, upper_other k u us c n) (r n)

      -- it lies in the words, and has the key k
      upper_in : (us : List Cursor) → All (Good ws) us → (Misses k us → c.key ≡ k) → ((upper_of k us c).pays < length ws) × (word ws (upper_of k us c).keys ≡ k)
      upper_in [] a m = one c g (m tt)
        where
          one : (e : Cursor) → Good ws e → e.key ≡ k → (e.chunk.pays < length ws) × (word ws e.chunk.keys ≡ k)
          one e i q = let a = alive_of ws e i q h in let p = i.pays_in in (omega arith, sym (i.alive a).0 ∙ q)
      upper_in (u ∷ us) a m = go (ℕ_discrete u.key k) (λ n. upper_in us (all_tail (Good ws) u us a) (λ z. m (n, z)))
        where
          go : Dec (u.key ≡ k) → ((u.key ≡ k → ⊥) → ((upper_of k us c).pays < length ws) × (word ws (upper_of k us c).keys ≡ k)) → ((upper_of k (u ∷ us) c).pays < length ws) × (word ws (upper_of k (u ∷ us) c).keys ≡ k)
          go (yes e) r = let i = all_head (Good ws) u us a in let y = alive_of ws u i e h in let p = i.pays_in in rw (upper_here k u us c e) (omega arith, sym (i.alive y).0 ∙ e)
          go (no n) r = rw (upper_other k u us c n) (r n)

      -- a turn leaves fewer records
      less_of : (us : List Cursor) → All (Good ws) us → (Misses k us → c.key ≡ k) → load (map (past k) (lefts ws us c)) < load (lefts ws us c)
      less_of [] a m = omega (arith, shrinks_hit ws c g k (m tt) h)
      less_of (u ∷ us) a m = go (ℕ_discrete u.key k) (λ n. less_of us (all_tail (Good ws) u us a) (λ z. m (n, z)))
        where
          i : Good ws u
          i = all_head (Good ws) u us a

          no_more : (vs : List Cursor) → All (Good ws) vs → load (map (past k) (lefts ws vs c)) ≤ load (lefts ws vs c)
          no_more [] b = omega (arith, shrinks ws c g k)
          no_more (v ∷ vs) b = omega (arith, shrinks ws v (all_head (Good ws) v vs b) k, no_more vs (all_tail (Good ws) v vs b))

          go : Dec (u.key ≡ k) → ((u.key ≡ k → ⊥) → load (map (past k) (lefts ws us c)) < load (lefts ws us c)) → load (map (past k) (lefts ws (u ∷ us) c)) < load (lefts ws (u ∷ us) c)
          go (yes e) r = omega (arith, shrinks_hit ws u i k e h, no_more us (all_tail (Good ws) u us a))
          go (no n) r = omega (arith, shrinks ws u i k, r n)

  -- a turn of the walk, for the code's answer r
  module _ (us : List Cursor) (a : All (Good ws) us) (k : ℕ) (m : LeastOf us c k) (h : k < 4294967296) where
    pub walk_less : load (map (past k) (lefts ws us c)) < load (lefts ws us c)
    walk_less = less_of k m.low_last h us a m.hit

    module _ (r : Chunk) (e : r ≡ upper_of k us c) where
      pub upper_pay_in : r.pays < length ws
      upper_pay_in = rw e (upper_in k m.low_last h us a m.hit).0

      pub turn : view (lefts ws us c) ≡ record { key = k; tombstone = eqb (r.marks % 2) 1; pay = word ws r.pays } ∷ view (map (past k) (lefts ws us c))
      turn =
          taken_past k (view (lefts ws us c))
          ∙ rw (decides_is k m.low_last h us a m.low m.hit, pasts_are k m.low_last us a m.low, ← e, rw (← e) at (upper_in k m.low_last h us a m.hit).1)

  -- the records that the last level has gone past stand before all that is left
  pub rests_pass : (us : List Cursor) → All (Good ws) us → (b : ℕ) → Low b us → (after : Cursor) (live : ℕ) → (k : Skims ws c b after live) → view (lefts ws us c) ≡ k.between ++ view (lefts ws us after)
  unfolding view
  rests_pass [] a b l after live k = rw (overlay_nil (rest ws c), overlay_nil (rest ws after)) k.joined
  rests_pass (u ∷ us) a b l after live k =
      ap (overlay (rest ws u)) (rests_pass us (all_tail (Good ws) u us a) b l.1 after live k)
      ∙ overlay_before b (rest ws u) k.between (view (lefts ws us after)) (least_of_lem ws u (all_head (Good ws) u us a) b l.0) k.below

chunks_length : (ws : List ℕ) (d : Directory) → Formed d ws → (i n : ℕ) → i + n ≤ d.chunks → length (records_from ws d i n) ≤ n * d.width
unfolding records_from
chunks_length ws d f i zero h = omega arith
chunks_length ws d f i (suc n) h =
    let r = chunk_at ws d i in
    let e = length-append (chunk_recs ws r) (records_from ws d (suc i) n) in
    let q = slots_length ws r.marks r.keys r.pays r.count in
    let z = (f.counts i (omega arith)).1 in
    let y = chunks_length ws d f (suc i) n (omega arith) in
    omega arith

level_length : (ws : List ℕ) (d : Directory) → Formed d ws → length (records_of ws d) ≤ 16384
level_length ws d f = le_trans (chunks_length ws d f 0 d.chunks (omega arith)) (mul-le-mul f.within.chunks_high f.within.width_high)

-- so is what lies between two cursors of a level
pub skims_few : (ws : List ℕ) (c : Cursor) (bound : ℕ) (after : Cursor) (live : ℕ) → Good ws c → Skims ws c bound after live → live ≤ 416384
unfolding rest
skims_few ws c bound after live g k =
    let a = ap (λ (rs : List Rec). length rs) k.joined ∙ length-append k.between (rest ws after) in
    let b = length-append (chunk_recs ws c.chunk) (records_from ws c.dir c.next (c.dir.chunks - c.next)) in
    let e = slots_length ws c.chunk.marks c.chunk.keys c.chunk.pays c.chunk.count in
    let f = chunks_length ws c.dir g.formed c.next (c.dir.chunks - c.next) (omega (arith, g.low)) in
    let h : c.dir.chunks - c.next ≤ 1024 = omega (arith, g.formed.within.chunks_high) in
    let m = mul-le-mul h g.formed.within.width_high in
    omega (arith, k.counted, kept_length true k.between, g.keys_in, g.formed.within.short)

-- what four levels show is far below the largest number
levels_load : (ws : List ℕ) (ds : List Directory) → AllFormed ws ds → load (map (records_of ws) ds) ≤ 16384 * length ds
levels_load ws [] a = omega arith
levels_load ws (d ∷ ds) a = omega (arith, level_length ws d (all_head (λ (d : Directory). Formed d ws) d ds a), levels_load ws ds (all_tail (λ (d : Directory). Formed d ws) d ds a))

pub layered_few : (ws : List ℕ) (ds : List Directory) → length ds ≡ 4 → AllFormed ws ds → length (layered ws ds) ≤ 65536
layered_few ws ds h a = omega (arith, view_length (map (records_of ws) ds), levels_load ws ds a)
