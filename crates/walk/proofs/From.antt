-- The walk from a key on: of each level, what stands before the key may be passed over.
use Prim.Native.Nat.{ℕ, zero, suc, ◌+◌, ◌-◌, ◌/◌, ◌^◌, ◌≤◌, ◌<◌}
use mathlib.Core.Path.{◌≡◌, refl, sym, ◌∙◌, ap, subst}
use mathlib.Core.Logic.{dite}
use mathlib.Core.List.{List, [], ◌∷◌, ◌++◌, append_assoc}
use native.Mathlib.Decide.{dec_lt}
use native.Mathlib.Omega.{arith}
use lib.ListN.{length, get_or, take, drop, length-append, take-append-drop}
use Rattle.std.specs.Prelude.{All}
use Rattle.slices.specs.Ranks.{count_below}
use Rattle.levels.specs.Record.{Rec}
use Rattle.levels.specs.Map.{into, overlay, view}
use Rattle.levels.proofs.Rising.{rising_from, rising_right}
use Rattle.levels.proofs.Overlay.{into_below, into_same, into_above, overlay_rising, overlay_nil, Way, way}
use Rattle.levels.proofs.Overlay.Way.{less, same, more}
use Rattle.levels.specs.Rising.{Rising, Below}
use Rattle.words.specs.Stores.{word}
use Rattle.words.proofs.Slots.{slots_drop}
use Rattle.chunks.specs.declared.Chunk.{Chunk}
use Rattle.chunks.specs.Chunks.{chunk_recs}
use Rattle.chunks.proofs.Overlay.{Least}
use Rattle.directory.specs.declared.Directory.{Directory}
use Rattle.directory.specs.Directory.{Formed, records_from, records_of, chunk_at}
use Rattle.search.specs.Search.{Sought}
use Rattle.search.proofs.Laws.{chunk_keys, span, chunk_ready, level_cut, span_after, before_rank, at_rank, before_end}
use Rattle.walk.specs.declared.Cursor.{Cursor}
use Rattle.walk.specs.declared.Front.{Front}
use Rattle.walk.specs.Walk.{head_of, rest, Good, FromKey, layered, AllFormed, rests, Ahead, Entered, SameLevels}
use Rattle.walk.proofs.Rest.{more as others, rest_alive, least_of_lem}
use Rattle.walk.proofs.Between.{overlay_before}
use Rattle.walk.proofs.Four.{four_items, layered_few}

-- a sorted list begins at its first key
pub least_rising : (low k : ℕ) (xs : List Rec) → Rising low xs → Least k xs → Rising k xs
least_rising low k [] h b = tt
least_rising low k (x ∷ xs) h b = (b, h.1)

rising_least : (k : ℕ) (xs : List Rec) → Rising k xs → Least k xs
rising_least k [] h = tt
rising_least k (x ∷ xs) h = h.0

-- keys below q of both lists stand before the others
module _ (q : ℕ) (u : Rec) (f g : List Rec → List Rec) (zs ys : List Rec) (h : u.key < q) (d : Least q ys) (i : (vs : List Rec) → Below q vs → f (vs ++ ys) ≡ g vs ++ zs) where
  into_split : (vs : List Rec) → Below q vs → into u f (vs ++ ys) ≡ into u g vs ++ zs
  unfolding into
  into_split [] b = go ys refl
    where
      go : (xs : List Rec) → ys ≡ xs → into u f ys ≡ u ∷ (g [] ++ zs)
      go [] e = rw e (ap (λ (rs : List Rec). u ∷ rs) (sym (ap f e) ∙ i [] tt))
      go (x ∷ xs) e =
          let l : q ≤ x.key = rw e at d in
          ap (into u f) e ∙ into_above u f x xs (omega arith) ∙ ap (λ (rs : List Rec). u ∷ rs) (sym (ap f e) ∙ i [] tt)
  into_split (v ∷ vs) b = go (way v.key u.key) (into_split vs b.1)
    where
      go : Way v.key u.key → into u f (vs ++ ys) ≡ into u g vs ++ zs → into u f (v ∷ (vs ++ ys)) ≡ into u g (v ∷ vs) ++ zs
      go (less w) ih = rw (into_below u f v (vs ++ ys) w, into_below u g v vs w) (ap (λ (rs : List Rec). v ∷ rs) ih)
      go (same w) ih = rw (into_same u f v (vs ++ ys) w, into_same u g v vs w) (ap (λ (rs : List Rec). u ∷ rs) (i vs b.1))
      go (more w) ih = rw (into_above u f v (vs ++ ys) w, into_above u g v vs w) (ap (λ (rs : List Rec). u ∷ rs) (i (v ∷ vs) b))

overlay_split : (q : ℕ) (us xs vs ys : List Rec) → Below q us → Below q vs → Least q xs → Least q ys → overlay (us ++ xs) (vs ++ ys) ≡ overlay us vs ++ overlay xs ys
unfolding overlay
overlay_split q [] xs vs ys a b c d = overlay_before q xs vs ys c b
overlay_split q (u ∷ us) xs vs ys a b c d = into_split q u (λ zs. overlay (us ++ xs) zs) (λ zs. overlay us zs) (overlay xs ys) ys a.0 d (λ zs z. overlay_split q us xs zs ys a.1 z c d) vs b

-- and are below q still
module _ (q : ℕ) (u : Rec) (g : List Rec → List Rec) (h : u.key < q) (i : (zs : List Rec) → Below q zs → Below q (g zs)) where
  into_low : (vs : List Rec) → Below q vs → Below q (into u g vs)
  unfolding into
  into_low [] b = (h, i [] tt)
  into_low (v ∷ vs) b = go (way v.key u.key) (into_low vs b.1)
    where
      go : Way v.key u.key → Below q (into u g vs) → Below q (into u g (v ∷ vs))
      go (less w) ih = rw (into_below u g v vs w) (b.0, ih)
      go (same w) ih = rw (into_same u g v vs w) (h, i vs b.1)
      go (more w) ih = rw (into_above u g v vs w) (h, i (v ∷ vs) b)

overlay_low : (q : ℕ) (us vs : List Rec) → Below q us → Below q vs → Below q (overlay us vs)
unfolding overlay
overlay_low q [] vs a b = b
overlay_low q (u ∷ us) vs a b = into_low q u (λ zs. overlay us zs) a.0 (λ zs z. overlay_low q us zs a.1 z) vs b

-- a list in two parts, below q and from q on
record Split (q : ℕ) (all passed left : List Rec) : Type 0 where
  cut : all ≡ passed ++ left
  below : Below q passed
  from : Rising q left

split_overlay : (q : ℕ) (a us xs b vs ys : List Rec) → Split q a us xs → Split q b vs ys → Split q (overlay a b) (overlay us vs) (overlay xs ys)
split_overlay q a us xs b vs ys s t =
    record {
      cut = rw (s.cut, t.cut) (overlay_split q us xs vs ys s.below t.below (rising_least q xs s.from) (rising_least q ys t.from));
      below = overlay_low q us vs s.below t.below;
      from = overlay_rising q xs ys s.from t.from;
    }

-- a cursor whose level has nothing below q left
key_from : (ws : List ℕ) (q : ℕ) (c : Cursor) → Good ws c → q ≤ 4294967296 → Rising q (rest ws c) → q ≤ c.key
key_from ws q c g h r =
    dite (dec_lt 0 c.chunk.count)
    (λ y. let k : Rising q (head_of ws c.chunk ∷ others ws c) = rw (rest_alive ws c g y) at r in let e = (g.alive y).0 in omega (arith, k.0))
    (λ n. omega (arith, (g.ended (omega arith)).0))

-- a slot of a chunk that has a record, in words that can be counted
pub record SlotRoom (ws : List ℕ) (c : Chunk) (at : ℕ) : Type 0 where
  pub key_in : c.keys + at < length ws
  pub pay_in : c.pays + at < length ws
  pub low : at < 16
  pub short : length ws ≤ 400000

-- a level at the rank of q in the chunk that was sought
module _ (ws : List ℕ) (d : Directory) (f : Formed d ws) (q r : ℕ) (s : Sought ws d q r) (c : Chunk) (e : c ≡ chunk_at ws d r) (t : ℕ) (y : t ≡ count_below q (chunk_keys ws c)) where
  pub slot_room : t < c.count → SlotRoom ws c t
  slot_room l =
      let n = chunk_ready ws d f r s.inside c e in
      record { key_in = omega (arith, n.0.keys_end); pay_in = omega (arith, n.0.pays_end); low = omega (arith, n.1.1.0); short = f.within.short }

  -- the records before it, those from it on, and the chunks after
  slot_cut : records_of ws d ≡ (span ws d 0 r ++ take t (chunk_recs ws c)) ++ (drop t (chunk_recs ws c) ++ span ws d (r + 1) d.chunks)
  slot_cut =
      let u = span ws d 0 r in
      let v = take t (chunk_recs ws c) in
      let w = drop t (chunk_recs ws c) in
      let z = span ws d (r + 1) d.chunks in
      let a : records_of ws d ≡ u ++ (chunk_recs ws c ++ z) = rw e (level_cut ws d f q r s) in
      a ∙ ap (λ (rs : List Rec). u ++ (rs ++ z)) (sym (take-append-drop t (chunk_recs ws c))) ∙ ap (λ (rs : List Rec). u ++ rs) (append_assoc v w z) ∙ sym (append_assoc u v (w ++ z))

  -- a cursor there
  pub from_slot : (key : ℕ) → t < c.count → key ≡ word ws (c.keys + t) → key < 4294967296
      → FromKey ws d q (record { dir = d; next = r + 1; chunk = record { marks = c.marks / 2 ^ t; keys = c.keys + t; pays = c.pays + t; count = c.count - t }; key = key })
  unfolding rest
  from_slot key l k b =
      let n = (chunk_ready ws d f r s.inside c e).0 in
      record {
        good =
            record {
              formed = f;
              low = let i = s.inside in omega arith;
              keys_in = let p = n.keys_end in omega arith;
              pays_in = let p = n.pays_end in omega arith;
              alive = λ z. (k, b);
              ended = λ z. absurd (omega arith);
            };
        passed = span ws d 0 r ++ take t (chunk_recs ws c);
        cut = rw (← slots_drop ws c.marks c.keys c.pays t c.count (omega arith)) slot_cut;
        below = before_rank ws d f q r s c e t y;
        ahead = rw k (at_rank ws d f q r s c e t y l);
      }

  -- or, if all the records of that chunk are below q, one at the chunk after it
  pub from_after : (a : Cursor) → c.count ≤ t → q ≤ 4294967296 → Good ws a → rest ws a ≡ records_from ws d (r + 1) (d.chunks - (r + 1)) → FromKey ws d q a
  from_after a l h g o =
      record {
        good = g;
        passed = span ws d 0 r ++ chunk_recs ws c;
        cut = rw (o, e) (level_cut ws d f q r s ∙ sym (append_assoc (span ws d 0 r) (chunk_recs ws (chunk_at ws d r)) (span ws d (r + 1) d.chunks)));
        below = before_end ws d f q r s c e t y l;
        ahead = key_from ws q a g h (rising_from q (suc q) (rest ws a) (omega arith) (rw o (span_after ws d f q r s)));
      }

-- a cursor into a level of no chunks
pub from_none : (ws : List ℕ) (d : Directory) (q : ℕ) (c : Cursor) → d.chunks < 1 → q ≤ 4294967296 → Good ws c → rest ws c ≡ records_from ws d 0 (d.chunks - 0) → FromKey ws d q c
unfolding records_from
from_none ws d q c l h g e =
    let z : d.chunks ≡ 0 = omega arith in
    let y : d.chunks - 0 ≡ 0 = omega arith in
    let r : rest ws c ≡ [] = rw y at e in
    record { good = g; passed = []; cut = rw (r, z); below = tt; ahead = key_from ws q c g h (rw r tt) }

split_level : (ws : List ℕ) (d : Directory) (q : ℕ) (c : Cursor) → Formed d ws → (k : FromKey ws d q c) → Split q (records_of ws d) k.passed (rest ws c)
split_level ws d q c f k =
    record {
      cut = k.cut;
      below = k.below;
      from = least_rising 0 q (rest ws c) (rising_right 0 k.passed (rest ws c) (rw k.cut at f.rises)) (least_of_lem ws c k.good q k.ahead);
    }

-- four of them
module _ (ws : List ℕ) (q : ℕ) (d0 d1 d2 d3 : Directory) (a : AllFormed ws (d0 ∷ d1 ∷ d2 ∷ d3 ∷ [])) (c0 c1 c2 c3 : Cursor) (k0 : FromKey ws d0 q c0) (k1 : FromKey ws d1 q c1) (k2 : FromKey ws d2 q c2) (k3 : FromKey ws d3 q c3) where
  from_four : Entered ws (d0 ∷ d1 ∷ d2 ∷ d3 ∷ []) q (record { upper = c0 ∷ c1 ∷ c2 ∷ []; last = c3 })
  unfolding view
  from_four =
      let f : Front = record { upper = c0 ∷ c1 ∷ c2 ∷ []; last = c3 } in
      let passed = overlay k0.passed (overlay k1.passed (overlay k2.passed k3.passed)) in
      let s3 : Split q (view (records_of ws d3 ∷ [])) k3.passed (view (rest ws c3 ∷ [])) = rw (overlay_nil (records_of ws d3), overlay_nil (rest ws c3)) (split_level ws d3 q c3 (a 3 d3 (omega arith)) k3) in
      let s2 = split_overlay q _ _ _ _ _ _ (split_level ws d2 q c2 (a 2 d2 (omega arith)) k2) s3 in
      let s1 = split_overlay q _ _ _ _ _ _ (split_level ws d1 q c1 (a 1 d1 (omega arith)) k1) s2 in
      let s0 : Split q (layered ws (d0 ∷ d1 ∷ d2 ∷ d3 ∷ [])) passed (rests ws f) = split_overlay q _ _ _ _ _ _ (split_level ws d0 q c0 (a 0 d0 (omega arith)) k0) s1 in
      let n = length-append passed (rests ws f) in
      let e = ap (λ (rs : List Rec). length rs) s0.cut in
      let o : Ahead ws f =
      record {
        abreast = record { upper = each_good; last = k3.good };
        rises = rising_from 0 q (rests ws f) (omega arith) s0.from;
        few = omega (arith, e, n, layered_few ws (d0 ∷ d1 ∷ d2 ∷ d3 ∷ []) refl a);
      } in
      record { ahead = o; passed = passed; cut = s0.cut; below = s0.below; from = s0.from }
    where
      each_good : All (Good ws) (c0 ∷ c1 ∷ c2 ∷ [])
      each_good zero e h = k0.good
      each_good (suc zero) e h = k1.good
      each_good (suc (suc zero)) e h = k2.good
      each_good (suc (suc (suc i))) e h = absurd (omega arith)

-- the same of a list of four
pub from_all : (ws : List ℕ) (q : ℕ) (l : List Directory) (z : Directory) → length l ≡ 4 → AllFormed ws l → (c0 c1 c2 c3 : Cursor)
    → FromKey ws (get_or l 0 z) q c0 → FromKey ws (get_or l 1 z) q c1 → FromKey ws (get_or l 2 z) q c2 → FromKey ws (get_or l 3 z) q c3
    → Entered ws l q (record { upper = c0 ∷ c1 ∷ c2 ∷ []; last = c3 })
from_all ws q l z h a c0 c1 c2 c3 k0 k1 k2 k3 =
    let e = four_items l z h in
    subst (λ (ds : List Directory). Entered ws ds q (record { upper = c0 ∷ c1 ∷ c2 ∷ []; last = c3 })) (sym e)
    (from_four ws q _ _ _ _ (subst (λ (ds : List Directory). AllFormed ws ds) e a) c0 c1 c2 c3 k0 k1 k2 k3)

-- an empty list changes nothing, first or last; so a last level with no chunk may as well be the first
around_same : (d0 d1 d2 d3 : Directory) → d3.chunks ≡ 0 → SameLevels (d0 ∷ d1 ∷ d2 ∷ d3 ∷ []) (d3 ∷ d0 ∷ d1 ∷ d2 ∷ [])
unfolding records_from view overlay
around_same d0 d1 d2 d3 e =
    record {
      formed = λ ws a. turned ws a;
      shows = λ ws. rw (e, overlay_nil (records_of ws d2));
    }
  where
    turned : (ws : List ℕ) → AllFormed ws (d0 ∷ d1 ∷ d2 ∷ d3 ∷ []) → AllFormed ws (d3 ∷ d0 ∷ d1 ∷ d2 ∷ [])
    turned ws a zero z h = a 3 z (omega arith)
    turned ws a (suc zero) z h = a 0 z (omega arith)
    turned ws a (suc (suc zero)) z h = a 1 z (omega arith)
    turned ws a (suc (suc (suc zero))) z h = a 2 z (omega arith)
    turned ws a (suc (suc (suc (suc i)))) z h = absurd (omega arith)

pub levels_same : (l : List Directory) → SameLevels l l
levels_same l = record { formed = λ ws a. a; shows = λ ws. refl }

module _ (l : List Directory) (z : Directory) (h : length l ≡ 4) where
  pub levels_around : (get_or l 3 z).chunks ≡ 0 → SameLevels l (get_or l 3 z ∷ get_or l 0 z ∷ get_or l 1 z ∷ get_or l 2 z ∷ [])
  levels_around e = subst (λ (ds : List Directory). SameLevels ds (get_or l 3 z ∷ get_or l 0 z ∷ get_or l 1 z ∷ get_or l 2 z ∷ [])) (sym (four_items l z h)) (around_same _ _ _ _ e)

  pub levels_twice : (get_or l 3 z).chunks ≡ 0 → (get_or l 2 z).chunks ≡ 0 → SameLevels l (get_or l 2 z ∷ get_or l 3 z ∷ get_or l 0 z ∷ get_or l 1 z ∷ [])
  levels_twice e k =
      let p = levels_around e in
      let q = around_same (get_or l 3 z) (get_or l 0 z) (get_or l 1 z) (get_or l 2 z) k in
      record { formed = λ ws a. q.formed ws (p.formed ws a); shows = λ ws. q.shows ws ∙ p.shows ws }
