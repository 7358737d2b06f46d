-- Where the words have the first and last keys of listed blocks and of the pages of level 0.
use Prim.Native.Nat.{ℕ, zero, suc, ◌+◌, ◌-◌, ◌*◌, ◌/◌, ◌≤◌, ◌<◌}
use mathlib.Core.Path.{◌≡◌, refl, sym, ap, ◌∙◌}
use mathlib.Core.List.{List, [], ◌∷◌, map, map-append}
use native.Mathlib.Nat.{mul-le-mul_right}
use native.Mathlib.Omega.{arith}
use lib.ListN.{length, get_or, take, drop, length-map}
use lib.Seq.{take_all}
use Rattle.geometry.specs.Geometry.{capacity_of, top_capacity_of, block_width}
use Rattle.levels.specs.Basics.{each}
use Rattle.levels.specs.Record.{Rec, Block, first_key, last_key, new, pages}
use Rattle.words.specs.Stores.{word, keys_of, slots_at, page_slots, top_slots, top_recs, top_count_at, block_slots, block_at, record_count}
use Rattle.choice.specs.declared.Fence.{Fence}
use Rattle.choice.specs.Fences.{fence_of}
use Rattle.fences.specs.Reading.{fill, listed_fence, page_fence, Readable}
use Rattle.levels.proofs.Lists.{map_take, map_drop}
use Rattle.levels.proofs.Compaction.{pages_at, pages_full}
use Rattle.levels.proofs.Each.{length_each, each_add, each_take, each_drop, get_d_each, each_get_d, map_each}
use Rattle.words.proofs.Top.{top_length}
use Rattle.fences.proofs.Lists.{take_fill, fill_all}
use Rattle.layout.proofs.Laws.{place_word_inside, keys_before, places_before}
use Rattle.layout.specs.Layouts.{Proper, place_start, Fitted}
use Rattle.layout.specs.declared.Layout.{Layout}

-- Keys by index.

keys_slots : (ws : List ℕ) (m k v n : ℕ) → keys_of (slots_at ws m k v n) ≡ each (word ws) k n
unfolding slots_at
keys_slots ws m k v zero = refl
keys_slots ws m k v (suc n) = rw (keys_slots ws (m / 2) (suc k) (suc v) n)

first_key_lem : (rs : List Rec) → first_key rs ≡ get_or (keys_of rs) 0 0
first_key_lem [] = refl
first_key_lem (r ∷ rs) = refl

last_key_lem : (rs : List Rec) → last_key rs ≡ get_or (keys_of rs) (length rs - 1) 0
last_key_lem [] = refl
last_key_lem (r ∷ []) = refl
last_key_lem (r ∷ s ∷ rs) =
    let e : suc (suc (length rs)) - 1 ≡ suc (length rs) = omega arith in
    let d : suc (length rs) - 1 ≡ length rs = omega arith in
    rw e (rw d at (last_key_lem (s ∷ rs)))

-- records whose keys are the words k, k + 1 .. k + n − 1
fence_words : (ws : List ℕ) (k n : ℕ) (b : Block) → keys_of b.recs ≡ each (word ws) k n → 1 ≤ n → fence_of b ≡ record { first = word ws k; last = word ws (k + n - 1) }
fence_words ws k n b e h =
    let m : length b.recs ≡ n = sym (length-map b.recs (λ (r : Rec). r.key)) ∙ ap length e ∙ length_each (word ws) k n in
    let j : k + (n - 1) ≡ k + n - 1 = omega arith in
    let z : k + 0 ≡ k = omega arith in
    let f : first_key b.recs ≡ word ws k = first_key_lem b.recs ∙ rw e (get_d_each (word ws) k n 0 0 h ∙ ap (word ws) z) in
    let l : last_key b.recs ≡ word ws (k + n - 1) = last_key_lem b.recs ∙ rw (m, e) (get_d_each (word ws) k n (n - 1) 0 (omega arith) ∙ ap (word ws) j) in
    rw (f, l)

-- the fence of a listed block
pub listed_words : (z : Layout) (ws list : List ℕ) (i : ℕ) → Readable z ws (word list i)
    → listed_fence z ws list i ≡ record { first = word ws (place_start z (word list i) + 2); last = word ws (place_start z (word list i) + 1 + record_count z ws (word list i)) }
unfolding listed_fence block_at block_slots
listed_words z ws list i k =
    let p = word list i in
    let n = record_count z ws p in
    let e : keys_of (block_at z ws p).recs ≡ each (word ws) (place_start z p + 2) n =
    map_take (λ (r : Rec). r.key) n (block_slots z ws p) ∙ ap (take n) (keys_slots ws _ (place_start z p + 2) _ z.geo.b) ∙ each_take (word ws) (place_start z p + 2) n z.geo.b k.fits in
    let j : place_start z p + 2 + n - 1 ≡ place_start z p + 1 + n = omega arith in
    fence_words ws (place_start z p + 2) n (block_at z ws p) e k.filled ∙ ap (λ (x : ℕ). record { first = word ws (place_start z p + 2); last = word ws x }) j

-- Pages of level 0.

keys_pages : (z : Layout) (ws : List ℕ) (i n : ℕ) → keys_of (page_slots z ws i n) ≡ each (word ws) (z.keys + i * z.geo.b) (n * z.geo.b)
unfolding page_slots
keys_pages z ws i zero = let e : 0 * z.geo.b ≡ 0 = omega arith in rw e
keys_pages z ws i (suc n) =
    let e : suc n * z.geo.b ≡ z.geo.b + n * z.geo.b = omega arith in
    let d : z.keys + suc i * z.geo.b ≡ z.keys + i * z.geo.b + z.geo.b = omega arith in
    map-append (λ (r : Rec). r.key) (slots_at ws _ _ _ z.geo.b) (page_slots z ws (suc i) n) ∙ rw (keys_slots, keys_pages z ws (suc i) n, e, d) (sym (each_add (word ws) (z.keys + i * z.geo.b) z.geo.b (n * z.geo.b)))

keys_top : (z : Layout) (ws : List ℕ) → top_count_at z ws ≤ top_capacity_of z.geo → keys_of (top_recs z ws) ≡ each (word ws) z.keys (top_count_at z ws)
unfolding top_recs top_slots top_capacity_of
keys_top z ws h =
    let e : z.keys + 0 * z.geo.b ≡ z.keys = omega arith in
    map_take (λ (r : Rec). r.key) (top_count_at z ws) (top_slots z ws) ∙ rw (keys_pages z ws 0 (capacity_of z.geo 0), e) (each_take (word ws) z.keys (top_count_at z ws) (capacity_of z.geo 0 * z.geo.b) h)

-- the fence of a full page of level 0
pub page_words : (z : Layout) (ws : List ℕ) (i : ℕ) → 1 ≤ z.geo.b → suc i * z.geo.b ≤ top_count_at z ws → top_count_at z ws ≤ top_capacity_of z.geo
    → page_fence z ws i ≡ record { first = word ws (z.keys + i * z.geo.b); last = word ws (z.keys + i * z.geo.b + z.geo.b - 1) }
unfolding page_fence
page_words z ws i p h l =
    let top = top_recs z ws in
    let c = top_count_at z ws in
    let ks = keys_top z ws l in
    let m = top_length z ws l in
    let e : keys_of (take z.geo.b (drop (i * z.geo.b) top)) ≡ each (word ws) (z.keys + i * z.geo.b) z.geo.b =
    map_take (λ (r : Rec). r.key) z.geo.b (drop (i * z.geo.b) top) ∙ rw (map_drop, ks, each_drop) (each_take (word ws) (z.keys + i * z.geo.b) z.geo.b (c - i * z.geo.b) (omega arith)) in
    rw (pages_at z.geo.b i top p (omega arith)) (fence_words ws (z.keys + i * z.geo.b) z.geo.b (new (take z.geo.b (drop (i * z.geo.b) top))) e p)

-- every key of level 0 lies in the store
pub keys_inside : (z : Layout) → Proper z → (j : ℕ) → j < top_capacity_of z.geo → z.keys + j < z.length
keys_inside z v j h = omega (arith, keys_before z v, places_before z v)

-- the words that the fence of the block at a place is read from lie in the store
pub place_room : (z : Layout) (ws : List ℕ) (place at : ℕ) → at ≡ place_start z place → Readable z ws place → Fitted z ws
    → (at + 2 < length ws) × (at + 1 + word ws at < length ws)
unfolding block_width
place_room z ws place at e k l =
    let n : word ws at ≤ z.geo.b = rw e k.fits in
    let m : 1 ≤ word ws at = rw e k.filled in
    (omega (arith, place_word_inside z l.proper {j = 2} k.inside (omega arith), l.words), omega (arith, l.words, place_word_inside z l.proper {j = 1 + word ws at} k.inside (omega arith)))

-- the keys of a full page lie in the store, and what is read of them is its fence
module _ (z : Layout) (ws : List ℕ) (n i b : ℕ) (d : b ≡ z.geo.b) (v : Fitted z ws) (h : n * z.geo.b ≤ top_count_at z ws) (l : top_count_at z ws ≤ top_capacity_of z.geo) (k : i < n) where
  page_in : suc i * z.geo.b ≤ n * z.geo.b
  page_in = mul-le-mul_right z.geo.b k

  pub page_room : (1 ≤ b) × (z.keys + i * b + b ≤ length ws)
  page_room =
      let r = v.proper.valid.ranged.b_low in
      let w = page_in in
      rw d (omega arith, omega (arith, v.words, keys_inside z v.proper (i * z.geo.b + z.geo.b - 1) (omega arith)))

  pub page_read : page_fence z ws i ≡ record { first = word ws (z.keys + i * b); last = word ws (z.keys + i * b + b - 1) }
  page_read = let w = page_in in rw d (page_words z ws i (omega (arith, v.proper.valid.ranged.b_low)) (omega arith) l)

-- A list filled with fences holds the fences of the blocks.

-- the listed blocks: with the list of a level, `level_at`
pub listed_fences : (z : Layout) (ws list : List ℕ) (xs fences : List Fence) → fences ≡ fill (listed_fence z ws list) (length list) xs → take (length list) fences ≡ map fence_of (map (block_at z ws) list)
unfolding listed_fence
listed_fences z ws list xs fences e =
    let n = length list in
    ap (take n) e ∙ take_fill (listed_fence z ws list) n xs
    ∙ sym (ap (map fence_of) (ap (map (block_at z ws)) (sym (take_all n list (omega arith)) ∙ sym (each_get_d 0 list n (omega arith))) ∙ map_each (block_at z ws) (word list) 0 n) ∙ map_each fence_of (λ (i : ℕ). block_at z ws (word list i)) 0 n)

-- the pages of a level 0 of n full pages
pub page_fences : (z : Layout) (ws : List ℕ) (n : ℕ) (xs fences : List Fence) → length xs ≡ n → fences ≡ fill (page_fence z ws) (length xs) xs
    → 1 ≤ z.geo.b → top_count_at z ws ≡ n * z.geo.b → top_count_at z ws ≤ top_capacity_of z.geo
    → fences ≡ map fence_of (pages z.geo.b (top_recs z ws))
unfolding page_fence
page_fences z ws n xs fences q a p e l =
    let ps = pages z.geo.b (top_recs z ws) in
    let m : length ps ≡ n = pages_full z.geo.b n (top_recs z ws) p (top_length z ws l ∙ e) in
    a ∙ fill_all (page_fence z ws) n xs q
    ∙ sym (ap (map fence_of) (sym (each_get_d (new []) ps n (omega arith) ∙ take_all n ps (omega arith))) ∙ map_each fence_of (λ (i : ℕ). get_or ps i (new [])) 0 n)
