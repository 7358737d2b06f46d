-- What the answers of a store that passes need: the searches and the walk give the definitions' records and places.
use Prim.Native.Nat.{ℕ, suc, ◌+◌, ◌≤◌, ◌<◌}
use mathlib.Core.Path.{◌≡◌, refl, sym, ap, ◌∙◌, subst}
use mathlib.Core.Bool.{Bool, true, false}
use mathlib.Core.List.{List, [], map}
use mathlib.Core.Option.{Option as Maybe, none, some}
use mathlib.Core.Logic.{dite}
use native.Mathlib.Decide.{dec_lt}
use native.Mathlib.Omega.{arith}
use lib.ListN.{length, take, drop}
use Rattle.std.specs.Prelude.{Option, Some, None, Ok}
use borrow.Author.Tests.{le-leb, lt-leb}
use Rattle.geometry.specs.declared.Geometry.{Geometry}
use Rattle.geometry.specs.Geometry.{key_limit_of, block_width, within}
use Rattle.levels.specs.Basics.{if◌then◌otherwise◌, or_else}
use Rattle.levels.specs.Record.{Rec, Block}
use Rattle.levels.specs.Map.{find, unmarked, map_of, decides, present, first_from, next, stretch}
use Rattle.levels.specs.Store.{rows}
use Rattle.words.specs.Stores.{part, word, store_at, live_at, top_count_at, count_at, level_at, block_at, geometry_from}
use Rattle.words.specs.Calls.{look_answer, next_answer, enclosing, part_of, show_in, about_in}
use Rattle.words.proofs.About.{answer_with, about_read}
use Rattle.chunks.specs.Chunks.{chunk_recs}
use Rattle.directory.specs.declared.Directory.{Directory}
use Rattle.directory.specs.Directory.{Formed, chunk_at, records_of}
use Rattle.walk.specs.Walk.{following_of, layered}
use Rattle.search.specs.declared.Held.{Held}
use Rattle.search.specs.Search.{found_of, encloses, enclosed_from, enclosed_of}
use Rattle.form.specs.Form.{top_of, level_of, levels_of}
use Rattle.form.proofs.Parts.{words_from, Listed}
use Rattle.form.proofs.Sizes.{lists_in, place_below}
use Rattle.form.proofs.Blocks.{level_blocks, chunk_recs_lem}
use Rattle.form.proofs.Clauses.{filled_level}
use Rattle.form.proofs.Ready.{ready_sized, ready_headed, ready_filled, ready_lists, ready_levels, ready_view, ready_decides}
use Rattle.reader.specs.Answers.{looked_answer, looked_of, nexted_answer, facts_answer}
use Rattle.reader.specs.Show.{empty_part, block_part, show_part_in}
use Rattle.reader.specs.declared.Part.{Part}
use Rattle.layout.proofs.Laws.{place_inside, fitted_spots}
use Rattle.layout.specs.Layouts.{list_start, place_start}
use Rattle.layout.specs.declared.Layout.{Layout}
use Rattle.words.specs.Passed.{Passed}

-- the answer of the first of two searches that has one
abbrev pub or_found : Option Held → Option Held → Option Held
or_found None b = b
or_found (Some h) b = Some h

found_or : (a b c d : Maybe Rec) → found_of (or_else a (or_else b (or_else c d))) ≡ or_found (found_of a) (or_found (found_of b) (or_found (found_of c) (found_of d)))
found_or (some r) b c d = refl
found_or none (some r) c d = refl
found_or none none (some r) d = refl
found_or none none none d = refl

-- "a mark or no record is absent"
pub look_present : (o : Maybe Rec) → looked_answer (Ok (looked_of (found_of o))) ≡ look_answer (present o)
look_present none = refl
look_present (some r) = go r.tombstone
  where
    go : (t : Bool) → looked_answer (Ok (if t then None otherwise Some r.pay)) ≡ look_answer (if t then none otherwise some r)
    go true = refl
    go false = refl

-- the walk's answer in document 01's numbers
pub next_followed : (o : Maybe Rec) → nexted_answer (Ok (following_of o)) ≡ next_answer o
next_followed none = refl
next_followed (some r) = refl

module _ (ws : List ℕ) (z : Layout) (e : Passed z ws) where
  -- "the first level from 0 down that has k decides", by the four searches
  pub found_levels : (k : ℕ) → found_of (decides k (rows (store_at z ws)))
      ≡ or_found (found_of (find k (records_of ws (top_of z ws)))) (or_found (found_of (find k (records_of ws (level_of z ws 1)))) (or_found (found_of (find k (records_of ws (level_of z ws 2)))) (found_of (find k (records_of ws (level_of z ws 3))))))
  found_levels k =
      ap found_of (ready_decides ws z e k)
      ∙ found_or (find k (records_of ws (top_of z ws))) (find k (records_of ws (level_of z ws 1))) (find k (records_of ws (level_of z ws 2))) (find k (records_of ws (level_of z ws 3)))

  -- the walk goes over the map
  pub next_levels : (k : ℕ) → first_from k (unmarked (layered ws (levels_of z ws))) ≡ next k (rows (store_at z ws))
  unfolding next map_of
  next_levels k = rw (ready_view ws z e)

  pub stretch_levels : (first last : ℕ) → stretch first last (unmarked (layered ws (levels_of z ws))) ≡ stretch first last (map_of (rows (store_at z ws)))
  unfolding map_of
  stretch_levels first last = rw (ready_view ws z e)

-- Show: levels that there are not, and those that there are.
pub part_low : (z : Layout) (ws : List ℕ) (i k : ℕ) → i < 1 → empty_part ≡ show_part_in z ws i k
unfolding show_part_in
part_low z ws i k h = rw (lt-leb 1 i h, show_part_in)

pub part_high : (z : Layout) (ws : List ℕ) (i k : ℕ) → 1 ≤ i → z.geo.h < i → empty_part ≡ show_part_in z ws i k
unfolding show_part_in
part_high z ws i k a b = rw (le-leb 1 i a, lt-leb i z.geo.h b, show_part_in)

part_level : (z : Layout) (ws : List ℕ) (i k : ℕ) → 1 ≤ i → i ≤ z.geo.h → show_part_in z ws i k ≡ block_part z (enclosing k (level_at z ws i))
unfolding show_part_in
part_level z ws i k a b = rw (le-leb 1 i a, le-leb i z.geo.h b, show_part_in)

-- its words are those that show gives
words_of : (z : Layout) (ws : List ℕ) (o : Maybe Block) → take (block_part z o).length (drop (block_part z o).start ws) ≡ part_of z ws o
unfolding part
words_of z ws none = refl
words_of z ws (some b) = refl

pub part_words_in : (z : Layout) (ws : List ℕ) (i k : ℕ) → take (show_part_in z ws i k).length (drop (show_part_in z ws i k).start ws) ≡ show_in z ws i k
unfolding show_part_in show_in part
part_words_in z ws i k = go (within 1 z.geo.h i)
  where
    go : (t : Bool) → let p : Part = elim t [ true ↦ block_part z (enclosing k (level_at z ws i)) | false ↦ empty_part ] in
        take p.length (drop p.start ws) ≡ elim t [ true ↦ part_of z ws (enclosing k (level_at z ws i)) | false ↦ [] ]
    go true = words_of z ws (enclosing k (level_at z ws i))
    go false = refl

-- a part that ends within words that are few enough to be counted in bytes
abbrev pub Inside : List ℕ → Part → Type 0
Inside ws p = (p.start + p.length ≤ length ws) × (p.start + p.length ≤ 400000)

pub empty_inside : (ws : List ℕ) → Inside ws empty_part
empty_inside ws = (omega arith, omega arith)

-- the block at the place that entry j of a list names
abbrev listed_block : Layout → List ℕ → ℕ → Option ℕ → Maybe Block
listed_block z ws start None = none
listed_block z ws start (Some j) = some (block_at z ws (word ws (start + j)))

-- the chunk that is answered is one of those gone over
enclosed_inside : (ws : List ℕ) (d : Directory) (k i n j : ℕ) → enclosed_from ws d k i n ≡ Some j → j < i + n
unfolding enclosed_from
enclosed_inside ws d k i ℕ.zero j e = absurd (let z : ◌≡◌ {A = ℕ} 0 1 = cc in omega arith)
enclosed_inside ws d k i (suc n) j e = go (encloses k (chunk_recs ws (chunk_at ws d i))) e (λ q. enclosed_inside ws d k (suc i) n j q)
  where
    go : (t : Bool) → (if t then Some i otherwise enclosed_from ws d k (suc i) n) ≡ Some j → (enclosed_from ws d k (suc i) n ≡ Some j → j < suc i + n) → j < i + suc n
    go true q ih = let w : i ≡ j = cc in omega arith
    go false q ih = omega (arith, ih q)

module _ (ws : List ℕ) (z : Layout) (e : Passed z ws) where
  -- every level from 1 on can be searched
  pub ready_level : (i : ℕ) → 1 ≤ i → i ≤ 3 → Formed (level_of z ws i) ws
  ready_level ℕ.zero a b = absurd (omega arith)
  ready_level (suc ℕ.zero) a b = ready_levels ws z e 1 (top_of z ws) (omega arith)
  ready_level (suc (suc ℕ.zero)) a b = ready_levels ws z e 2 (top_of z ws) (omega arith)
  ready_level (suc (suc (suc ℕ.zero))) a b = ready_levels ws z e 3 (top_of z ws) (omega arith)
  ready_level (suc (suc (suc (suc i)))) a b = absurd (omega arith)

  module _ (i : ℕ) (a : 1 ≤ i) (b : i ≤ z.geo.h) where
    listed : Listed z ws i
    listed = lists_in z ws (ready_headed ws z e) i a b

    enclosing_from : (k j n : ℕ) → j + n ≤ count_at z ws i
        → enclosing k (map (block_at z ws) (words_from ws (list_start z i + j) n)) ≡ listed_block z ws (list_start z i) (enclosed_from ws (level_of z ws i) k j n)
    unfolding enclosing enclosed_from
    enclosing_from k j ℕ.zero h = refl
    enclosing_from k j (suc n) h =
        let p = word ws (list_start z i + j) in
        let q : suc (list_start z i + j) ≡ list_start z i + suc j = omega arith in
        let ih : enclosing k (map (block_at z ws) (words_from ws (suc (list_start z i + j)) n)) ≡ listed_block z ws (list_start z i) (enclosed_from ws (level_of z ws i) k (suc j) n) = rw q (enclosing_from k (suc j) n (omega arith)) in
        ap (λ (rs : List Rec). elim (encloses k rs) [ true ↦ some (block_at z ws p) | false ↦ enclosing k (map (block_at z ws) (words_from ws (suc (list_start z i + j)) n)) ]) (sym (chunk_recs_lem z ws i listed (filled_level z ws (ready_filled ws z e) i a b) j (omega arith)))
        ∙ go k j n (encloses k (chunk_recs ws (chunk_at ws (level_of z ws i) j))) (enclosing k (map (block_at z ws) (words_from ws (suc (list_start z i + j)) n))) (enclosed_from ws (level_of z ws i) k (suc j) n) ih
      where
        go : (k j n : ℕ) (t : Bool) (o : Maybe Block) (r : Option ℕ) → o ≡ listed_block z ws (list_start z i) r
            → elim t [ true ↦ some (block_at z ws (word ws (list_start z i + j))) | false ↦ o ] ≡ listed_block z ws (list_start z i) (if t then Some j otherwise r)
        go k j n true o r u = refl
        go k j n false o r u = u

    -- the block that encloses k, by the search in the level's list
    pub enclosing_is : (k : ℕ) → enclosing k (level_at z ws i) ≡ listed_block z ws (list_start z i) (enclosed_of ws (level_of z ws i) k)
    unfolding enclosed_of level_of
    enclosing_is k =
        let s : list_start z i + 0 ≡ list_start z i = omega arith in
        rw (level_blocks z ws i listed) (rw s at (enclosing_from k 0 (count_at z ws i) (omega arith)))

    part_found : (k : ℕ) (r : Option ℕ) → enclosed_of ws (level_of z ws i) k ≡ r → block_part z (listed_block z ws (list_start z i) r) ≡ show_part_in z ws i k
    part_found k r q = sym (part_level z ws i k a b ∙ ap (block_part z) (enclosing_is k ∙ ap (listed_block z ws (list_start z i)) q))

    pub part_none : (k : ℕ) (d : Directory) → d ≡ level_of z ws i → None ≡ enclosed_of ws d k → empty_part ≡ show_part_in z ws i k
    part_none k d q h = part_found k None (sym (rw q at h))

    module _ (k : ℕ) (d : Directory) (q : d ≡ level_of z ws i) (j : ℕ) (h : Some j ≡ enclosed_of ws d k) where
      hit : enclosed_of ws (level_of z ws i) k ≡ Some j
      hit = sym (rw q at h)

      -- the entry that names the block is in the list, and names a place
      pub shown_listed : (d.list ≡ list_start z i) × (j < count_at z ws i)
      unfolding level_of enclosed_of
      shown_listed = (rw q, omega (arith, enclosed_inside ws (level_of z ws i) k 0 (count_at z ws i) j hit))

      pub shown_in : d.list + j < length ws
      shown_in = let s = shown_listed in omega (arith, listed.inside, listed.fits)

      pub shown_place : word ws (d.list + j) < z.geo.p
      shown_place = rw shown_listed.0 (place_below z ws (ready_headed ws z e) (ready_lists ws z e) i a b j shown_listed.1)

      pub shown_end : place_start z (word ws (d.list + j)) + block_width z.geo ≤ length ws
      shown_end = rw (ready_sized ws z e).words (place_inside z e.proper shown_place)

      pub part_at : record { start = place_start z (word ws (d.list + j)); length = block_width z.geo } ≡ show_part_in z ws i k
      unfolding block_at
      part_at = rw shown_listed.0 (part_found k (Some j) hit)

    -- the part lies in the lent store, which is short
    part_inside_level : (k : ℕ) → Inside ws (show_part_in z ws i k)
    part_inside_level k = go (enclosed_of ws (level_of z ws i) k) refl
      where
        go : (r : Option ℕ) → enclosed_of ws (level_of z ws i) k ≡ r → Inside ws (show_part_in z ws i k)
        go None q = subst (Inside ws) (part_found k None q) (empty_inside ws)
        go (Some j) q =
            let h = shown_end k (level_of z ws i) refl j (sym q) in
            subst (Inside ws) (part_at k (level_of z ws i) refl j (sym q)) (h, omega (arith, h, e.long, e.proper.short))

  pub part_inside_in : (i k : ℕ) → Inside ws (show_part_in z ws i k)
  part_inside_in i k =
      dite (dec_lt i 1) (λ l. subst (Inside ws) (part_low z ws i k l) (empty_inside ws))
      (λ l. dite (dec_lt z.geo.h i) (λ m. subst (Inside ws) (part_high z ws i k (omega arith) m) (empty_inside ws))
      (λ m. part_inside_level i (omega arith) (omega arith) k))

-- About: where the words lie that it reads
pub facts_spots : (ws : List ℕ) (z : Layout) → Passed z ws → (z.six + 5 < length ws) × ((z.live < length ws) × ((z.count + 3 < length ws) × (length ws ≤ 400000)))
facts_spots ws z e = let f = fitted_spots z ws (ready_sized ws z e) in (omega (arith, f), (omega (arith, f), (omega (arith, f), omega (arith, f))))

-- what the size words of a store that passes say of it, and N
pub facts_told : (ws : List ℕ) (z : Layout) → Passed z ws → (n : ℕ) → n ≡ key_limit_of z.geo
    → let a = z.six in let c = z.count in
    facts_answer (record { b = word ws a; w = word ws (a + 1); d = word ws (a + 2); g = word ws (a + 3); h = word ws (a + 4); p = word ws (a + 5); live = word ws z.live; limit = n; top = word ws c; blocks1 = word ws (c + 1); blocks2 = word ws (c + 2); blocks3 = word ws (c + 3) }) ≡ about_in z.geo (store_at z ws)
facts_told ws z e n q =
    let k : n ≡ key_limit_of (geometry_from ws z.six) = q ∙ ap key_limit_of (sym e.six) in
    rw k (ap (λ (g : Geometry). answer_with g (live_at z ws) (top_count_at z ws) (count_at z ws 1) (count_at z ws 2) (count_at z ws 3)) e.six ∙ sym (about_read z ws e))
