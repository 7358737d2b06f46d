-- Laws of what a side reads.
use Prim.Native.Nat.{ℕ, suc, ◌+◌, ◌-◌, ◌*◌, ◌^◌, ◌≤◌, ◌<◌}
use mathlib.Core.Path.{◌≡◌, refl, sym, ◌∙◌, subst}
use mathlib.Core.Bool.{Bool, true, false, ◌&&◌, true≢false}
use mathlib.Core.List.{List}
use native.Mathlib.Nat.{mul-le-mul_right}
use native.Mathlib.Omega.{arith}
use lib.Dec.{leb, ltb, eqb}
use borrow.Author.Tests.{leb-true, leb-false, lt-leb, ne_eqb}
use lib.ListN.{length, get_or, take, drop, length-drop}
use lib.Seq.{length-take-le, get_or-take, get_or-drop}
use Rattle.std.specs.Prelude.{Option, Some, None, is_some}
use Rattle.std.specs.Option.{ForSome}
use Rattle.slices.specs.Ranks.{count_below}
use Rattle.slices.proofs.Ranks.{all_below}
use Rattle.levels.specs.Basics.{if◌then◌otherwise◌}
use Rattle.levels.proofs.Basics.{if_either}
use Rattle.blocks.specs.declared.Offsets.{Offsets}
use Rattle.blocks.specs.Blocks.{Sized, start_of}
use Rattle.blocks.specs.Room.{places_most}
use Rattle.blocks.proofs.Laws.{ends}
use Rattle.sides.specs.declared.Chunk.{Chunk}
use Rattle.sides.specs.declared.Head.{Head}
use Rattle.sides.specs.Sides.{Chunked, Readable, Searchable, chunk_of, head_of, head_at, no_head, last_size, whole_below, follows, follows_at}

-- the words of a chunk lie in the store
pub chunk_inside : (z : Offsets) (pages : Bool) (xs list : List ℕ) (i : ℕ) → Chunked z pages xs list i → (chunk_of z pages xs list i).n ≤ z.b
    → ((chunk_of z pages xs list i).marks < length xs) × ((chunk_of z pages xs list i).keys + (chunk_of z pages xs list i).n ≤ length xs) × ((chunk_of z pages xs list i).pays + (chunk_of z pages xs list i).n ≤ length xs)
unfolding chunk_of
chunk_inside z true xs list i k h =
    let s = k.sized in
    let l = k.page refl in
    let m = mul-le-mul_right {m = suc i} {n = z.top} z.b l in
    (omega arith, omega arith, omega arith)
chunk_inside z false xs list i k h = let e = ends z xs k.sized (get_or list i 0) (k.place refl) in (omega arith, omega arith, omega arith)

pub page_inside : (z : Offsets) (xs : List ℕ) (i : ℕ) → Sized z xs → i < z.top → (z.marks + i ≤ 1000000) × (z.keys + i * z.b ≤ 1000000) × (z.pays + i * z.b ≤ 1000000)
page_inside z xs i s l = let m = mul-le-mul_right {m = i} {n = z.top} z.b (omega arith) in (omega arith, omega arith, omega arith)

pub readable_chunked : (z : Offsets) (pages : Bool) (xs list : List ℕ) (i j end : ℕ) → Readable z pages xs list i j end → i < end → Chunked z pages xs list i
readable_chunked z pages xs list i j end k h = record { sized = k.sized; low = omega (arith, k.end_high); place = k.place h; page = k.page h }

chunk_place_lem : (z : Offsets) (pages : Bool) (xs list : List ℕ) (i : ℕ) → Chunked z pages xs list i → (q : ℕ) → (chunk_of z pages xs list i).place ≡ Some q → q < 8192
unfolding chunk_of
chunk_place_lem z true xs list i k q e = absurd (cc)
chunk_place_lem z false xs list i k q e = let f : get_or list i 0 ≡ q = cc in let l = k.place refl in let s = k.sized in omega arith

-- what is read at a record: a mark bit, a block's records, a place, and that place at the block's first record
pub record HeadOk (h : Head) : Type 0 where
  pub tombstone : h.tombstone < 2
  pub n : h.n ≤ 16
  pub place : ForSome h.place (λ q. q < places_most)
  pub whole : ForSome h.whole (λ q. q < places_most)

-- the place that a block's first record has, or a block that follows, is the block's
pub place_of_start : (t : Bool) (o : Option ℕ) (q : ℕ) → (if t then o otherwise None) ≡ Some q → o ≡ Some q
place_of_start true o q e = e
place_of_start false o q e = absurd (cc)

pub head_none : (z : Offsets) (pages : Bool) (xs list : List ℕ) (i j end : ℕ) → head_of z pages xs list i j end ≡ None → end ≤ i
unfolding head_of
head_none z pages xs list i j end e = go (leb end i) refl e
  where
    go : (t : Bool) → leb end i ≡ t → (if t then no_head otherwise Some (head_at xs (chunk_of z pages xs list i) j)) ≡ None → end ≤ i
    go true f e = leb-true end i f
    go false f e = absurd (cc)

pub head_is : (z : Offsets) (pages : Bool) (xs list : List ℕ) (i j end : ℕ) → i < end → head_of z pages xs list i j end ≡ Some (head_at xs (chunk_of z pages xs list i) j)
unfolding head_of
head_is z pages xs list i j end l = rw (lt-leb end i l)

-- a side that is not used up stands at a record of its chunk
pub head_reads : (z : Offsets) (pages : Bool) (xs list : List ℕ) (i j end : ℕ) (h : Head) → head_of z pages xs list i j end ≡ Some h → (i < end) × (head_at xs (chunk_of z pages xs list i) j ≡ h)
unfolding head_of
head_reads z pages xs list i j end h e = go (leb end i) refl e
  where
    go : (t : Bool) → leb end i ≡ t → (if t then no_head otherwise Some (head_at xs (chunk_of z pages xs list i) j)) ≡ Some h → (i < end) × (head_at xs (chunk_of z pages xs list i) j ≡ h)
    go true f e = absurd (cc)
    go false f e = (leb-false end i f, cc)

module _ (z : Offsets) (pages : Bool) (xs list : List ℕ) (i j end : ℕ) (k : Readable z pages xs list i j end) (h : Head) (e : head_of z pages xs list i j end ≡ Some h) where
  abbrev chunk : Chunk
  chunk = chunk_of z pages xs list i

  within : i < end
  within = (head_reads z pages xs list i j end h e).0

  -- what holds of the chunk's record holds of the head
  of_record : (P : Head → Type 0) → P (head_at xs chunk j) → P h
  of_record P = subst P (head_reads z pages xs list i j end h e).1

  -- the next record of a side is a record
  pub head_ok : HeadOk h
  head_ok =
      let low = chunk_place_lem z pages xs list i (readable_chunked z pages xs list i j end k within) in
      of_record HeadOk (record { tombstone = omega arith; n = omega (arith, k.count within, k.sized); place = low; whole = λ q f. low q (place_of_start (eqb j 0) chunk.place q f) })

  pub head_some : (i < 4096) × (j < 16)
  head_some = (omega (arith, k.end_high, within), omega (arith, k.inside within, k.count within, k.sized))

  pub head_inside : j < h.n
  head_inside = of_record (λ (a : Head). j < a.n) (k.inside within)

  -- a side that has a record stands in a block that can be searched
  pub head_row : Searchable xs h
  head_row =
      let c = chunk_inside z pages xs list i (readable_chunked z pages xs list i j end k within) (k.count within) in
      of_record (Searchable xs) (record { filled = omega (arith, k.inside within); inside = c.1; pays = c.2; rises = k.rises within })

pub last_low : (z : Offsets) (xs out : List ℕ) (m : ℕ) → Sized z xs → ((i : ℕ) → get_or xs i 0 < 2 ^ 32) → last_size z xs out m < 2 ^ 32
unfolding last_size
last_low z xs out m k f = if_either (λ (n : ℕ). n < 2 ^ 32) (eqb m 0) z.b (get_or xs (start_of z (get_or out (m - 1) 0)) 0) (omega (arith, k.b_high)) (f _)

and_no : (p q : Bool) → p ≡ false → (p && q) ≡ false
and_no true q e = absurd (true≢false e)
and_no false q e = refl

-- a block that is not at its first record, or has no place, does not follow
follows_placed : (z : Offsets) (bottom : Bool) (xs : List ℕ) (h : Head) (o : Option Head) (n e : ℕ) → is_some h.whole ≡ false → follows z bottom xs h o n e ≡ false
unfolding follows whole_below
follows_placed z bottom xs h o n e w = if_either (λ (v : Bool). v ≡ false) (eqb n 0) _ _ (and_no _ _ (and_no _ _ w)) (and_no _ _ (and_no _ _ w))

-- that of a later record, for one
pub follows_late : (z : Offsets) (bottom : Bool) (xs : List ℕ) (c : Chunk) (j : ℕ) (o : Option Head) (n e : ℕ) → 1 ≤ j → follows z bottom xs (head_at xs c j) o n e ≡ false
follows_late z bottom xs c j o n e l =
    let w : is_some (if eqb j 0 then c.place otherwise None) ≡ false = rw (ne_eqb j 0 (λ s. omega arith)) in
    follows_placed z bottom xs (head_at xs c j) o n e w

-- so a place is given exactly where the block follows
pub follows_some : (z : Offsets) (bottom : Bool) (xs : List ℕ) (h : Head) (o : Option Head) (n e : ℕ) → is_some (follows_at z bottom xs h o n e) ≡ follows z bottom xs h o n e
follows_some z bottom xs h o n e = go (follows z bottom xs h o n e) (is_some h.whole) refl refl
  where
    go : (t u : Bool) → follows z bottom xs h o n e ≡ t → is_some h.whole ≡ u → is_some (if t then h.whole otherwise None) ≡ t
    go true true f w = w
    go true false f w = absurd (true≢false (sym f ∙ follows_placed z bottom xs h o n e w))
    go false u f w = refl

pub not_at : (z : Offsets) (bottom : Bool) (xs : List ℕ) (h : Head) (o : Option Head) (n e : ℕ) → follows z bottom xs h o n e ≡ false → follows_at z bottom xs h o n e ≡ None
not_at z bottom xs h o n e f = rw f

-- all keys of a block are below a key exactly if its last one is
pub row_below : (xs : List ℕ) (h : Head) (k n : ℕ) → Searchable xs h → n ≡ count_below k (take h.n (drop h.keys xs)) → eqb n h.n ≡ ltb (get_or xs (h.keys + (h.n - 1)) 0) k
row_below xs h k n s e =
    let row = take h.n (drop h.keys xs) in
    let f = s.filled in
    let n : length row ≡ h.n = length-take-le h.n (drop h.keys xs) (rw length-drop (let i = s.inside in omega arith)) in
    let l : get_or row (h.n - 1) 0 ≡ get_or xs (h.keys + (h.n - 1)) 0 = get_or-take h.n (drop h.keys xs) (h.n - 1) 0 (omega arith) ∙ get_or-drop h.keys xs (h.n - 1) 0 in
    rw e (sym (rw (n, l) at (all_below k 0 row s.rises (omega (arith, n)))))
