-- A step of the machine is a step of the merge as defined on blocks.
use Prim.Native.Nat.{ℕ, suc, ◌+◌, ◌-◌, ◌≤◌, ◌<◌}
use mathlib.Core.Path.{◌≡◌, sym, ap, subst, ◌∙◌, refl}
use mathlib.Core.Bool.{Bool, true, false, ◌&&◌, true≢false}
use mathlib.Core.List.{List, [], ◌∷◌, ◌++◌}
use Rattle.std.specs.Prelude.{Option, None, Some, is_some}
use native.Mathlib.Decide.{dec_lt}
use native.Mathlib.Numerals.{add-one}
use native.Mathlib.Nat.{le_refl}
use native.Mathlib.Omega.{arith}
use lib.Dec.{ltb, leb, eqb}
use lib.ListN.{length, get_or, set, length-append}
use lib.Seq.{get_or-set_same}
use borrow.Author.Tests.{le-leb, lt-leb, leb-true, eqb-true, eqb-false, ltb-true, ltb-false}
use Rattle.levels.specs.Basics.{if◌then◌otherwise◌}
use Rattle.levels.specs.Record.{Rec, Block, Level, new, size}
use Rattle.levels.specs.Merge.{Out, State, head_rec, reusable, flush, rest, reuse, gather, from_upper, from_lower, from_both, step}
use Rattle.blocks.specs.declared.Offsets.{Offsets}
use Rattle.blocks.specs.Blocks.{buffer_of, pushed}
use Rattle.blocks.proofs.Laws.{free_found}
use Rattle.sides.specs.declared.Chunk.{Chunk}
use Rattle.sides.specs.declared.Head.{Head}
use Rattle.stream.specs.declared.Point.{Point}
use Rattle.stream.specs.declared.Move.{Move}
use Rattle.stream.specs.declared.Inputs.{Inputs}
use Rattle.sides.specs.Sides.{block_chunk, chunk_of, head_of, head_at, no_head, last_size, follows, follows_at}
use Rattle.sides.proofs.Laws.{follows_some, place_of_start}
use Rattle.stream.specs.Machine.{Memory, flushed, append, gathered, reused, emitted, with_progress, with_buffer, point_after, moved, chosen, turn, idle}
use Rattle.stream.proofs.Laws.{flushed_m, after_one, idle_of}
use Rattle.merging.proofs.Relation.{next_free, Holds, Stands, SideAt, LastIs, Core, Budget, Sim}
use Rattle.merging.proofs.Blocks.{block_of, stored_at, count_at, begun, side, Flash}
use Rattle.merging.proofs.Words.{sized_on}
use Rattle.merging.proofs.Heads.{recs_length, Shows, shows_at, Sees, nothing, block, follows_same}
use Rattle.merging.proofs.Moves.{side_cons, side_none, rest_more, rest_last}
use Rattle.merging.proofs.Outs.{Fit, full_test, flush_holds, append_holds, gather_holds}
use Rattle.merging.proofs.Frame.{Kept, flush_kept, append_kept, gather_kept, count_kept, block_same, side_kept, side_same}
use Rattle.merging.proofs.Steps.{past, put, from_upper_lem, from_lower_lem, gather_few}

-- the same world, at another place of the sides
moved_holds : (z : Offsets) (d : Flash) (o : Out) (a : Memory) (x y : Point) → Holds z d o a → Holds z d o (moved a x y)
moved_holds z d o a x y h = record { buf = h.buf; flash = h.flash; last = h.last }

-- the side that comes first, in both readings
three : (P : State → Move → Type 0) (fx fy kx ky : ℕ) → kx ≡ fx → ky ≡ fy → (sl su sb : State) (wl wu wb : Move) → P sl wl → P su wu → P sb wb
    → P (if ltb fy fx then sl otherwise if eqb fy fx then sb otherwise su) (if ltb ky kx then wl otherwise if ltb kx ky then wu otherwise wb)
three P fx fy kx ky ex ey sl su sb wl wu wb pl pu pb = rw (ex, ey) (go (ltb fy fx) (eqb fy fx) (ltb fx fy) refl refl refl)
  where
    go : (l e u : Bool) → ltb fy fx ≡ l → eqb fy fx ≡ e → ltb fx fy ≡ u → P (if l then sl otherwise if e then sb otherwise su) (if l then wl otherwise if u then wu otherwise wb)
    go true e u p q r = pl
    go false true false p q r = pb
    go false false true p q r = pu
    go false true true p q r = absurd (omega (arith, eqb-true fy fx q, ltb-true fx fy r))
    go false false false p q r = absurd (omega (arith, eqb-false fy fx q, ltb-false fx fy r, ltb-false fy fx p))

-- what a side reads at a record, and at its end
pub head_at_lem : (z : Offsets) (pages : Bool) (ws list : List ℕ) (i j end : ℕ) → i < end → head_of z pages ws list i j end ≡ Some (head_at ws (chunk_of z pages ws list i) j)
unfolding head_of
head_at_lem z pages ws list i j end h = rw (lt-leb end i h)

pub head_no : (z : Offsets) (pages : Bool) (ws list : List ℕ) (i j end : ℕ) → end ≤ i → head_of z pages ws list i j end ≡ no_head
unfolding head_of
head_no z pages ws list i j end h = rw (le-leb end i h)

-- block b stands at place q, which is in use
record Placed (z : Offsets) (ws : List ℕ) (used : List Bool) (q : ℕ) (b : Block) : Type 0 where
  low : q < z.p
  taken : get_or used q false ≡ true
  high : count_at z ws q ≤ z.b
  is : b ≡ stored_at z ws q

-- a listed chunk that stands is such a block
listed_placed : (z : Offsets) (pages : Bool) (ws : List ℕ) (used : List Bool) (list : List ℕ) (k : ℕ) → Stands z pages ws used list k → (q : ℕ) → (chunk_of z pages ws list k).place ≡ Some q
    → Placed z ws used q (block_of ws (chunk_of z pages ws list k))
unfolding chunk_of
listed_placed z true ws used list k s q e = absurd (cc)
listed_placed z false ws used list k s q e =
    let w : get_or list k 0 ≡ q = cc in
    subst (λ (p : ℕ). Placed z ws used p (block_of ws (block_chunk z ws (get_or list k 0)))) w (record { low = s.place refl; taken = s.taken refl; high = s.formed.high; is = refl })

-- a side at a record: what it reads, the block there as far as it is left, and the blocks behind it
module _ {z : Offsets} {pages : Bool} {ws : List ℕ} {used : List Bool} {list : List ℕ} {end : ℕ} {p : Point} (k : SideAt z pages ws used list end p) (g : p.i < end) where
  abbrev chunk : Chunk
  chunk = chunk_of z pages ws list p.i

  abbrev head : Head
  head = head_at ws chunk p.j

  abbrev top : Block
  top = begun p.j (block_of ws chunk)

  abbrev behind : Level
  behind = side z pages ws list (p.i + 1) 0 end

  shows : Shows ws head top
  shows = shows_at z ws chunk p.j (k.stands p.i (le_refl p.i) g).formed (k.inside g)

  bit_low : head.tombstone < 2
  bit_low = omega arith

  whole_is : eqb p.j 0 ≡ true → block_of ws chunk ≡ top
  whole_is e = rw (eqb-true p.j 0 e)

  found : (q : ℕ) → head.whole ≡ Some q → Placed z ws used q top
  found q e = go (eqb p.j 0) refl e
    where
      go : (t : Bool) → eqb p.j 0 ≡ t → (if t then chunk.place otherwise None) ≡ Some q → Placed z ws used q top
      go true f e = subst (Placed z ws used q) (whole_is f) (listed_placed z pages ws used list p.i (k.stands p.i (le_refl p.i) g) q e)
      go false f e = absurd (cc)

  -- the side after the block, or after the record
  next_at : SideAt z pages ws used list end (record { i = p.i + 1; j = 0 })
  next_at = record { stands = λ i l. k.stands i (omega arith); low = omega arith; inside = λ h. (k.stands (p.i + 1) (omega arith) h).formed.low }

  after_at : (r : Bool) → SideAt z pages ws used list end (point_after p chunk.n r)
  unfolding point_after
  after_at true = next_at
  after_at false = after_one (SideAt z pages ws used list end) p chunk.n (λ _. next_at) (λ h. record { stands = k.stands; low = k.low; inside = λ _. h })

  after_side : (r : Bool) → past r top behind ≡ side z pages ws list (point_after p chunk.n r).i (point_after p chunk.n r).j end
  unfolding point_after
  after_side true = refl
  after_side false =
      after_one (λ (v : Point). rest (top ∷ behind) ≡ side z pages ws list v.i v.j end) p chunk.n
      (λ h. rest_last ws chunk p.j behind (omega (arith, k.inside g)))
      (λ h. rest_more ws chunk p.j behind (omega arith) ∙ rw (add-one p.j) (sym (side_cons z pages ws list p.i (suc p.j) end g)))

gather_tail : (z : Offsets) (bottom : Bool) (o : Out) (a : Memory) (h : Head) → a.st.buf ≡ buffer_of o.buffer → LastIs z a.words a.out a.st.m o.done
    → LastIs z (gathered z bottom a h).words (gathered z bottom a h).out (gathered z bottom a h).st.m (gather z.b bottom (record { key = h.key; tombstone = eqb h.tombstone 1; pay = h.pay }) o).done
unfolding gathered
gather_tail z bottom o a h n l = go (bottom && eqb h.tombstone 1) (leb z.b (suc (length o.buffer))) refl
  where
    r : Rec
    r = record { key = h.key; tombstone = eqb h.tombstone 1; pay = h.pay }

    full : Memory
    full = with_progress a (with_buffer a.st (pushed a.st.buf h.key h.tombstone h.pay))

    Tail : Memory → Out → Type 0
    Tail b p = LastIs z b.words b.out b.st.m p.done

    go : (t u : Bool) → leb z.b (suc (length o.buffer)) ≡ u
        → Tail (if t then a otherwise if leb z.b (a.st.buf.n + 1) then flushed z full otherwise full)
        (if t then o otherwise if u then record { buffer = []; done = new (o.buffer ++ (r ∷ [])) ∷ o.done } otherwise record { buffer = o.buffer ++ (r ∷ []); done = o.done })
    go true u e = l
    go false true e = λ k. absurd (omega (arith, leb-true z.b (suc (length o.buffer)) e, length-append o.buffer (r ∷ []), k))
    go false false e = rw (full_test z.b a.st.buf o.buffer n, e) l

module _ (z : Offsets) (t : Inputs) (xs ys : List ℕ) (d : Flash) where
  -- a state and the memory that stands for it
  abbrev pub Both : State → Memory → Type 0
  Both s a = Core z t xs ys s.out a × Sim z t xs ys d s a

  -- the sides of memory a have gone to x and y; the words, the buffer, the list and the cursor are as they were
  module _ (o : Out) (a : Memory) (x y : Point) (c : Core z t xs ys o a) (g : Budget z a) (hs : Holds z d o a)
      (kx : SideAt z t.pages a.words a.used xs t.x x) (ky : SideAt z false a.words a.used ys t.y y) where
    abbrev here : Memory
    here = moved a x y

    fit : Fit z here
    fit = record { sized = c.sized; cursor = c.cursor; list = (let r = g.room in omega arith) }

    free : get_or a.used (next_free z here) false ≡ false
    free = free_found a.used z.p a.st.cursor c.cursor g.free

    -- what holds of any memory that keeps this one
    kept_on : (s : State) (b : Memory) → Kept z here b → length s.out.buffer < z.b → LastIs z b.words b.out b.st.m s.out.done
        → s.upper ≡ side z t.pages a.words xs x.i x.j t.x → s.lower ≡ side z false a.words ys y.i y.j t.y → Holds z d s.out b → Both s b
    kept_on s b k few tl eu el h =
        let r = g.room in (
          record {
            sized = sized_on z a.words b.words c.sized k.length_words;
            full = k.length_out ∙ c.full;
            cursor = k.cursor c.cursor;
            few = few;
            upper = subst (SideAt z t.pages b.words b.used xs t.x) (sym k.x) (side_kept z here b c.sized k.same t.pages xs t.x x kx);
            lower = subst (SideAt z false b.words b.used ys t.y) (sym k.y) (side_kept z here b c.sized k.same false ys t.y y ky);
            listed = k.places (omega arith) c.listed c.cursor;
            tail = tl;
          },
          record {
            upper = eu ∙ sym (side_same z here b c.sized k.same t.pages xs x.i x.j t.x kx.stands) ∙ ap (λ (p : Point). side z t.pages b.words xs p.i p.j t.x) (sym k.x);
            lower = el ∙ sym (side_same z here b c.sized k.same false ys y.i y.j t.y ky.stands) ∙ ap (λ (p : Point). side z false b.words ys p.i p.j t.y) (sym k.y);
            out = h;
          },
        )

    module _ (bottom : Bool) (h : Head) (b : Block) (s : Shows a.words h b) (u l : Level) (eu : u ≡ side z t.pages a.words xs x.i x.j t.x) (el : l ≡ side z false a.words ys y.i y.j t.y) where
      gather_step : h.tombstone < 2 → Both (record { upper = u; lower = l; out = gather z.b bottom (head_rec b) o }) (gathered z bottom here h)
      gather_step m =
          let n = c.few in
          let w = c.sized.b_high in
          kept_on (record { upper = u; lower = l; out = gather z.b bottom (head_rec b) o }) (gathered z bottom here h) (gather_kept z bottom here h free) (gather_few z.b bottom (head_rec b) o n)
          (rw s.head (gather_tail z bottom o here h hs.buf c.tail)) eu el (rw s.head (gather_holds z bottom d o here h fit (omega arith) m (moved_holds z d o a x y hs)))

      reuse_step : (q : ℕ) → Placed z a.words a.used q b → Both (record { upper = u; lower = l; out = reuse b o }) (reused z here q)
      unfolding reused
      reuse_step q p =
          let f = flushed z here in
          let kf = flush_kept z here free in
          let fm = flushed_m z here in
          let r = g.room in
          let w = c.sized.b_low in
          let room : f.st.m < length f.out = rw kf.length_out (omega arith) in
          let n : count_at z a.words q ≡ size b = sym (ap (λ (e : Block). size e) p.is ∙ recs_length a.words (block_chunk z a.words q) 0 (count_at z a.words q)) in
          let last : get_or (set f.out f.st.m q) (f.st.m + 1 - 1) 0 ≡ q = (let j : f.st.m + 1 - 1 ≡ f.st.m = omega arith in rw j (get_or-set_same f.out f.st.m q 0 room)) in
          let tl : b ≡ stored_at z f.words (get_or (set f.out f.st.m q) (f.st.m + 1 - 1) 0) = rw last (p.is ∙ sym (block_same z here f c.sized kf.same q p.taken p.high)) in
          kept_on (record { upper = u; lower = l; out = reuse b o }) (append f q) (append_kept z here f q room p.low kf) (omega arith) (λ _. tl) eu el
          (append_holds z d b q (flush o.buffer o.done) f room (ap (λ (e : Block). e.place) p.is) (count_kept z here f c.sized kf.same q p.taken ∙ n) (flush_holds z d o here fit (moved_holds z d o a x y hs)))

      -- the block is reused at the place that the move has, else its next record is gathered
      emit_step : (w : Option ℕ) → ((q : ℕ) → w ≡ Some q → Placed z a.words a.used q b) → h.tombstone < 2
          → Both (record { upper = u; lower = l; out = put z.b bottom (is_some w) b o }) (emitted z bottom a (record { x = x; y = y; head = h; whole = w }))
      unfolding emitted
      emit_step (Some q) p m = reuse_step q (p q refl)
      emit_step None p m = gather_step m

  module _ (o : Out) (a : Memory) (c : Core z t xs ys o a) (g : Budget z a) (hs : Holds z d o a) where
    -- the place of the block that h shows, if it is reused where the other side reads i
    abbrev whole : Head → Option Head → Option ℕ
    whole h i = follows_at z t.bottom a.words h i a.st.buf.n (last_size z a.words a.out a.st.m)

    test : (h : Head) (i : Option Head) (b : Block) (l : Level) → Shows a.words h b → Sees a.words i l → is_some (whole h i) ≡ reusable z.b t.bottom o l b
    unfolding buffer_of
    test h i b l s e =
        let m = last_size z a.words a.out a.st.m in
        let f : follows z t.bottom a.words h i a.st.buf.n m ≡ reusable z.b t.bottom o l b = rw hs.buf (follows_same z t.bottom a.words h i b l o m s e hs.last) in
        follows_some z t.bottom a.words h i a.st.buf.n m ∙ f

    -- a block reused is the one that the head shows
    placed_at : (i : Option Head) (end : ℕ) (pages : Bool) (list : List ℕ) (p : Point) (k : SideAt z pages a.words a.used list end p) (g : p.i < end) (q : ℕ) → whole (head k g) i ≡ Some q → Placed z a.words a.used q (top k g)
    placed_at i end pages list p k g q f = found k g q (place_of_start (follows z t.bottom a.words (head k g) i a.st.buf.n (last_size z a.words a.out a.st.m)) (head k g).whole q f)

    module _ (gx : a.st.x.i < t.x) where
      upper_step : (i : Option Head) (l : Level) → l ≡ side z false a.words ys a.st.y.i a.st.y.j t.y → Sees a.words i l → let h = head c.upper gx in let w = whole h i in
          Both (from_upper z.b t.bottom (top c.upper gx) (behind c.upper gx) l o) (emitted z t.bottom a (record { x = point_after a.st.x h.n (is_some w); y = a.st.y; head = h; whole = w }))
      upper_step i l el e =
          let k = c.upper in
          let h = head k gx in
          let b = top k gx in
          let w = whole h i in
          let r = is_some w in
          subst (λ (s : State). Both s (emitted z t.bottom a (record { x = point_after a.st.x h.n r; y = a.st.y; head = h; whole = w }))) (sym (from_upper_lem z.b t.bottom b (behind k gx) l o))
          (rw (← test h i b l (shows k gx) e)
          (emit_step o a (point_after a.st.x h.n r) a.st.y c g hs (after_at k gx r) c.lower t.bottom h b (shows k gx) (past r b (behind k gx)) l (after_side k gx r) el w (placed_at i t.x t.pages xs a.st.x k gx) (bit_low k gx)))

    module _ (gy : a.st.y.i < t.y) where
      lower_step : (i : Option Head) (l : Level) → l ≡ side z t.pages a.words xs a.st.x.i a.st.x.j t.x → Sees a.words i l → let h = head c.lower gy in let w = whole h i in
          Both (from_lower z.b t.bottom (top c.lower gy) (behind c.lower gy) l o) (emitted z t.bottom a (record { x = a.st.x; y = point_after a.st.y h.n (is_some w); head = h; whole = w }))
      lower_step i l el e =
          let k = c.lower in
          let h = head k gy in
          let b = top k gy in
          let w = whole h i in
          let r = is_some w in
          subst (λ (s : State). Both s (emitted z t.bottom a (record { x = a.st.x; y = point_after a.st.y h.n r; head = h; whole = w }))) (sym (from_lower_lem z.b t.bottom b (behind k gy) l o))
          (rw (← test h i b l (shows k gy) e)
          (emit_step o a a.st.x (point_after a.st.y h.n r) c g hs c.upper (after_at k gy r) t.bottom h b (shows k gy) l (past r b (behind k gy)) el (after_side k gy r) w (placed_at i t.y false ys a.st.y k gy) (bit_low k gy)))

    both_step : (gx : a.st.x.i < t.x) (gy : a.st.y.i < t.y) → let h = head c.upper gx in let i = head c.lower gy in
        Both (from_both z.b t.bottom (top c.upper gx) (behind c.upper gx) (top c.lower gy ∷ behind c.lower gy) o) (emitted z t.bottom a (record { x = point_after a.st.x h.n false; y = point_after a.st.y i.n false; head = h; whole = None }))
    both_step gx gy =
        let k = c.upper in
        let l = c.lower in
        emit_step o a (point_after a.st.x (head k gx).n false) (point_after a.st.y (head l gy).n false) c g hs (after_at k gx false) (after_at l gy false) t.bottom (head k gx) (top k gx) (shows k gx)
        (past false (top k gx) (behind k gx)) (past false (top l gy) (behind l gy)) (after_side k gx false) (after_side l gy false) None (λ q f. absurd (cc)) (bit_low k gx)

  -- one step on words is one step on blocks
  pub sim_step : (s : State) (a : Memory) → Core z t xs ys s.out a → Budget z a → Sim z t xs ys d s a → idle z t xs ys a ≡ false → Both (step z.b t.bottom s) (turn z t xs ys a)
  unfolding turn chosen
  sim_step s a c g m idles = go (dec_lt a.st.x.i t.x) (dec_lt a.st.y.i t.y)
    where
      go : Dec (a.st.x.i < t.x) → Dec (a.st.y.i < t.y) → Both (step z.b t.bottom s) (turn z t xs ys a)
      go (no nx) (no ny) = absurd (true≢false (sym (idle_of z t xs ys a (omega arith) (omega arith)) ∙ idles))
      go (yes gx) (no ny) =
          let cu = side_cons z t.pages a.words xs a.st.x.i a.st.x.j t.x gx in
          let sl = side_none z false a.words ys a.st.y.i a.st.y.j t.y (omega arith) in
          rw (m.upper ∙ cu, m.lower ∙ sl, head_at_lem z t.pages a.words xs a.st.x.i a.st.x.j t.x gx, head_no z false a.words ys a.st.y.i a.st.y.j t.y (omega arith))
          (upper_step s.out a c g m.out gx no_head [] (sym sl) nothing)
      go (no nx) (yes gy) =
          let cl = side_cons z false a.words ys a.st.y.i a.st.y.j t.y gy in
          let su = side_none z t.pages a.words xs a.st.x.i a.st.x.j t.x (omega arith) in
          rw (m.lower ∙ cl, m.upper ∙ su, head_at_lem z false a.words ys a.st.y.i a.st.y.j t.y gy, head_no z t.pages a.words xs a.st.x.i a.st.x.j t.x (omega arith))
          (lower_step s.out a c g m.out gy no_head [] (sym su) nothing)
      go (yes gx) (yes gy) =
          let cu = side_cons z t.pages a.words xs a.st.x.i a.st.x.j t.x gx in
          let cl = side_cons z false a.words ys a.st.y.i a.st.y.j t.y gy in
          let wx = shows c.upper gx in
          let wy = shows c.lower gy in
          rw (m.upper ∙ cu, m.lower ∙ cl, head_at_lem z t.pages a.words xs a.st.x.i a.st.x.j t.x gx, head_at_lem z false a.words ys a.st.y.i a.st.y.j t.y gy)
          (three (λ (r : State) (m : Move). Both r (emitted z t.bottom a m)) _ _ _ _ wx.key wy.key _ _ _ _ _ _
          (lower_step s.out a c g m.out gy _ _ (sym cu) (block wx))
          (upper_step s.out a c g m.out gx _ _ (sym cl) (block wy))
          (both_step s.out a c g m.out gx gy))
