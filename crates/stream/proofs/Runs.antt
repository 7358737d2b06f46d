-- Several turns in one go: records of one block that come one after the other are gathered as turn by turn.
use Prim.Native.Nat.{ℕ, zero, suc, ◌+◌, ◌-◌, ◌/◌, ◌%◌, ◌^◌, ◌≤◌, ◌<◌}
use mathlib.Core.Path.{◌≡◌, sym, ap, ◌∙◌, refl, subst}
use mathlib.Core.Bool.{Bool, true, false, ◌&&◌, true≢false}
use Rattle.std.specs.Prelude.{Option, Some, None, is_some}
use mathlib.Core.List.{List}
use native.Mathlib.Omega.{arith}
use lib.Dec.{leb, eqb}
use lib.ListN.{length, get_or}
use borrow.Author.Tests.{lt-leb, le-ltb, ltb-true}
use Rattle.levels.specs.Basics.{if◌then◌otherwise◌}
use Rattle.blocks.specs.declared.Offsets.{Offsets}
use Rattle.blocks.specs.declared.Buffer.{Buffer}
use Rattle.blocks.specs.Blocks.{pushed}
use Rattle.sides.specs.declared.Chunk.{Chunk}
use Rattle.sides.specs.declared.Head.{Head}
use Rattle.sides.specs.Sides.{Readable, chunk_of, head_of, head_at, last_size, first, follows}
use Rattle.sides.proofs.Laws.{head_ok, head_some, head_inside, head_row, head_none, head_reads, head_is, place_of_start, follows_late, follows_some, not_at}
use Rattle.stream.specs.declared.Point.{Point}
use Rattle.stream.specs.declared.Progress.{Progress}
use Rattle.stream.specs.declared.Move.{Move}
use Rattle.stream.specs.declared.Run.{Run}
use Rattle.stream.specs.declared.Inputs.{Inputs}
use Rattle.stream.specs.Machine.{Memory, with_buffer, with_progress, flushed, gathered, point_after, lower_move, upper_move, chosen, emitted, moved_on, turn, turns, idle, moved, taken, taken_run, filled, Gatherable, Standing, Runnable, Ahead, Grows, grown, further, along_x, along_y, emitted_run}
use Rattle.stream.proofs.Laws.{if_false, idle_of, chosen_lower, chosen_upper, chosen_by, chosen_none, lower_first, upper_first, both_first}
use Rattle.stream.proofs.Taking.{taken_few, filled_not}

-- a gathered record goes to the buffer, which is written if it is full then
gather_fills : (z : Offsets) (bottom : Bool) (a : Memory) (h : Head) → a.st.buf.n < z.b
    → gathered z bottom a h ≡ filled z (with_progress a (with_buffer a.st (taken bottom a.st.buf h.key h.tombstone h.pay)))
unfolding gathered filled taken
gather_fills z bottom a h l = go (bottom && eqb h.tombstone 1)
  where
    more : Memory
    more = with_progress a (with_buffer a.st (pushed a.st.buf h.key h.tombstone h.pay))

    go : (t : Bool) → (if t then a otherwise if leb z.b (a.st.buf.n + 1) then flushed z more otherwise more)
        ≡ filled z (with_progress a (with_buffer a.st (if t then a.st.buf otherwise pushed a.st.buf h.key h.tombstone h.pay)))
    go true = sym (if_false (leb z.b a.st.buf.n) (flushed z a) a (lt-leb _ _ l))
    go false = refl

after_within : (p : Point) (n : ℕ) → p.j + 1 < n → point_after p n false ≡ record { i = p.i; j = p.j + 1 }
unfolding point_after
after_within p n l = if_false (leb n (p.j + 1)) (record { i = p.i + 1; j = 0 }) (record { i = p.i; j = p.j + 1 }) (lt-leb _ _ l)

and_no : (p q : Bool) → p ≡ false → (p && q) ≡ false
and_no true q e = absurd (true≢false e)
and_no false q e = refl

and_none : (p q : Bool) → q ≡ false → (p && q) ≡ false
and_none true q e = e
and_none false q e = refl

pub first_not : (x y : Option Head) → first x y ≡ true → first y x ≡ false
first_not None y f = absurd (true≢false (sym f))
first_not (Some h) None f = refl
first_not (Some h) (Some i) f = le-ltb i.key h.key (let l = ltb-true h.key i.key f in omega arith)

abbrev placed : {A : Type 0} → Option ℕ → (ℕ → A) → A → A
placed w f g = elim w [ Some q ↦ f q | None ↦ g ]

-- without a place in the move, its next record or records are gathered
gathers : {A : Type 0} (w : Option ℕ) (f : ℕ → A) (g : A) → is_some w ≡ false → placed w f g ≡ g
gathers (Some q) f g e = absurd (true≢false e)
gathers None f g e = refl

reuses : {A : Type 0} (w : Option ℕ) (f : ℕ → A) (g h : A) → is_some w ≡ true → placed w f g ≡ placed w f h
reuses (Some q) f g h e = refl
reuses None f g h e = absurd (true≢false (sym e))

-- a run of one record
run_one : (ws : List ℕ) (bottom : Bool) (h : Head) (c : Chunk) (j : ℕ) (b : Buffer) → h ≡ head_at ws c j → taken_run ws bottom h j b 1 ≡ taken bottom b h.key h.tombstone h.pay
unfolding taken_run
run_one ws bottom h c j b e =
    let s : j + 0 ≡ j = omega arith in
    subst (λ (v : Head). taken_run ws bottom v j b 1 ≡ taken bottom b v.key v.tombstone v.pay) (sym e)
    (ap (λ (k : ℕ). taken bottom b (get_or ws (c.keys + k) 0) (get_or ws c.marks 0 / 2 ^ k % 2) (get_or ws (c.pays + k) 0)) s)

runnable_at : (z : Offsets) (ws : List ℕ) (w : Progress) (m : Move) (p : Point) (h : Head) (more : ℕ) → m.head ≡ h → Standing ws p h → p.j + more < h.n → w.buf.n + more < z.b → w.buf.marks < 2 ^ w.buf.n
    → Runnable z ws w (record { next = m; from = p.j; more = more })
runnable_at z ws w m p h more e s l r b =
    record {
      room = r;
      bits = b;
      low = (let c = s.count in omega arith);
      keys = subst (λ (v : Head). v.keys + (p.j + more) < length ws) (sym e) (let c = s.row.inside in omega arith);
      pays = subst (λ (v : Head). v.pays + (p.j + more) < length ws) (sym e) (let c = s.row.pays in omega arith);
    }

grown_cases : (P : Run → Type 0) (p q : Point) (x y : Option Head) (c : Move) (more : ℕ) → (is_some c.whole ≡ true → P (record { next = c; from = 0; more = 0 }))
    → (is_some c.whole ≡ false → first y x ≡ true → P (along_y q c more))
    → (is_some c.whole ≡ false → first y x ≡ false → first x y ≡ true → P (along_x p c more))
    → (is_some c.whole ≡ false → first y x ≡ false → first x y ≡ false → P (record { next = c; from = p.j; more = 0 })) → P (grown p q x y c more)
unfolding grown
grown_cases P p q x y c more f g h i = go (is_some c.whole) (first y x) (first x y) refl refl refl
  where
    go : (w l u : Bool) → is_some c.whole ≡ w → first y x ≡ l → first x y ≡ u
        → P (if w then record { next = c; from = 0; more = 0 }
        otherwise if l then along_y q c more
        otherwise if u then along_x p c more
        otherwise record { next = c; from = p.j; more = 0 })
    go true l u ew el eu = f ew
    go false true u ew el eu = g ew el
    go false false true ew el eu = h ew el eu
    go false false false ew el eu = i ew el eu

-- The side that moves may be X or Y: `X p` and `Y p` say where both stand when it stands at p.
module _ (z : Offsets) (t : Inputs) (xs ys : List ℕ) (a : Memory) (X Y : Point → Point) where
  abbrev pub at : Point → Buffer → Memory
  at p u = record { words = a.words; used = a.used; out = a.out; st = record { x = X p; y = Y p; m = a.st.m; writes = a.st.writes; cursor = a.st.cursor; buf = u } }

  module _ (c : Chunk) (i j : ℕ) (b : Buffer) where
    abbrev pub ran : ℕ → Buffer
    ran d = taken_run a.words t.bottom (head_at a.words c j) j b d

    abbrev pub spot : ℕ → Point
    spot d = record { i = i; j = j + d }

    ran_few : (d : ℕ) → (ran d).n ≤ b.n + d
    unfolding taken_run
    ran_few zero = omega arith
    ran_few (suc d) =
        let f = taken_few t.bottom (ran d) (get_or a.words (c.keys + (j + d)) 0) (get_or a.words c.marks 0 / 2 ^ (j + d) % 2) (get_or a.words (c.pays + (j + d)) 0) in
        let g = ran_few d in
        omega arith

    -- one record of the run
    abbrev One : ℕ → Type 0
    One more = (d : ℕ) → d ≤ more → turn z t xs ys (at (spot d) (ran d)) ≡ gathered z t.bottom (at (point_after (spot d) c.n false) (ran d)) (head_at a.words c (j + d))

    module _ (more : ℕ) (one : One more) (awake : (d : ℕ) → idle z t xs ys (at (spot d) (ran d)) ≡ false) (room : b.n + more < z.b) (inside : j + more < c.n) where
      fills : (d : ℕ) → d ≤ more → turn z t xs ys (at (spot d) (ran d)) ≡ filled z (at (point_after (spot d) c.n false) (ran (suc d)))
      unfolding taken_run
      fills d l = one d l ∙ gather_fills z t.bottom (at (point_after (spot d) c.n false) (ran d)) (head_at a.words c (j + d)) (let f = ran_few d in omega arith)

      before_last : (d : ℕ) → d ≤ more → turns z t xs ys d (at (spot 0) b) ≡ at (spot d) (ran d)
      unfolding turns taken_run
      before_last zero l = refl
      before_last (suc d) l =
          let ih : turns z t xs ys d (at (spot 0) b) ≡ at (spot d) (ran d) = before_last d (omega arith) in
          let s : j + d + 1 ≡ j + suc d = omega arith in
          if_false _ _ _ (ap (idle z t xs ys) ih ∙ awake d) ∙ (ap (turn z t xs ys) ih ∙ (fills d (omega arith)
          ∙ (filled_not z (at (point_after (spot d) c.n false) (ran (suc d))) (let f = ran_few (suc d) in omega arith)
          ∙ (ap (λ (p : Point). at p (ran (suc d))) (after_within (spot d) c.n (omega arith)) ∙ ap (λ (k : ℕ). at (record { i = i; j = k }) (ran (suc d))) s))))

      run_turns : turns z t xs ys (suc more) (at (spot 0) b) ≡ filled z (at (point_after (spot more) c.n false) (ran (suc more)))
      unfolding turns
      run_turns =
          let ih : turns z t xs ys more (at (spot 0) b) ≡ at (spot more) (ran more) = before_last more (omega arith) in
          if_false _ _ _ (ap (idle z t xs ys) ih ∙ awake more) ∙ (ap (turn z t xs ys) ih ∙ fills more (omega arith))

    module _ (o : Option Head) (e : ℕ) where
      -- a record that comes before the other side's next, and whose block does not follow as it stands, is gathered
      abbrev pub Goes : Type 0
      Goes = (d : ℕ) (u : Buffer) → first (Some (head_at a.words c (j + d))) o ≡ true → follows z t.bottom a.words (head_at a.words c (j + d)) o u.n e ≡ false
          → turn z t xs ys (at (spot d) u) ≡ gathered z t.bottom (at (point_after (spot d) c.n false) u) (head_at a.words c (j + d))

      one_goes : (room more : ℕ) → Goes → first (Some (head_at a.words c j)) o ≡ true → follows z t.bottom a.words (head_at a.words c j) o b.n e ≡ false
          → Ahead a.words (head_at a.words c j) o j room more → One more
      unfolding taken_run
      one_goes room more g f w k zero l =
          let s : j ≡ j + zero = omega arith in
          g zero b (subst (λ (v : ℕ). first (Some (head_at a.words c v)) o ≡ true) s f) (subst (λ (v : ℕ). follows z t.bottom a.words (head_at a.words c v) o b.n e ≡ false) s w)
      one_goes room more g f w k (suc d) l = g (suc d) (ran (suc d)) (k.below (suc d) (omega arith) l) (follows_late z t.bottom a.words c (j + suc d) o (ran (suc d)).n e (omega arith))

      -- a run is as many turns as it has records
      pub side_run : (y : Head) → y ≡ head_at a.words c j → (room more : ℕ) → Goes → ((d : ℕ) → idle z t xs ys (at (spot d) (ran d)) ≡ false) → b.n + more < z.b
          → first (Some y) o ≡ true → follows z t.bottom a.words y o b.n e ≡ false → Ahead a.words y o j room more
          → filled z (at (point_after (spot more) y.n false) (taken_run a.words t.bottom y j b (suc more))) ≡ turns z t xs ys (suc more) (at (record { i = i; j = j }) b)
      side_run y h room more g awake r =
          subst (λ (v : Head). first (Some v) o ≡ true → follows z t.bottom a.words v o b.n e ≡ false → Ahead a.words v o j room more
          → filled z (at (point_after (spot more) v.n false) (taken_run a.words t.bottom v j b (suc more))) ≡ turns z t xs ys (suc more) (at (record { i = i; j = j }) b)) (sym h)
          (λ f w k.
          let s : j + 0 ≡ j = omega arith in
          sym (run_turns more (one_goes room more g f w k) awake r k.inside) ∙ ap (λ (v : ℕ). turns z t xs ys (suc more) (at (record { i = i; j = v }) b)) s)

module _ (z : Offsets) (t : Inputs) (xs ys : List ℕ) (a : Memory) where
  abbrev pub p : Point
  p = a.st.x

  abbrev pub q : Point
  q = a.st.y

  abbrev pub n : ℕ
  n = a.st.buf.n

  abbrev pub x : Option Head
  x = head_of z t.pages a.words xs p.i p.j t.x

  abbrev pub y : Option Head
  y = head_of z false a.words ys q.i q.j t.y

  abbrev pub e : ℕ
  e = last_size z a.words a.out a.st.m

  abbrev pub next : Option Move
  next = chosen z t.bottom a.words p q x y n e

  lower_goes : q.i < t.y → Goes z t xs ys a (λ (v : Point). p) (λ (v : Point). v) (chunk_of z false a.words ys q.i) q.i q.j a.st.buf x e
  unfolding turn emitted
  lower_goes l d u f w =
      let s : Memory = at z t xs ys a (λ (v : Point). p) (λ (v : Point). v) (record { i = q.i; j = q.j + d }) u in
      let g : Point = record { i = q.i; j = q.j + d } in
      let h : Head = head_at a.words (chunk_of z false a.words ys q.i) (q.j + d) in
      ap (λ (v : Option Head). moved_on z t.bottom s (chosen z t.bottom a.words p g x v u.n e)) (head_is z false a.words ys q.i (q.j + d) t.y l)
      ∙ (ap (moved_on z t.bottom s) (chosen_lower z t.bottom a.words p g x (Some h) h u.n e refl f)
      ∙ ap (λ (v : Option ℕ). emitted z t.bottom s (record { x = p; y = point_after g h.n (is_some v); head = h; whole = v })) (not_at z t.bottom a.words h x u.n e w))

  upper_goes : p.i < t.x → Goes z t xs ys a (λ (v : Point). v) (λ (v : Point). q) (chunk_of z t.pages a.words xs p.i) p.i p.j a.st.buf y e
  unfolding turn emitted
  upper_goes l d u f w =
      let s : Memory = at z t xs ys a (λ (v : Point). v) (λ (v : Point). q) (record { i = p.i; j = p.j + d }) u in
      let g : Point = record { i = p.i; j = p.j + d } in
      let h : Head = head_at a.words (chunk_of z t.pages a.words xs p.i) (p.j + d) in
      ap (λ (v : Option Head). moved_on z t.bottom s (chosen z t.bottom a.words g q v y u.n e)) (head_is z t.pages a.words xs p.i (p.j + d) t.x l)
      ∙ (ap (moved_on z t.bottom s) (chosen_upper z t.bottom a.words g q (Some h) y h u.n e refl (first_not (Some h) y f) f)
      ∙ ap (λ (v : Option ℕ). emitted z t.bottom s (record { x = point_after g h.n (is_some v); y = q; head = h; whole = v })) (not_at z t.bottom a.words h y u.n e w))

  -- where nothing comes both sides are used up
  pub sleeps : next ≡ None → idle z t xs ys a ≡ true
  sleeps s =
      let o = chosen_none z t.bottom a.words p q x y n e s in
      idle_of z t xs ys a (head_none z t.pages a.words xs p.i p.j t.x o.0) (head_none z false a.words ys q.i q.j t.y o.1)

  module _ (c : Move) (s : next ≡ Some c) where
    x_live : (h : Head) → x ≡ Some h → (p.i < t.x) × (head_at a.words (chunk_of z t.pages a.words xs p.i) p.j ≡ h)
    x_live h r = head_reads z t.pages a.words xs p.i p.j t.x h r

    y_live : (h : Head) → y ≡ Some h → (q.i < t.y) × (head_at a.words (chunk_of z false a.words ys q.i) q.j ≡ h)
    y_live h r = head_reads z false a.words ys q.i q.j t.y h r

    awake : idle z t xs ys a ≡ false
    awake =
        let left : (h : Head) → x ≡ Some h → idle z t xs ys a ≡ false = λ h r. and_no _ _ (lt-leb t.x p.i (x_live h r).0) in
        chosen_by z t.bottom a.words p q (λ (m : Move). idle z t xs ys a ≡ false) x y n e c s (λ i r f. and_none (leb t.x p.i) _ (lt-leb t.y q.i (y_live i r).0)) (λ h r f g. left h r) (λ h i r v f g. left h r)

    pub lower_is : first y x ≡ true → (y ≡ Some c.head) × (c ≡ lower_move z t.bottom a.words p q c.head x n e)
    lower_is = lower_first z t.bottom a.words p q x y n e c s

    pub upper_is : first y x ≡ false → first x y ≡ true → (x ≡ Some c.head) × (c ≡ upper_move z t.bottom a.words p q c.head y n e)
    upper_is = upper_first z t.bottom a.words p q x y n e c s

    tie_is : first y x ≡ false → first x y ≡ false → x ≡ Some c.head
    tie_is = both_first z t.bottom a.words p q x y n e c s

    one_turn : emitted z t.bottom a c ≡ turns z t xs ys 1 a
    unfolding turn turns
    one_turn = sym (ap (moved_on z t.bottom a) s) ∙ sym (if_false (idle z t xs ys a) a (turn z t xs ys a) awake)

    -- a block that follows, and a record that comes alone, take one turn
    whole_turn : is_some c.whole ≡ true → emitted_run z t.bottom a (record { next = c; from = 0; more = 0 }) ≡ turns z t xs ys 1 a
    unfolding emitted emitted_run
    whole_turn w = reuses c.whole _ _ _ w ∙ one_turn

    tie_turn : n < z.b → is_some c.whole ≡ false → first y x ≡ false → first x y ≡ false → emitted_run z t.bottom a (record { next = c; from = p.j; more = 0 }) ≡ turns z t xs ys 1 a
    unfolding emitted emitted_run
    tie_turn l w f g =
        let b : Memory = moved a c.x c.y in
        let h : c.head ≡ head_at a.words (chunk_of z t.pages a.words xs p.i) p.j = sym (x_live c.head (tie_is f g)).1 in
        gathers c.whole _ _ w ∙ (ap (λ (u : Buffer). filled z (with_progress b (with_buffer b.st u))) (run_one a.words t.bottom c.head (chunk_of z t.pages a.words xs p.i) p.j a.st.buf h)
        ∙ (sym (gather_fills z t.bottom b c.head l) ∙ (sym (gathers c.whole _ _ w) ∙ one_turn)))

    -- a move of one side that gathers: past one record
    lower_one : is_some c.whole ≡ false → first y x ≡ true → (follows z t.bottom a.words c.head x n e ≡ false) × (c ≡ record { x = p; y = point_after q c.head.n false; head = c.head; whole = None })
    lower_one w f =
        let m = (lower_is f).1 in
        let k = sym (follows_some z t.bottom a.words c.head x n e) ∙ (sym (ap (λ (v : Move). is_some v.whole) m) ∙ w) in
        (k, m ∙ ap (λ (v : Option ℕ). record { x = p; y = point_after q c.head.n (is_some v); head = c.head; whole = v }) (not_at z t.bottom a.words c.head x n e k))

    upper_one : is_some c.whole ≡ false → first y x ≡ false → first x y ≡ true → (follows z t.bottom a.words c.head y n e ≡ false) × (c ≡ record { x = point_after p c.head.n false; y = q; head = c.head; whole = None })
    upper_one w u f =
        let m = (upper_is u f).1 in
        let k = sym (follows_some z t.bottom a.words c.head y n e) ∙ (sym (ap (λ (v : Move). is_some v.whole) m) ∙ w) in
        (k, m ∙ ap (λ (v : Option ℕ). record { x = point_after p c.head.n (is_some v); y = q; head = c.head; whole = v }) (not_at z t.bottom a.words c.head y n e k))

    lower_turns : (more : ℕ) → n < z.b → is_some c.whole ≡ false → first y x ≡ true → Ahead a.words c.head x q.j (z.b - n - 1) more
        → emitted_run z t.bottom a (along_y q c more) ≡ turns z t xs ys (suc more) a
    unfolding emitted_run
    lower_turns more l w f k =
        let o = lower_one w f in
        let r = (lower_is f).0 in
        let g = y_live c.head r in
        ap (λ (m : Move). emitted_run z t.bottom a (record { next = record { x = m.x; y = point_after (further q more) c.head.n false; head = c.head; whole = m.whole }; from = q.j; more = more })) o.1
        ∙ side_run z t xs ys a (λ (v : Point). p) (λ (v : Point). v) (chunk_of z false a.words ys q.i) q.i q.j a.st.buf x e c.head (sym g.1)
        (z.b - n - 1) more (lower_goes g.0) (λ d. awake) (let h = k.fits in omega arith) (sym (ap (λ (v : Option Head). first v x) r) ∙ f) o.0 k

    upper_turns : (more : ℕ) → n < z.b → is_some c.whole ≡ false → first y x ≡ false → first x y ≡ true → Ahead a.words c.head y p.j (z.b - n - 1) more
        → emitted_run z t.bottom a (along_x p c more) ≡ turns z t xs ys (suc more) a
    unfolding emitted_run
    upper_turns more l w u f k =
        let o = upper_one w u f in
        let r = (upper_is u f).0 in
        let g = x_live c.head r in
        ap (λ (m : Move). emitted_run z t.bottom a (record { next = record { x = point_after (further p more) c.head.n false; y = m.y; head = c.head; whole = m.whole }; from = p.j; more = more })) o.1
        ∙ side_run z t xs ys a (λ (v : Point). v) (λ (v : Point). q) (chunk_of z t.pages a.words xs p.i) p.i p.j a.st.buf y e c.head (sym g.1)
        (z.b - n - 1) more (upper_goes g.0) (λ d. awake) (let h = k.fits in omega arith) (sym (ap (λ (v : Option Head). first v y) r) ∙ f) o.0 k

    -- the place where a block follows is its place
    whole_low : Readable z t.pages a.words xs p.i p.j t.x → Readable z false a.words ys q.i q.j t.y → (k : ℕ) → c.whole ≡ Some k → k < 8192
    whole_low kx ky =
        chosen_by z t.bottom a.words p q (λ (m : Move). (k : ℕ) → m.whole ≡ Some k → k < 8192) x y n e c s
        (λ i r f k w. (head_ok z false a.words ys q.i q.j t.y ky i r).whole k (place_of_start (follows z t.bottom a.words i x n e) i.whole k w))
        (λ h r f g k w. (head_ok z t.pages a.words xs p.i p.j t.x kx h r).whole k (place_of_start (follows z t.bottom a.words h y n e) h.whole k w)) (λ h i r v f g k w. absurd (cc))

    -- what the code makes of the next move
    abbrev pub Grown : Run → Type 0
    Grown r = Grows a.words p q x y c (z.b - n - 1) r

    module _ (r : Run) (k : Grown r) where
      by_cases : (P : Run → Type 0) → (is_some c.whole ≡ true → P (record { next = c; from = 0; more = 0 }))
          → (is_some c.whole ≡ false → first y x ≡ true → P (along_y q c r.more))
          → (is_some c.whole ≡ false → first y x ≡ false → first x y ≡ true → P (along_x p c r.more))
          → (is_some c.whole ≡ false → first y x ≡ false → first x y ≡ false → P (record { next = c; from = p.j; more = 0 })) → P r
      by_cases P f g h i = subst P (sym k.same) (grown_cases P p q x y c r.more f g h i)

      -- what a step makes of a move is some turns
      pub grows_turns : n < z.b → emitted_run z t.bottom a r ≡ turns z t xs ys (suc r.more) a
      grows_turns l =
          by_cases (λ (v : Run). emitted_run z t.bottom a v ≡ turns z t xs ys (suc v.more) a) whole_turn (λ w f. lower_turns r.more l w f (k.lower w f))
          (λ w u f. upper_turns r.more l w u f (k.upper w u f)) (tie_turn l)

      pub grows_low : Readable z t.pages a.words xs p.i p.j t.x → Readable z false a.words ys q.i q.j t.y → (i : ℕ) → r.next.whole ≡ Some i → i < 8192
      grows_low kx ky = let l = whole_low kx ky in by_cases (λ (v : Run). (i : ℕ) → v.next.whole ≡ Some i → i < 8192) (λ w. l) (λ w f. l) (λ w u f. l) (λ w u f. l)

      -- the records of the run lie in the store
      pub grows_runnable : Gatherable z a.st → ((h : Head) → x ≡ Some h → Standing a.words p h) → ((h : Head) → y ≡ Some h → Standing a.words q h)
          → is_some r.next.whole ≡ false → Runnable z a.words a.st r
      grows_runnable gs sx sy =
          by_cases (λ (v : Run). is_some v.next.whole ≡ false → Runnable z a.words a.st v) (λ w v. absurd (true≢false (sym w ∙ v)))
          (λ w f v. let o = k.lower w f in runnable_at z a.words a.st _ q c.head r.more refl (sy c.head (lower_is f).0) o.inside (let h = o.fits in let l = gs.few in omega arith) gs.bits)
          (λ w u f v. let o = k.upper w u f in runnable_at z a.words a.st _ p c.head r.more refl (sx c.head (upper_is u f).0) o.inside (let h = o.fits in let l = gs.few in omega arith) gs.bits)
          (λ w u f v. let h = sx c.head (tie_is u f) in runnable_at z a.words a.st _ p c.head 0 refl h (let i = h.inside in omega arith) (let l = gs.few in omega arith) gs.bits)

-- what step asks of a side that has a record
pub standing : (z : Offsets) (pages : Bool) (ws list : List ℕ) (p : Point) (end : ℕ) → Readable z pages ws list p.i p.j end → (h : Head) → head_of z pages ws list p.i p.j end ≡ Some h → Standing ws p h
standing z pages ws list p end k h s =
    record { low = (head_some z pages ws list p.i p.j end k h s).0; inside = head_inside z pages ws list p.i p.j end k h s; count = (head_ok z pages ws list p.i p.j end k h s).n; row = head_row z pages ws list p.i p.j end k h s }
