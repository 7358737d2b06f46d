-- A block of the outcome of a merge or a compaction is a block that was there, untouched, or one of those written.
use Prim.Native.Nat.{ℕ, zero, suc, ◌+◌}
use mathlib.Core.Path.{◌≡◌, refl, sym, subst}
use mathlib.Core.Bool.{Bool, true, false, ◌&&◌, true≢false}
use mathlib.Core.List.Memᴰ
use mathlib.Core.List.{List, [], ◌∷◌, ◌++◌, tail, reverse, reverse_aux, Memᴰ}
use mathlib.Core.Logic.{◌⊎◌, inl, inr}
use mathlib.Core.Option.{Option, none, some}
use native.Mathlib.Omega.{arith}
use lib.Dec.{leb, ltb, eqb}
use lib.ListN.{length, get_or, set}
use Rattle.levels.specs.Basics.{if◌then◌otherwise◌, iterate, member}
use Rattle.levels.specs.Record.{Rec, Block, Level, size, new, placed, records, first_key}
use Rattle.levels.specs.Choose.{cut_at}
use Rattle.levels.specs.Merge.{Out, State, reusable, flush, rest, head_rec, gather, from_upper, from_lower, step_on, step, join_left, join, stream, merge, close}
use Rattle.levels.specs.Place.{Allocation, first_free, settle, places_of, distinct}
use Rattle.levels.specs.Well.{Sized}
use Rattle.levels.specs.Taking.{fresh, Takes}
use Rattle.levels.specs.Every.{Every, all_blocks}
use Rattle.levels.proofs.Basics.{if_either, or_false}
use Rattle.levels.proofs.Fresh.{olds, count_all, places_olds}
use Rattle.levels.proofs.Cut.{cut_above, cut_under}
use Rattle.levels.proofs.Settling.{taking}
use Rattle.levels.proofs.Places.{times_distinct, takes_once}
use Rattle.levels.proofs.Every.{every_make, every_turn, every_append, every_split}

-- P holds of every block that has a place
abbrev pub Old : (Block → Type 0) → Level → Type 0
Old P [] = Unit {0}
Old P (b ∷ bs) = (placed b ≡ true → P b) × Old P bs

module _ (P : Block → Type 0) where
  -- a block that is to be written has none
  old_new : (rs : List Rec) (l : Level) → Old P l → Old P (new rs ∷ l)
  old_new rs l h = ((λ e. absurd (true≢false (sym e))), h)

  pub old_of_every : (l : Level) → Every P l → Old P l
  old_of_every [] h = tt
  old_of_every (b ∷ bs) h = ((λ e. h.0), old_of_every bs h.1)

  -- a level of new blocks
  pub old_fresh : (l : Level) → fresh l ≡ length l → Old P l
  old_fresh [] e = tt
  old_fresh (b ∷ bs) e = go b.place refl e (count_all bs) (old_fresh bs)
    where
      go : (p : Option ℕ) → b.place ≡ p → fresh (record { place = p; recs = b.recs } ∷ bs) ≡ suc (length bs) → fresh bs + olds bs ≡ length bs → (fresh bs ≡ length bs → Old P bs) → Old P (b ∷ bs)
      go none q e c ih = ((λ z. absurd (true≢false (sym (rw q at z)))), ih (omega arith))
      go (some p) q e c ih = absurd (omega arith)

  old_append : (k l : Level) → Old P k → Old P l → Old P (k ++ l)
  old_append [] l h i = i
  old_append (b ∷ bs) l h i = (h.0, old_append bs l h.1 i)

  old_split : (k l : Level) → Old P (k ++ l) → Old P k × Old P l
  old_split [] l h = (tt, h)
  old_split (b ∷ bs) l h = let r = old_split bs l h.1 in ((h.0, r.0), r.1)

  old_reverse : (l m : Level) → Old P l → Old P m → Old P (reverse_aux l m)
  old_reverse [] m h i = i
  old_reverse (b ∷ bs) m h i = old_reverse bs (b ∷ m) h.1 (h.0, i)

  old_flush : (rs : List Rec) (l : Level) → Old P l → Old P (flush rs l)
  old_flush [] l h = h
  old_flush (r ∷ rs) l h = old_new (r ∷ rs) l h

  old_rest : (l : Level) → Old P l → Old P (rest l)
  old_rest [] h = tt
  old_rest (b ∷ bs) h = old_flush (tail b.recs) bs h.1

  old_gather : (B : ℕ) (bottom : Bool) (r : Rec) (o : Out) → Old P o.done → Old P (gather B bottom r o).done
  old_gather B bottom r o h = go (bottom && r.tombstone) (leb B (suc (length o.buffer)))
    where
      go : (s t : Bool) → Old P (if s then o otherwise if t then record { buffer = []; done = new (o.buffer ++ (r ∷ [])) ∷ o.done } otherwise record { buffer = o.buffer ++ (r ∷ []); done = o.done }).done
      go true t = h
      go false true = old_new (o.buffer ++ (r ∷ [])) o.done h
      go false false = h

  -- through step 3: of what is left of X and of Y, and of what is done
  abbrev OldState : State → Type 0
  OldState s = Old P s.upper × Old P s.lower × Old P s.out.done

  old_upper : (B : ℕ) (bottom : Bool) (x : Block) (xs l : Level) (o : Out) → Old P (x ∷ xs) → Old P l → Old P o.done → OldState (from_upper B bottom x xs l o)
  old_upper B bottom x xs l o hx hl ho =
      if_either OldState (reusable B bottom o l x) _ _ (hx.1, hl, (hx.0, old_flush o.buffer o.done ho)) (old_rest (x ∷ xs) hx, hl, old_gather B bottom (head_rec x) o ho)

  old_lower : (B : ℕ) (bottom : Bool) (y : Block) (ys u : Level) (o : Out) → Old P (y ∷ ys) → Old P u → Old P o.done → OldState (from_lower B bottom y ys u o)
  old_lower B bottom y ys u o hy hu ho =
      if_either OldState (reusable B bottom o u y) _ _ (hu, hy.1, (hy.0, old_flush o.buffer o.done ho)) (hu, old_rest (y ∷ ys) hy, old_gather B bottom (head_rec y) o ho)

  old_step : (B : ℕ) (bottom : Bool) (u l : Level) (o : Out) → Old P u → Old P l → Old P o.done → OldState (step_on B bottom u l o)
  old_step B bottom [] [] o hu hl ho = (tt, tt, ho)
  old_step B bottom (x ∷ xs) [] o hu hl ho = old_upper B bottom x xs [] o hu hl ho
  old_step B bottom [] (y ∷ ys) o hu hl ho = old_lower B bottom y ys [] o hl hu ho
  old_step B bottom (x ∷ xs) (y ∷ ys) o hu hl ho =
      if_either OldState (ltb (first_key y.recs) (first_key x.recs)) _ _ (old_lower B bottom y ys (x ∷ xs) o hl hu ho)
      (if_either OldState (eqb (first_key y.recs) (first_key x.recs)) _ _ (old_rest (x ∷ xs) hu, old_rest (y ∷ ys) hl, old_gather B bottom (head_rec x) o ho) (old_upper B bottom x xs (y ∷ ys) o hu hl ho))

  old_steps : (B : ℕ) (bottom : Bool) (n : ℕ) (s : State) → OldState s → OldState (iterate n (step B bottom) s)
  old_steps B bottom zero s h = h
  old_steps B bottom (suc n) s h = old_steps B bottom n (step B bottom s) (old_step B bottom s.upper s.lower s.out h.0 h.1 h.2)

  -- step 4
  old_left : (B : ℕ) (rs : List Rec) (done : Level) → Old P done → Old P (join_left B rs done)
  old_left B [] done h = h
  old_left B (r ∷ rs) [] h = old_new (r ∷ rs) [] h
  old_left B (r ∷ rs) (e ∷ es) h = if_either (Old P) (leb (size e + length (r ∷ rs)) B) _ _ (old_new (e.recs ++ (r ∷ rs)) es h.1) (old_new (r ∷ rs) (e ∷ es) h)

  old_join : (B : ℕ) (done behind : Level) → Old P done → Old P behind → Old P (join B done behind)
  old_join B [] behind h i = i
  old_join B (e ∷ es) [] h i = old_reverse (e ∷ es) [] h tt
  old_join B (e ∷ es) (a ∷ bs) h i =
      if_either (Old P) (leb (size e + size a) B) (reverse_aux es (new (e.recs ++ a.recs) ∷ bs)) (reverse_aux (e ∷ es) (a ∷ bs))
      (old_reverse es (new (e.recs ++ a.recs) ∷ bs) h.1 (old_new (e.recs ++ a.recs) bs i.1)) (old_reverse (e ∷ es) (a ∷ bs) h i)

  -- "A block of the outcome that has a place is kept there": steps 3 and 4
  merge_old : (B : ℕ) (bottom : Bool) (before xs ys behind : Level) → Old P before → Old P xs → Old P ys → Old P behind → Old P (merge B bottom before xs ys behind)
  merge_old B bottom before xs ys behind hb hx hy ha =
      let s : State = record { upper = xs; lower = ys; out = record { buffer = []; done = reverse before } } in
      let k = old_steps B bottom (length (records xs) + length (records ys)) s (hx, hy, old_reverse before [] hb tt) in
      let o = (stream B bottom before xs ys).out in
      old_join B (join_left B o.buffer o.done) behind (old_left B o.buffer o.done k.2) ha

  -- step 2
  close_old : (B i : ℕ) (left right : Level) → Old P left → Old P right → Old P (close B i left right)
  close_old B zero left right h i = old_append left right h i
  close_old B (suc j) left right h i = old_join B (reverse left) right (old_reverse left [] h tt) i

  -- of a cut of two levels
  pub upper_old : (B i w first : ℕ) (above under : Level) → Old P above → let c = cut_at w first above under in Old P (close B i c.left c.right)
  upper_old B i w first above under h =
      let c = cut_at w first above under in
      let a = old_split c.left (c.run ++ c.right) (subst (Old P) (sym (cut_above w first above under)) h) in
      close_old B i c.left c.right a.0 (old_split c.run c.right a.1).1

  pub lower_old : (B w first : ℕ) (bottom : Bool) (above under : Level) → Old P above → Old P under → let c = cut_at w first above under in Old P (merge B bottom c.before c.run c.over c.behind)
  lower_old B w first bottom above under h k =
      let c = cut_at w first above under in
      let a = old_split c.left (c.run ++ c.right) (subst (Old P) (sym (cut_above w first above under)) h) in
      let b = old_split c.before (c.over ++ c.behind) (subst (Old P) (sym (cut_under w first above under)) k) in
      let d = old_split c.over c.behind b.1 in
      merge_old B bottom c.before c.run c.over c.behind b.0 (old_split c.run c.right a.1).0 d.0 d.1

  -- new blocks take places: each block is then one that had a place, or is written
  pub settled_old : (p : ℕ) (a : Allocation) (l : Level) → Old P l → Every (λ b. P b ⊎ Memᴰ b (settle p a l).written) (settle p a l).level
  unfolding settle
  settled_old p a [] h = tt
  settled_old p a (b ∷ bs) h = go b.place refl (λ c. settled_old p c bs h.1)
    where
      go : (q : Option ℕ) → b.place ≡ q → ((c : Allocation) → Every (λ d. P d ⊎ Memᴰ d (settle p c bs).written) (settle p c bs).level)
          → let r = settle p a (record { place = q; recs = b.recs } ∷ bs) in Every (λ d. P d ⊎ Memᴰ d r.written) r.level
      go none e ih = (
        inr (Memᴰ.head refl),
        every_turn (λ d. P d ⊎ Memᴰ d (settle p (taking p a) bs).written) _ (settle p (taking p a) bs).level later (ih (taking p a)),
      )
        where
          later : (d : Block) → P d ⊎ Memᴰ d (settle p (taking p a) bs).written → P d ⊎ Memᴰ d (record { place = some (first_free p a); recs = b.recs } ∷ (settle p (taking p a) bs).written)
          later d (inl m) = inl m
          later d (inr m) = inr (Memᴰ.tail m)
      go (some q) e ih = (inl (subst (λ (o : Option ℕ). P (record { place = o; recs = b.recs })) e (h.0 (rw e))), ih a)

-- every block of a level is one of all levels
pub level_mem : (ls : List Level) (j : ℕ) → Every (λ b. Memᴰ b (all_blocks ls)) (get_or ls j [])
level_mem [] j = tt
level_mem (l ∷ ls) zero = every_make (λ b. Memᴰ b (l ++ all_blocks ls)) l (λ b m. Memᴰ.append_left (all_blocks ls) m)
level_mem (l ∷ ls) (suc j) = every_turn (λ b. Memᴰ b (all_blocks ls)) (λ b. Memᴰ b (l ++ all_blocks ls)) (get_or ls j []) (λ b m. Memᴰ.append_right l m) (level_mem ls j)

-- a level replaced
pub every_set : (P : Block → Type 0) (ls : List Level) (j : ℕ) (l : Level) → Every P (all_blocks ls) → Every P l → Every P (all_blocks (set ls j l))
every_set P [] j l h k = tt
every_set P (a ∷ ls) zero l h k = every_append P l (all_blocks ls) k (every_split P a (all_blocks ls) h).1
every_set P (a ∷ ls) (suc j) l h k = let r = every_split P a (all_blocks ls) h in every_append P a (all_blocks (set ls j l)) r.0 (every_set P ls j l r.1 k)

-- the blocks written are as filled as the new ones
pub written_sized : (B p : ℕ) (a : Allocation) (l : Level) → Sized B l → Sized B (settle p a l).written
unfolding settle
written_sized B p a [] h = tt
written_sized B p a (b ∷ bs) h = go b.place (λ c. written_sized B p c bs h.2)
  where
    go : (q : Option ℕ) → ((c : Allocation) → Sized B (settle p c bs).written) → Sized B (settle p a (record { place = q; recs = b.recs } ∷ bs)).written
    go none ih = (h.0, h.1, ih (taking p a))
    go (some q) ih = ih a

-- a level whose blocks each list a place has no new block
pub all_placed : (l : Level) → length (places_of l) ≡ length l → fresh l ≡ 0
all_placed l e = omega (arith, e, places_olds l, count_all l)

-- places taken were free, and are all different
pub takes_free : (P : ℕ) (start : List ℕ) (a : Allocation) (ps : List ℕ) → ((p : ℕ) → member p a.used ≡ false → member p start ≡ false) → Takes P a ps → Every (λ p. member p start ≡ false) ps
takes_free P start a [] h t = tt
takes_free P start a (p ∷ ps) h t = (h p t.0.free, takes_free P start (record { used = p ∷ a.used; cursor = p }) ps (λ q e. h q (or_false (eqb q p) (member q a.used) e).1) t.1)

pub takes_distinct : (P : ℕ) (a : Allocation) (ps : List ℕ) → Takes P a ps → distinct ps ≡ true
takes_distinct P a ps t = times_distinct ps (takes_once P a ps t)
