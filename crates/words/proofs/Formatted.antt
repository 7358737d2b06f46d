-- "Format": the words that it leaves hold the empty store, and pass the form check.
use Prim.Native.Nat.{ℕ, zero, suc, ◌+◌, ◌-◌, ◌≤◌, ◌<◌}
use mathlib.Core.Path.{◌≡◌, refl, sym, ap, ◌∙◌, subst}
use mathlib.Core.Bool.{Bool, true, false}
use mathlib.Core.List.{List, [], ◌∷◌, map}
use mathlib.Core.Logic.{◌≢◌, ◌⊎◌, inl, inr}
use native.Mathlib.Omega.{arith}
use lib.Dec.{eqb}
use lib.ListN.{length, replicate, length-replicate}
use borrow.Author.Tests.{eqb-true, eq-eqb, ne_eqb}
use Rattle.geometry.specs.declared.Geometry.{Geometry}
use Rattle.geometry.specs.Geometry.{Valid, capacity_of, top_capacity_of, key_limit_of}
use Rattle.layout.specs.declared.Layout.{Layout}
use Rattle.layout.specs.Layouts.{old, list_start, size_reason, Proper}
use Rattle.layout.proofs.Laws.{lists_first, list_next, six_before, hand_before, places_before}
use Rattle.layout.proofs.Old.{old_proper}
use Rattle.levels.specs.Basics.{all}
use Rattle.levels.specs.Record.{Level}
use Rattle.levels.specs.Store.{Store, empty_store}
use Rattle.levels.specs.Every.{Every}
use Rattle.levels.specs.Sound.{Fits, Sound}
use Rattle.levels.proofs.Every.{all_append}
use Rattle.levels.proofs.Lists.{get_d_replicate_self}
use Rattle.levels.proofs.Empty.{empty_blocks, empty_fits, empty_sound}
use Rattle.pieces.specs.Pieces.{Piece, piece, Held, Clear, Within}
use Rattle.pieces.proofs.Pieces.{lay_all_length, lay_all_here, lay_all_kept}
use Rattle.words.specs.Stores.{geometry_from, geometry_at, layout_at, pad, place_of, store_at, list_pieces, pieces, with_store}
use Rattle.words.specs.Form.{is_zero, reason_of}
use Rattle.words.specs.Calls.{Outcome, FormatAnswer, six_of, format_words, format_of}
use Rattle.words.specs.Passed.{Passed, Standing}
use Rattle.words.proofs.Parts.{part_zeros, zeros_are, zeros_pass}
use Rattle.words.proofs.State.{pieces_in, pieces_read, held_words, six_read}
use Rattle.words.proofs.Reason.{size_legal, reason_none, passed_formed, layout_geometry}

-- What format leaves of a proper layout's words: all but the six words of the geometry and hand is 0.
module _ (z : Layout) (k : Proper z) where
  abbrev headed : List Piece
  headed = piece z.six (six_of z.geo) ∷ piece z.hand ((z.geo.p - 1) ∷ []) ∷ []

  pub format_long : length (format_words z) ≡ z.length
  unfolding format_words
  format_long = lay_all_length headed (replicate z.length 0) ∙ length-replicate {A = ℕ} z.length 0

  headed_stands : Every (Held (format_words z)) headed
  unfolding format_words
  headed_stands =
      let n = length-replicate {A = ℕ} z.length 0 in
      let b = places_before z k in
      lay_all_here headed (replicate z.length 0) (omega (arith, n, six_before z k), (omega (arith, n, hand_before z k), tt)) ((inl k.six_hand, tt), (tt, tt))

  zero_held : (a : ℕ) (xs : List ℕ) → Every (Clear a (length xs)) headed → a + length xs ≤ z.length → all is_zero xs ≡ true → Held (format_words z) (piece a xs)
  unfolding format_words
  zero_held a xs c m e =
      let n = length-replicate {A = ℕ} z.length 0 in
      lay_all_kept headed (replicate z.length 0) a (length xs) (omega (arith, n)) c
      ∙ part_zeros (replicate z.length 0) (length xs) a (omega (arith, n)) (λ j b. get_d_replicate_self z.length (a + j) 0) ∙ sym (zeros_are xs e)

  -- behind hand, and so behind the six
  zero_behind : (a : ℕ) (xs : List ℕ) → z.hand < a → a + length xs ≤ z.length → all is_zero xs ≡ true → Held (format_words z) (piece a xs)
  zero_behind a xs h m e = zero_held a xs (inr (omega (arith, k.six_hand)), (inr (omega arith), tt)) m e

  -- live, before hand or behind it
  zero_live : z.live + 1 ≤ z.length → Held (format_words z) (piece z.live (0 ∷ []))
  zero_live m = zero_held z.live (0 ∷ []) (inr k.six_live, (beside k.hand_live, tt)) m refl
    where
      beside : (z.hand < z.live) ⊎ (z.live < z.hand) → Clear z.live 1 (piece z.hand ((z.geo.p - 1) ∷ []))
      beside (inl h) = inr (omega arith)
      beside (inr h) = inl (omega arith)

zero_pad : (n : ℕ) (xs : List ℕ) → all is_zero xs ≡ true → all is_zero (pad n xs) ≡ true
zero_pad n xs e = all_append is_zero xs (replicate (n - length xs) 0) e (zeros_pass (n - length xs))

zero_counts : (n : ℕ) → all is_zero (map (λ (l : Level). length l) (replicate n [])) ≡ true
zero_counts zero = refl
zero_counts (suc n) = zero_counts n

-- "every word 0 but the six of the geometry and hand = P − 1": the pieces of the empty store stand there
module _ (z : Layout) (k : Proper z) where
  zero_lists : (m i : ℕ) → z.hand < list_start z i → 1 ≤ i → Within z.length (list_pieces z i (replicate m [])) → Every (Held (format_words z)) (list_pieces z i (replicate m []))
  unfolding list_pieces
  zero_lists zero i l o w = tt
  zero_lists (suc m) i l o w =
      (zero_behind z k (list_start z i) (pad (capacity_of z.geo i) (map place_of [])) l w.0 (zero_pad (capacity_of z.geo i) [] refl), zero_lists m (suc i) (omega (arith, list_next z i o)) (omega arith) w.1)

  format_held : Within z.length (pieces z (empty_store z.geo)) → Every (Held (format_words z)) (pieces z (empty_store z.geo))
  unfolding pieces empty_store
  format_held w =
      let K : ℕ = capacity_of z.geo 0 in
      let T : ℕ = top_capacity_of z.geo in
      let c = zero_pad 3 (map (λ (l : Level). length l) (replicate z.geo.h [])) (zero_counts z.geo.h) in
      let a = k.hand_count in
      let m = k.count_marks in
      let b = k.marks_keys in
      let d = k.keys_pays in
      (zero_live z k w.0, ((headed_stands z k).1.0, (zero_behind z k z.count (0 ∷ []) a w.1.1.0 refl, (zero_behind z k (z.count + 1) (pad 3 (map (λ (l : Level). length l) (replicate z.geo.h []))) (omega arith) w.1.1.1.0 c, (zero_behind z k z.marks (pad K []) (omega arith) w.1.1.1.1.0 (zero_pad K [] refl), (zero_behind z k z.keys (pad T []) (omega arith) w.1.1.1.1.1.0 (zero_pad T [] refl), (zero_behind z k z.pays (pad T []) (omega arith) w.1.1.1.1.1.1.0 (zero_pad T [] refl), zero_lists z.geo.h 1 (omega (arith, lists_first z, k.pays_lists)) (omega arith) w.1.1.1.1.1.1.1)))))))

  format_holds : Every (Held (format_words z)) (pieces z (empty_store z.geo))
  format_holds = format_held (subst (λ (m : ℕ). Within m (pieces z (empty_store z.geo))) (format_long z k) (pieces_in z (empty_store z.geo) (format_words z) k (empty_fits z.geo) (format_long z k)))

  empty_standing : Standing z (format_words z) (empty_store z.geo).levels
  unfolding empty_store
  empty_standing = rw (empty_blocks z.geo.h) tt

  -- so they hold the empty store, and writing it changes nothing
  pub format_store : store_at z (format_words z) ≡ empty_store z.geo
  format_store = pieces_read z (format_words z) (empty_store z.geo) k (empty_fits z.geo) (format_long z k) format_holds empty_standing

  pub format_words_lem : with_store z (empty_store z.geo) (format_words z) ≡ format_words z
  format_words_lem = held_words z (format_words z) (empty_store z.geo) format_holds

  pub format_six : geometry_from (format_words z) z.six ≡ z.geo
  format_six = six_read (format_words z) z.six z.geo (headed_stands z k).0

  pub format_passed : Passed z (format_words z)
  format_passed =
      let e = sym format_store in
      record {
        proper = k;
        long = format_long z k;
        six = format_six;
        fits = subst (Fits z.geo) e (empty_fits z.geo);
        standing = subst (λ (s : Store). Standing z (format_words z) s.levels) e empty_standing;
        sound = subst (Sound z.geo) e (empty_sound z.geo k.valid);
        written = subst (λ (s : Store). with_store z s (format_words z) ≡ format_words z) e format_words_lem;
      }

-- Of document 01's form: the words tell their layout.
module _ (g : Geometry) (v : Valid g) where
  format_seen : geometry_at (format_words (old g)) ≡ g
  unfolding old
  format_seen = format_six (old g) (old_proper g v)

  format_layout : layout_at (format_words (old g)) ≡ old g
  unfolding layout_at
  format_layout = ap old format_seen

  pub format_own : (layout_at (format_words (old g))).geo ≡ g
  format_own = layout_geometry (format_words (old g)) ∙ format_seen

  pub format_holds_empty : store_at (layout_at (format_words (old g))) (format_words (old g)) ≡ empty_store g
  unfolding old
  format_holds_empty = ap (λ (y : Layout). store_at y (format_words (old g))) format_layout ∙ format_store (old g) (old_proper g v)

  pub format_formed : reason_of (format_words (old g)) ≡ 0
  format_formed =
      let p : Passed (layout_at (format_words (old g))) (format_words (old g)) = subst (λ (y : Layout). Passed y (format_words (old g))) (sym format_layout) (format_passed (old g) (old_proper g v)) in
      reason_none (format_words (old g)) p.proper p.long (passed_formed (layout_at (format_words (old g))) (format_words (old g)) p)

-- format that is not turned down: its words and its geometry fit
pub format_sizes : (ws : List ℕ) (g : Geometry) → (format_of ws g).answer.reason ≡ 0 → size_reason (length ws) g ≡ 0
unfolding format_of
format_sizes ws g e = go (eqb (size_reason (length ws) g) 0) refl
  where
    go : (t : Bool) → eqb (size_reason (length ws) g) 0 ≡ t → size_reason (length ws) g ≡ 0
    go true q = eqb-true (size_reason (length ws) g) 0 q
    go false q = rw (q, format_of) at e

-- format, turned down and not
pub format_turned_down : (ws : List ℕ) (g : Geometry) → size_reason (length ws) g ≢ 0 → format_of ws g ≡ record { answer = record { reason = size_reason (length ws) g; limit = 0 }; words = ws }
unfolding format_of
format_turned_down ws g n = rw (ne_eqb (size_reason (length ws) g) 0 n, format_of)

pub format_accepted : (ws : List ℕ) (g : Geometry) → size_reason (length ws) g ≡ 0 → format_of ws g ≡ record { answer = record { reason = 0; limit = key_limit_of g }; words = format_words (old g) }
unfolding format_of
format_accepted ws g e = rw (eq-eqb (size_reason (length ws) g) 0 e, format_of)

-- what format leaves, where it is not turned down
pub format_leaves : (ws : List ℕ) (g : Geometry) → size_reason (length ws) g ≡ 0 → (format_of ws g).words ≡ format_words (old g)
format_leaves ws g e = ap (λ (o : Outcome FormatAnswer). o.words) (format_accepted ws g e)

-- as many words, and they tell the geometry
pub format_length : (ws : List ℕ) (g : Geometry) → size_reason (length ws) g ≡ 0 → length (format_of ws g).words ≡ length ws
format_length ws g e =
    let k = size_legal (length ws) g e in ap length (format_leaves ws g e) ∙ format_long (old g) (old_proper g k.0) ∙ sym k.1

pub format_geometry : (ws : List ℕ) (g : Geometry) → size_reason (length ws) g ≡ 0 → geometry_at (format_of ws g).words ≡ g
format_geometry ws g e = ap geometry_at (format_leaves ws g e) ∙ format_seen g (size_legal (length ws) g e).0

-- it passes the form check
pub format_passes : (ws : List ℕ) (g : Geometry) → size_reason (length ws) g ≡ 0 → reason_of (format_of ws g).words ≡ 0
format_passes ws g e = ap reason_of (format_leaves ws g e) ∙ format_formed g (size_legal (length ws) g e).0
