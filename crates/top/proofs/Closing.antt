-- Pages leave level 0: the words of its three parts without theirs are the words of the records without theirs.
use Prim.Native.Nat.{ℕ, zero, suc, ◌+◌, ◌-◌, ◌*◌, ◌≤◌}
use mathlib.Core.Path.{◌≡◌, refl, sym, ap, ◌∙◌}
use mathlib.Core.List.{List, [], ◌∷◌, ◌++◌, map, map-append, append_assoc}
use mathlib.Core.Logic.{inr}
use native.Mathlib.Nat.{mul-le-mul_right, add-mul, zero-add, suc-add, sub-zero}
use native.Mathlib.Omega.{arith}
use lib.ListN.{length, take, drop, set, replicate, length-append, length-drop, length-map, take-append-drop}
use lib.Seq.{length-take-le, take_all, take_at, drop_at, take-append-le, drop-append-le}
use Rattle.geometry.specs.declared.Geometry.{Geometry}
use Rattle.geometry.specs.Geometry.{capacity_of, top_capacity_of}
use Rattle.layout.specs.declared.Layout.{Layout}
use Rattle.levels.specs.Record.{Rec}
use Rattle.levels.proofs.Lists.{map_take, map_drop, map_replicate}
use Rattle.pieces.specs.Pieces.{part, Piece, piece, lay_all}
use Rattle.pieces.proofs.Pieces.{lay_all_kept}
use Rattle.words.specs.Stores.{top_count_at, top_slots, top_recs, keys_of, pays_of}
use Rattle.words.proofs.Slots.{pad_recs, blank_rec}
use Rattle.words.proofs.Top.{marks_of, marks_length, marks_pad, top_slots_length}
use Rattle.top.specs.Top.{TopReady, with_slots, with_top, without, closed}
use Rattle.top.proofs.Moves.{without_length, closed_part}
use Rattle.top.proofs.Words.{slot_pieces, full_pieces, top_is, padded_is, ready_inside, ready_parts}

-- the mark words of pages in a row
marks_append : (B n m : ℕ) (xs ys : List Rec) → length xs ≡ n * B → marks_of B (n + m) (xs ++ ys) ≡ marks_of B n xs ++ marks_of B m ys
unfolding marks_of
marks_append B zero m [] ys e = rw zero-add
marks_append B zero m (x ∷ xs) ys e = absurd (omega arith)
marks_append B (suc n) m xs ys e =
    rw (suc-add n m, take-append-le B xs ys (omega arith), drop-append-le B xs ys (omega arith), marks_append B n m (drop B xs) ys (rw length-drop (omega arith)))

marks_cut : (B n m : ℕ) (S : List Rec) → n * B ≤ length S → marks_of B (n + m) S ≡ marks_of B n (take (n * B) S) ++ marks_of B m (drop (n * B) S)
marks_cut B n m S h =
    ap (marks_of B (n + m)) (sym (take-append-drop (n * B) S)) ∙ marks_append B n m (take (n * B) S) (drop (n * B) S) (length-take-le (n * B) S h)

marks_blank : (B n : ℕ) → 1 ≤ B → marks_of B n (replicate (n * B) blank_rec) ≡ replicate n 0
marks_blank B n h = simp sub-zero at (sym (marks_pad B n [] h (omega arith)))

marks_without : (B K first w : ℕ) (S : List Rec) → 1 ≤ B → length S ≡ K * B → first + w ≤ K → marks_of B K (without (first * B) (w * B) blank_rec S) ≡ without first w 0 (marks_of B K S)
marks_without B K first w S h e l =
    let m = K - (first + w) in
    let p : K ≡ first + (m + w) = omega arith in
    let q : K ≡ first + w + m = omega arith in
    let o : K ≡ first + (w + m) = omega arith in
    let i : first * B + w * B ≡ (first + w) * B = sym (add-mul first w B) in
    let x = mul-le-mul_right {m = first + w} {n = K} B l in
    let y : K * B ≡ (first + w) * B + m * B = ap (λ (n : ℕ). n * B) q ∙ add-mul (first + w) m B in
    let d : length (drop ((first + w) * B) S) ≡ m * B = rw (length-drop, e) (omega (arith, y)) in
    let a : length (take (first * B) S) ≡ first * B = length-take-le (first * B) S (omega arith) in
    let t : take first (marks_of B K S) ≡ marks_of B first (take (first * B) S) = ap (λ (n : ℕ). take first (marks_of B n S)) o ∙ ap (take first) (marks_cut B first (w + m) S (omega arith)) ∙ take_at (marks_of B first (take (first * B) S)) _ first (marks_length B first (take (first * B) S)) in
    let u : drop (first + w) (marks_of B K S) ≡ marks_of B m (drop ((first + w) * B) S) = ap (λ (n : ℕ). drop (first + w) (marks_of B n S)) q ∙ ap (drop (first + w)) (marks_cut B (first + w) m S (omega arith)) ∙ drop_at (marks_of B (first + w) (take ((first + w) * B) S)) _ (first + w) (marks_length B (first + w) (take ((first + w) * B) S)) in
    ap (λ (n : ℕ). marks_of B n (without (first * B) (w * B) blank_rec S)) p
    ∙ rw (i, marks_append B first (m + w) (take (first * B) S) (drop ((first + w) * B) S ++ replicate (w * B) blank_rec) a, marks_append B m w (drop ((first + w) * B) S) (replicate (w * B) blank_rec) d, marks_blank B w h, t, u)

map_without : (f : Rec → ℕ) (at gap : ℕ) (S : List Rec) → f blank_rec ≡ 0 → map f (without at gap blank_rec S) ≡ without at gap 0 (map f S)
map_without f at gap S e =
    map-append f (take at S) (drop (at + gap) S ++ replicate gap blank_rec)
    ∙ rw (map_take f at S, map-append f (drop (at + gap) S) (replicate gap blank_rec), map_drop f (at + gap) S, map_replicate f gap blank_rec, e)

-- what is left
pub closing_room : (g : Geometry) (first w : ℕ) → first + w ≤ capacity_of g 0 → first * g.b + w * g.b ≤ top_capacity_of g
unfolding top_capacity_of
closing_room g first w h = omega (arith, add-mul first w g.b, mul-le-mul_right g.b h)

module _ (z : Layout) (ws : List ℕ) (t : TopReady z ws) (first w : ℕ) (l : first + w ≤ capacity_of z.geo 0) where
  abbrev S : List Rec
  S = top_slots z ws

  abbrev B : ℕ
  B = z.geo.b

  abbrev K : ℕ
  K = capacity_of z.geo 0

  abbrev T : ℕ
  T = top_capacity_of z.geo

  abbrev left : List Rec
  left = without (first * B) (w * B) blank_rec S

  abbrev three : List ℕ → List ℕ
  three us = closed (closed (closed us z.marks K first w) z.keys T (first * B) (w * B)) z.pays T (first * B) (w * B)

  long : length S ≡ T
  long = top_slots_length z ws

  room : first * B + w * B ≤ T
  room = closing_room z.geo first w l

  left_long : length left ≡ T
  left_long = without_length (first * B) (w * B) blank_rec S (rw long room) ∙ long

  -- the pieces of what is left are those that were there, without the pages
  left_pieces : slot_pieces z left ≡ piece z.marks (without first w 0 (marks_of B K S)) ∷ piece z.keys (without (first * B) (w * B) 0 (keys_of S)) ∷ piece z.pays (without (first * B) (w * B) 0 (pays_of S)) ∷ []
  unfolding top_capacity_of
  left_pieces =
      rw (marks_without B K first w S (let b = t.proper.valid.ranged.b_low in omega arith) long l, map_without (λ (r : Rec). r.key) (first * B) (w * B) S refl, map_without (λ (r : Rec). r.pay) (first * B) (w * B) S refl)

  -- three parts closed
  closed_slots : three ws ≡ with_slots z ws left
  unfolding with_slots lay_all
  closed_slots =
      let k = t.proper in
      let i = ready_inside z ws t in
      let o = ready_parts z ws t in
      let M = piece z.marks (without first w 0 (marks_of B K S)) in
      let N = piece z.keys (without (first * B) (w * B) 0 (keys_of S)) in
      let lm : length M.words ≡ K = without_length first w 0 (marks_of B K S) (rw marks_length l) ∙ marks_length B K S in
      let lk : length (keys_of S) ≡ T = length-map S _ ∙ long in
      let lv : length (pays_of S) ≡ T = length-map S _ ∙ long in
      let ln : length N.words ≡ T = without_length (first * B) (w * B) 0 (keys_of S) (rw lk room) ∙ lk in
      let em : part ws z.marks K ≡ marks_of B K S = rw marks_length at o.0 in
      let ek : part ws z.keys T ≡ keys_of S = rw lk at o.1.0 in
      let ev : part ws z.pays T ≡ pays_of S = rw lv at o.1.1.0 in
      ap (λ (us : List ℕ). closed (closed us z.keys T (first * B) (w * B)) z.pays T (first * B) (w * B)) (closed_part ws (marks_of B K S) z.marks K first w em)
      ∙ ap (λ (us : List ℕ). closed us z.pays T (first * B) (w * B))
      (closed_part (lay_all (M ∷ []) ws) (keys_of S) z.keys T (first * B) (w * B) (lay_all_kept (M ∷ []) ws z.keys T i.keys (inr (omega (arith, lm, k.marks_keys)), tt) ∙ ek))
      ∙ closed_part (lay_all (M ∷ N ∷ []) ws) (pays_of S) z.pays T (first * B) (w * B)
      (lay_all_kept (M ∷ N ∷ []) ws z.pays T i.pays (inr (omega (arith, lm, k.marks_keys, k.keys_pays)), (inr (omega (arith, ln, k.keys_pays)), tt)) ∙ ev)
      ∙ ap (λ (ps : List Piece). lay_all ps ws) (sym (full_pieces z k left left_long ∙ left_pieces))

  abbrev kept : List Rec
  kept = take (first * B) (top_recs z ws) ++ drop ((first + w) * B) (top_recs z ws)

  module _ (full : top_count_at z ws ≡ top_capacity_of z.geo) where
    top_all : top_recs z ws ≡ S
    unfolding top_recs
    top_all = take_all (top_count_at z ws) S (omega (arith, long, full))

    kept_count : length kept ≡ T - w * B
    kept_count =
        let x = add-mul first w B in
        rw (top_all, length-append, length-drop, long, length-take-le (first * B) S (omega (arith, long, room))) (omega (arith, room, x))

    kept_slots : pad_recs T kept ≡ left
    kept_slots =
        let e : T - (T - w * B) ≡ w * B = omega (arith, room) in
        rw (kept_count, e, top_all, add-mul first w B) (append_assoc (take (first * B) S) (drop (first * B + w * B) S) (replicate (w * B) blank_rec))

    -- and c set
    pub closed_top : set (three ws) z.count (T - w * B) ≡ with_top z ws kept
    closed_top =
        let n : length kept ≤ T = rw kept_count (omega arith) in
        rw (closed_slots, ← kept_slots, padded_is z t.proper ws kept n, ← kept_count) (top_is z t.proper ws kept n)
