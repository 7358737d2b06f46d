-- "Why a call is turned down": 0 is the answer of a legal geometry, the layout's length and words that pass the form check.
use Prim.Native.Nat.{ℕ, ◌≤◌}
use mathlib.Core.Path.{◌≡◌, refl, sym, ap, ◌∙◌, subst}
use mathlib.Core.Bool.{Bool, true, false}
use mathlib.Core.List.{List}
use native.Mathlib.Omega.{arith}
use lib.Dec.{eqb}
use lib.ListN.{length}
use borrow.Author.Tests.{eqb-true, eqb-false}
use Rattle.layout.specs.declared.Layout.{Layout}
use Rattle.layout.specs.Layouts.{old, size_reason, Proper}
use Rattle.layout.proofs.Laws.{six_before}
use Rattle.layout.proofs.Old.{old_proper}
use Rattle.layout.proofs.Opening.{size_most}
pub use Rattle.layout.proofs.Opening.{size_none, size_legal}
use Rattle.levels.specs.Record.{Block}
use Rattle.levels.specs.Store.{Store}
use Rattle.levels.specs.Every.{Every}
use Rattle.pieces.specs.Pieces.{Held}
use Rattle.levels.specs.Sound.{Fits, Sound}
use Rattle.words.specs.Stores.{geometry_from, geometry_at, layout_at, top_count_at, store_at, pieces, with_store, with_blocks}
use Rattle.words.specs.Form.{formed, reason_of}
use Rattle.words.specs.Passed.{Passed, Standing}
use Rattle.words.proofs.Blocks.{blocks_before}
use Rattle.words.proofs.State.{six_same, with_six, with_length, with_held, top_count_held}
use Rattle.words.proofs.Form.{formed_clauses, clauses_fits, clauses_standing, clauses_sound, formed_back, write_back}

-- the layout of lent words
pub layout_geometry : (ws : List ℕ) → (layout_at ws).geo ≡ geometry_at ws
unfolding layout_at old
layout_geometry ws = refl

pub layout_same : (us ws : List ℕ) → geometry_at us ≡ geometry_at ws → layout_at us ≡ layout_at ws
unfolding layout_at
layout_same us ws e = ap old e

layout_seen : (xs us ws : List ℕ) → geometry_from xs (layout_at ws).six ≡ geometry_from us (layout_at ws).six → geometry_at xs ≡ geometry_at us
unfolding layout_at old
layout_seen xs us ws e = e

layout_legal : (ws : List ℕ) → size_reason (length ws) (geometry_at ws) ≡ 0 → Proper (layout_at ws) × (length ws ≡ (layout_at ws).length)
unfolding layout_at
layout_legal ws e = let k = size_legal (length ws) (geometry_at ws) e in (old_proper (geometry_at ws) k.0, k.1)

layout_fits : (ws : List ℕ) → Proper (layout_at ws) → length ws ≡ (layout_at ws).length → size_reason (length ws) (geometry_at ws) ≡ 0
unfolding layout_at old
layout_fits ws k l = size_none (length ws) (geometry_at ws) k.valid l

-- and reason 4
pub reason_none : (ws : List ℕ) → Proper (layout_at ws) → length ws ≡ (layout_at ws).length → formed (layout_at ws) ws ≡ true → reason_of ws ≡ 0
unfolding reason_of
reason_none ws k l f = rw (layout_fits ws k l, reason_of, f, reason_of)

pub reason_formed : (ws : List ℕ) → reason_of ws ≡ 0 → Proper (layout_at ws) × (length ws ≡ (layout_at ws).length) × (formed (layout_at ws) ws ≡ true)
unfolding reason_of
reason_formed ws e = go (size_reason (length ws) (geometry_at ws)) (formed (layout_at ws) ws) (eqb (size_reason (length ws) (geometry_at ws)) 0) refl refl refl e
  where
    go : (r : ℕ) (t u : Bool) → size_reason (length ws) (geometry_at ws) ≡ r → formed (layout_at ws) ws ≡ t → eqb r 0 ≡ u → ◌≡◌ {A = ℕ} (elim u [ true ↦ elim t [ true ↦ 0 | false ↦ 4 ] | false ↦ r ]) 0
        → Proper (layout_at ws) × (length ws ≡ (layout_at ws).length) × (formed (layout_at ws) ws ≡ true)
    go r true true a f b z = let k = layout_legal ws (a ∙ eqb-true r 0 b) in (k.0, k.1, f)
    go r false true a f b z = absurd (omega arith)
    go r t false a f b z = absurd (eqb-false r 0 b z)

-- the last reason that words are turned down for is 4
pub reason_most : (ws : List ℕ) → reason_of ws ≤ 4
unfolding reason_of
reason_most ws = go (eqb (size_reason (length ws) (geometry_at ws)) 0) (formed (layout_at ws) ws)
  where
    go : (u t : Bool) → ◌≤◌ (elim u [ true ↦ elim t [ true ↦ 0 | false ↦ 4 ] | false ↦ size_reason (length ws) (geometry_at ws) ]) 4
    go true true = omega arith
    go true false = omega arith
    go false t = omega (arith, size_most (length ws) (geometry_at ws))

-- what the form check says of words of any proper layout that have its geometry
pub formed_passed : (z : Layout) (ws : List ℕ) → Proper z → length ws ≡ z.length → geometry_from ws z.six ≡ z.geo → formed z ws ≡ true → Passed z ws
formed_passed z ws k l g f =
    let c = formed_clauses z ws f in
    record {
      proper = k;
      long = l;
      six = g;
      fits = clauses_fits z ws k l c;
      standing = clauses_standing z ws k l c;
      sound = clauses_sound z ws k l c;
      written = write_back z ws k l f;
    }

layout_own : (ws : List ℕ) → geometry_from ws (layout_at ws).six ≡ (layout_at ws).geo
unfolding layout_at old
layout_own ws = refl

pub reason_passed : (ws : List ℕ) → reason_of ws ≡ 0 → Passed (layout_at ws) ws
reason_passed ws e = let k = reason_formed ws e in formed_passed (layout_at ws) ws k.0 k.1 (layout_own ws) k.2

-- The geometry's words stay where a store is written, and where blocks are.
pub with_geometry : (ws us : List ℕ) (s : Store) → Proper (layout_at ws) → Fits (layout_at ws).geo s → length us ≡ (layout_at ws).length → geometry_at us ≡ geometry_at ws → geometry_at (with_store (layout_at ws) s us) ≡ geometry_at ws
with_geometry ws us s k f l e = layout_seen (with_store (layout_at ws) s us) us ws (with_six (layout_at ws) s us k f l) ∙ e

pub blocks_geometry : (ws : List ℕ) (bs : List Block) → Proper (layout_at ws) → length ws ≡ (layout_at ws).length → geometry_at (with_blocks (layout_at ws) bs ws) ≡ geometry_at ws
blocks_geometry ws bs k l =
    let z : Layout = layout_at ws in
    layout_seen (with_blocks z bs ws) ws ws (six_same (with_blocks z bs ws) ws z.six (blocks_before z k z.six 6 bs ws l (six_before z k)))

-- "Check": no reason to turn the words of a sound store down
pub reason_back : (ws us : List ℕ) (s : Store) → Proper (layout_at ws) → geometry_at us ≡ geometry_at ws → length us ≡ (layout_at ws).length → Fits (layout_at ws).geo s → Standing (layout_at ws) us s.levels → Sound (layout_at ws).geo s → reason_of (with_store (layout_at ws) s us) ≡ 0
reason_back ws us s k g l f d o =
    let z : Layout = layout_at ws in
    let xs : List ℕ = with_store z s us in
    let e : layout_at xs ≡ z = layout_same xs ws (with_geometry ws us s k f l g) in
    reason_none xs (subst Proper (sym e) k) (with_length z s us ∙ l ∙ ap (λ (y : Layout). y.length) (sym e))
    (subst (λ (y : Layout). formed y xs ≡ true) (sym e) (formed_back z s us k l f d o))

-- and back
pub passed_formed : (z : Layout) (ws : List ℕ) → Passed z ws → formed z ws ≡ true
passed_formed z ws p = subst (λ (xs : List ℕ). formed z xs ≡ true) p.written (formed_back z (store_at z ws) ws p.proper p.long p.fits p.standing p.sound)

-- words that pass hold the store that they say
pub passed_held : (z : Layout) (ws : List ℕ) → Passed z ws → Every (Held ws) (pieces z (store_at z ws))
passed_held z ws p = subst (λ (xs : List ℕ). Every (Held xs) (pieces z (store_at z ws))) p.written (with_held z (store_at z ws) ws p.proper p.fits p.long)

-- "c (records in level 0)", of words that pass
pub passed_count : (z : Layout) (ws : List ℕ) → Passed z ws → top_count_at z ws ≡ length (store_at z ws).top
passed_count z ws p = top_count_held z ws (store_at z ws) p.proper p.fits p.long (passed_held z ws p)
