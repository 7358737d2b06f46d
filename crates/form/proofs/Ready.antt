-- What a call knows of a store once `check` has answered.
use Prim.Native.Nat.{ℕ, ◌≤◌}
use mathlib.Core.Path.{◌≡◌, refl, sym, ap, ◌∙◌, subst}
use mathlib.Core.Bool.{Bool, true, false, and-eq-true_iff}
use mathlib.Core.List.{List}
use native.Mathlib.Omega.{arith}
use lib.ListN.{length}
use lib.Dec.{eqb}
use borrow.Author.Tests.{eq-eqb, ne_eqb}
use Rattle.levels.specs.Basics.{if◌then◌otherwise◌, or_else}
use Rattle.levels.specs.Map.{find, view, decides}
use Rattle.levels.specs.Store.{rows}
use Rattle.words.specs.Stores.{geometry_at, store_at, layout_at}
use Rattle.words.specs.Form.{formed, blocks_filled, reason_of}
use Rattle.std.specs.Prelude.{Ok, Err}
use Rattle.geometry.specs.declared.Refusal.{Refusal}
use Rattle.geometry.specs.declared.Refusal.TheVariants.{TooShort, BrokenLimit, WrongLength, Damaged, Full}
use Rattle.geometry.specs.Refusals.{number_of}
use Rattle.layout.specs.Opening.{pick_opened, opened_of}
use Rattle.layout.proofs.Opening.{pick_ready, pick_refused, opened_ready, opened_none, opened_refused, size_most}
use Rattle.words.proofs.Reason.{passed_formed, reason_passed}
use Rattle.directory.specs.Directory.{records_of}
use Rattle.walk.specs.Walk.{layered, AllFormed}
use Rattle.form.specs.Checked.{checked_of}
use Rattle.form.specs.Form.{Headed, lists_ok, top_of, level_of, levels_of, passed}
use Rattle.form.proofs.Clauses.{formed_is, passed_filled, formed_levels, layered_is, decides_is}
use Rattle.layout.specs.Layouts.{size_reason, Fitted}
use Rattle.layout.specs.declared.Layout.{Layout}
use Rattle.words.specs.Passed.{Passed}

-- "4. The form check finds a breach": all that is left to find of a store that is ready
pub ready_reason : (ws : List ℕ) (z : Layout) → opened_of ws ≡ Ok z → reason_of ws ≡ (if formed z ws then 0 otherwise 4)
unfolding reason_of
ready_reason ws z e =
    let q = ap (λ (y : Layout). formed y ws) (opened_ready ws z e).layout in
    rw (q, eq-eqb (size_reason (length ws) (geometry_at ws)) 0 (opened_none ws z e), reason_of) (either (formed (layout_at ws) ws))
  where
    either : (t : Bool) → ◌≡◌ {A = ℕ} (elim t [ true ↦ 0 | false ↦ 4 ]) (if t then 0 otherwise 4)
    either true = refl
    either false = refl

-- a store that is turned down here is turned down by every call
pub refused_reason : (ws : List ℕ) (r : Refusal) → opened_of ws ≡ Err r → reason_of ws ≡ number_of r
unfolding reason_of
refused_reason ws r e =
    let k = opened_refused ws r e in rw (ne_eqb (size_reason (length ws) (geometry_at ws)) 0 (λ z. omega arith), reason_of) k.0

-- no reason of a store has another number than 1 to 4
reason_most : (ws : List ℕ) → reason_of ws ≤ 4
unfolding reason_of
reason_most ws = go (size_reason (length ws) (geometry_at ws)) (size_most (length ws) (geometry_at ws)) (eqb (size_reason (length ws) (geometry_at ws)) 0) (formed (layout_at ws) ws)
  where
    go : (r : ℕ) → r ≤ 3 → (t u : Bool) → ◌≤◌ (elim t [ true ↦ elim u [ true ↦ 0 | false ↦ 4 ] | false ↦ r ]) 4
    go r h true true = omega arith
    go r h true false = omega arith
    go r h false u = omega arith

pick_number : (r : Refusal) (z : Layout) → number_of r ≤ 4 → pick_opened (number_of r) z ≡ Err r
pick_number TooShort z h = refl
pick_number BrokenLimit z h = refl
pick_number WrongLength z h = refl
pick_number Damaged z h = refl
pick_number Full z h = absurd (omega arith)

-- The answers of `check`, by what the code has found out.
pub checked_opened : (ws : List ℕ) (r : Refusal) → opened_of ws ≡ Err r → Err r ≡ checked_of ws
unfolding checked_of
checked_opened ws r e =
    let k = opened_refused ws r e in
    rw (refused_reason ws r e) (sym (pick_number r (layout_at ws) (omega (arith, k.0, size_most (length ws) (geometry_at ws)))))

pub checked_passed : (ws : List ℕ) (z : Layout) → opened_of ws ≡ Ok z → passed z ws ≡ true → Ok z ≡ checked_of ws
unfolding checked_of
checked_passed ws z e p =
    let y = opened_ready ws z e in
    let r : reason_of ws ≡ 0 = ready_reason ws z e ∙ rw (← formed_is z ws y.fitted, p) in
    rw r (ap Ok y.layout)

pub checked_broken : (ws : List ℕ) (z : Layout) → opened_of ws ≡ Ok z → passed z ws ≡ false → Err Damaged ≡ checked_of ws
unfolding checked_of
checked_broken ws z e p =
    let y = opened_ready ws z e in
    let r : reason_of ws ≡ 4 = ready_reason ws z e ∙ rw (← formed_is z ws y.fitted, p) in
    rw r

-- `Ok`: there is no reason to turn the store down, and its first words give the geometry
pub checked_ready : (ws : List ℕ) (z : Layout) → checked_of ws ≡ Ok z → (z ≡ layout_at ws) × (reason_of ws ≡ 0)
unfolding checked_of
checked_ready ws z e = pick_ready (reason_of ws) (layout_at ws) z e

-- `Err`: the number is the reason of document 01
pub checked_refused : (ws : List ℕ) (r : Refusal) → checked_of ws ≡ Err r → (reason_of ws ≡ number_of r) × (1 ≤ number_of r)
unfolding checked_of
checked_refused ws r e = pick_refused (reason_of ws) (layout_at ws) r (reason_most ws) e

-- a store that is ready passes
pub checked_passes : (ws : List ℕ) (z : Layout) → checked_of ws ≡ Ok z → Passed z ws
checked_passes ws z e = let k = checked_ready ws z e in subst (λ (y : Layout). Passed y ws) (sym k.0) (reason_passed ws k.1)

module _ (ws : List ℕ) (z : Layout) (e : Passed z ws) where
  pub ready_sized : Fitted z ws
  ready_sized = record { proper = e.proper; words = e.long }

  pub ready_passed : passed z ws ≡ true
  ready_passed = formed_is z ws ready_sized ∙ passed_formed z ws e

  pub ready_headed : Headed z ws
  ready_headed = (passed_filled z ws ready_sized ready_passed).0

  -- "a listed block has 1 to B records"
  pub ready_filled : blocks_filled z ws ≡ true
  ready_filled = (passed_filled z ws ready_sized ready_passed).1

  pub ready_lists : lists_ok z ws ≡ true
  unfolding passed
  ready_lists = let k = simp and-eq-true_iff at ready_passed in k.1.0

  -- the searches and the walk can read its four levels
  pub ready_levels : AllFormed ws (levels_of z ws)
  ready_levels = formed_levels z ws ready_sized ready_passed

  -- what the four levels show together is what the rows of the store show
  pub ready_view : layered ws (levels_of z ws) ≡ view (rows (store_at z ws))
  ready_view = layered_is z ws ready_headed ready_filled

  -- "the first level from 0 down that has k decides"
  pub ready_decides : (k : ℕ) → decides k (rows (store_at z ws)) ≡ or_else (find k (records_of ws (top_of z ws))) (or_else (find k (records_of ws (level_of z ws 1))) (or_else (find k (records_of ws (level_of z ws 2))) (find k (records_of ws (level_of z ws 3)))))
  ready_decides k = decides_is z ws ready_headed ready_filled k
