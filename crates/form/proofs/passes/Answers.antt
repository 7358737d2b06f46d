use Rattle.layout.proofs.Laws.{fitted_live}
use native.Mathlib.Omega.{arith}
use mathlib.Core.Path.{◌≡◌, sym, ◌∙◌}
use mathlib.Core.Bool.{true, and-eq-true_iff}
use mathlib.Core.List.{List}
use Prim.Native.Nat.{ℕ}
use Rattle.std.specs.Prelude.{All}
use Rattle.std.specs.List.{list_all}
use Rattle.directory.specs.declared.Directory.{Directory}
use Rattle.directory.specs.Directory.{Within, Formed, level_formed}
use Rattle.directory.proofs.Laws.{formed_all}
use Rattle.form.specs.Form.{Headed, header_ok, lists_ok, spare_ok, levels_of, passed}
use Rattle.form.proofs.Sizes.{within_top, within_level}
use Rattle.form.proofs.Clauses.{of_four, each_test}
use Rattle.form.proofs.passes.Goals as goal
use Rattle.form.proofs.passes.Goals.{Else-not-header_ok, Else-not-lists_ok, Else-not-spare_ok}
use Rattle.layout.specs.declared.Layout.{Layout}

h1 : (c : Else-not-header_ok) → header_ok c.args.z c.args.s.now ≡ true
h1 c = sym c.header_ok.ensures ∙ c.if-not-header_ok.false

headed : (c : Else-not-header_ok) → Headed c.args.z c.args.s.now
headed c =
    let h1_here : (header_ok c.args.z c.args.s.now ≡ true) = (sym c.header_ok.ensures ∙ c.if-not-header_ok.false) in record { sized = c.requires; header = h1_here }

h2 : (c : Else-not-lists_ok) → lists_ok c.args.z c.args.s.now ≡ true
h2 c = sym c.lists_ok.ensures ∙ c.if-not-lists_ok.false

h3 : (c : Else-not-spare_ok) → spare_ok c.args.z c.args.s.now ≡ true
h3 c = sym c.spare_ok.ensures ∙ c.if-not-spare_ok.false

-- the levels can be read
each_within : (z : Layout) (ws : List ℕ) → Headed z ws → lists_ok z ws ≡ true → All (λ (d : Directory). Within d ws) (levels_of z ws)
each_within z ws y l =
    of_four z ws (λ (d : Directory). Within d ws) (within_top z ws y) (within_level z ws y l 1 (omega arith) (omega arith)) (within_level z ws y l 2 (omega arith) (omega arith)) (within_level z ws y l 3 (omega arith) (omega arith))

-- and are formed if the test says so
each_formed : (z : Layout) (ws : List ℕ) → Headed z ws → lists_ok z ws ≡ true → list_all (λ (d : Directory). level_formed ws d) (levels_of z ws) ≡ true → All (λ (d : Directory). Formed d ws) (levels_of z ws)
each_formed z ws y l e =
    let k = simp and-eq-true_iff at e in
    of_four z ws (λ (d : Directory). Formed d ws) (formed_all _ _ (within_top z ws y) k.0) (formed_all _ _ (within_level z ws y l 1 (omega arith) (omega arith)) k.1.0)
    (formed_all _ _ (within_level z ws y l 2 (omega arith) (omega arith)) k.1.1.0) (formed_all _ _ (within_level z ws y l 3 (omega arith) (omega arith)) k.1.1.1.0)

pub returns-then-not-header_ok : goal.returns-then-not-header_ok
unfolding passed
returns-then-not-header_ok c = rw (← c.header_ok.ensures, c.if-not-header_ok.true)

pub lists_ok-requires : goal.lists_ok-requires
lists_ok-requires c = headed (goal.at.lists_ok-requires c).Else-not-header_ok

pub returns-then-not-lists_ok : goal.returns-then-not-lists_ok
unfolding passed
returns-then-not-lists_ok c = rw (h1 (goal.at.returns-then-not-lists_ok c).Else-not-header_ok, ← c.lists_ok.ensures, c.if-not-lists_ok.true)

pub spare_ok-requires : goal.spare_ok-requires
spare_ok-requires c = headed (goal.at.spare_ok-requires c).Else-not-header_ok

pub returns-then-not-spare_ok : goal.returns-then-not-spare_ok
unfolding passed
returns-then-not-spare_ok c = rw (h1 (goal.at.returns-then-not-spare_ok c).Else-not-header_ok, h2 (goal.at.returns-then-not-spare_ok c).Else-not-lists_ok, ← c.spare_ok.ensures, c.if-not-spare_ok.true)

pub each_formed-requires : goal.each_formed-requires
each_formed-requires c =
    rw c.levels_of-levels.ensures (each_within _ _ (headed (goal.at.each_formed-requires c).Else-not-header_ok) (h2 (goal.at.each_formed-requires c).Else-not-lists_ok))

pub returns-then-not-each_formed : goal.returns-then-not-each_formed
unfolding passed
returns-then-not-each_formed c =
    rw (h1 (goal.at.returns-then-not-each_formed c).Else-not-header_ok, h2 (goal.at.returns-then-not-each_formed c).Else-not-lists_ok, h3 (goal.at.returns-then-not-each_formed c).Else-not-spare_ok, each_test _ _ _ _ (rw c.levels_of-levels.ensures at c.each_formed.ensures), c.if-not-each_formed.true)

pub word-requires : goal.word-requires
word-requires c = omega (arith, fitted_live _ _ c.requires)

pub live-requires : goal.live-requires
live-requires c =
    rw c.levels_of-levels.ensures
    (each_formed _ _ (headed (goal.at.live-requires c).Else-not-header_ok) (h2 (goal.at.live-requires c).Else-not-lists_ok) (sym (rw c.levels_of-levels.ensures at c.each_formed.ensures) ∙ c.if-not-each_formed.false))

pub returns : goal.returns
unfolding passed
returns c =
    rw (h1 (goal.at.returns c).Else-not-header_ok, h2 (goal.at.returns c).Else-not-lists_ok, h3 (goal.at.returns c).Else-not-spare_ok, each_test _ _ _ _ (rw c.levels_of-levels.ensures at c.each_formed.ensures), c.if-not-each_formed.false, c.word.ensures.0, c.live.ensures, c.levels_of-levels.ensures)
