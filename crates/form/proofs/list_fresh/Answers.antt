use Rattle.std.proofs.Common.{rules, ◌<◌, ◌≤◌, refl, sym, ◌∙◌}
use mathlib.Core.Bool.{false≢true}
use Rattle.form.proofs.Steps.{fresh_high, fresh_used, fresh_next, mark_next, fresh_start, mark_start, fresh_end, mark_end}
use Rattle.form.proofs.list_fresh.Goals as goal
use Rattle.form.proofs.list_fresh.Goals.{then-p-q-via-then-p-q, then-p-q-via-else-p-q+then-used-q}

pub loop-place-init : goal.loop-place-init
loop-place-init c = (fresh_start _ _ _ _ _, mark_start _ _ _ _)

pub returns-then-p-q : goal.returns-then-p-q
returns-then-p-q c =
    let l : c.loop-place.place-index < c.args.n = search rules in
    elim c.then-p-q.branch [
      | then-p-q-via-then-p-q w ↦ (sym (fresh_high _ _ _ _ _ _ l _ refl w.if-p-q.true) ∙ c.loop-place.invariant.0, λ e. absurd (false≢true e))
      | then-p-q-via-else-p-q+then-used-q w ↦ (sym (fresh_used _ _ _ _ _ _ l _ refl w.if-p-q.false w.if-used-q.true) ∙ c.loop-place.invariant.0, λ e. absurd (false≢true e))
    ]

pub loop-place-preserved : goal.loop-place-preserved
loop-place-preserved c =
    let l : c.loop-place.place-index < c.args.n = search rules in
    (sym (fresh_next _ _ _ _ _ _ l _ refl c.if-p-q.false c.if-used-q.false) ∙ c.loop-place.invariant.0, sym (mark_next _ 0 _ _ _ _ l _ refl) ∙ c.loop-place.invariant.1)

pub returns : goal.returns
returns c =
    let l : c.args.n ≤ c.loop-place.place-index = search rules in
    (sym (fresh_end _ _ _ _ _ _ l) ∙ c.loop-place.invariant.0, λ e. sym (mark_end _ _ _ _ _ l) ∙ c.loop-place.invariant.1)
