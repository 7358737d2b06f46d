use borrow.Author.Rules.{rules}
use mathlib.Core.Path.{◌≡◌, refl, ap, ◌∙◌}
use mathlib.Core.List.{List}
use native.Mathlib.Omega.{arith}
use Rattle.std.specs.Option.{unwrap_or, option_map}
use Rattle.slices.specs.Slices.{put_at}
use Rattle.pair.proofs.Merges.{made_or, leaves_count}
use Rattle.pair.proofs.merge_list.Goals as goal
use Rattle.pair.proofs.merge_list.Goals.{After-unwrap_or-x}

-- the list that X is read from
list : (c : After-unwrap_or-x) → c.unwrap_or-x.result.now ≡ unwrap_or (option_map (λ l. l.now) c.args.xs) c.args.lists.now
list c = ap (λ l. l.now) c.unwrap_or-x.ensures ∙ made_or (λ l. l.now) c.args.xs _

pub merge_blocks-r-requires : goal.merge_blocks-r-requires
merge_blocks-r-requires c = rw (list (goal.at.merge_blocks-r-requires c).After-unwrap_or-x) (c.requires.mergeable _ (search rules))

pub copy_list-requires : goal.copy_list-requires
copy_list-requires c =
    let p = c.requires in
    let a = c.args in
    let k = rw (list (goal.at.copy_list-requires c).After-unwrap_or-x) at (c.merge_blocks-r.ensures (record { used = p.in_use.places; cursor = a.cursor }) refl p.in_use.marks) in
    (omega (arith, k.count_high, k.list_long), omega (arith, p.fits, leaves_count _ _ _ _ _ _ _ _ k, p.lists_long))

pub returns : goal.returns
returns c =
    let a = c.args in
    λ al e m. let k = rw (list (goal.at.returns c).After-unwrap_or-x) at (c.merge_blocks-r.ensures al e m) in record { out = _; leaves = k; put = c.copy_list.ensures ∙ ap (λ (l : List _). put_at a.parts.start l a.lists.now) k.list }
