use Rattle.std.proofs.Common.{refl, ◌∙◌, ne_eqb}
use native.Mathlib.Omega.{arith}
use Rattle.writer.proofs.Entering.{holds_ranged, holds_live, live_small}
use Rattle.writer.proofs.Changing.{live_is}
use Rattle.writer.proofs.Foreseeing.{full_below, full_at}
use borrow.Author.Rules.{rules}
use Rattle.writer.proofs.is_full.Goals as goal

pub offset_bounds-s-z : goal.offset_bounds-s-z
offset_bounds-s-z c = omega (arith, holds_live _ _ c.requires)

pub bounds-s-z : goal.bounds-s-z
bounds-s-z c = omega (arith, holds_live _ _ c.requires)

pub overflow_cast-s : goal.overflow_cast-s
overflow_cast-s c = omega (arith, live_small _ _ c.requires)

pub key_limit-requires : goal.key_limit-requires
key_limit-requires c = holds_ranged _ _ c.requires

pub find_key-requires : goal.find_key-requires
find_key-requires c = (c.requires, search rules)

pub returns-then-s-z : goal.returns-then-s-z
returns-then-s-z c = full_at _ _ c.requires _ _ (omega (arith, c.if-s-z.true, c.key_limit.ensures)) (live_is _ _ _ _ _ c.find_key.ensures c.is_live.ensures refl)

pub returns-else-s-z : goal.returns-else-s-z
returns-else-s-z c = ne_eqb _ _ c.if-s-z.false ∙ full_below _ _ c.requires _ (λ q. omega (arith, q, c.if-s-z.false, c.key_limit.ensures))
