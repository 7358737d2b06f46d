use native.Mathlib.Omega.{arith}
use Rattle.layout.proofs.Laws.{fitted_spots}
use Rattle.store.proofs.Formatting.{header_laid}
use borrow.Author.Rules.{rules}
use Rattle.store.proofs.put_header.Goals as goal

pub copy-requires : goal.copy-requires
copy-requires c = (search rules, omega (arith, fitted_spots _ _ c.requires.0))

pub offset_bounds-s-z : goal.offset_bounds-s-z
offset_bounds-s-z c = omega (arith, fitted_spots _ _ c.requires.0)

pub bounds-s-z : goal.bounds-s-z
bounds-s-z c = omega (arith, c.copy.auto.out, fitted_spots _ _ c.requires.0)

pub returns : goal.returns
returns c = rw c.copy.ensures (header_laid _ _ _ c.requires.0 c.requires.1.0)
