use mathlib.Core.Path.{sym}
use Rattle.shares.proofs.Levels.{no_chunks_hide, no_chunks_shadow}
use Rattle.shares.proofs.hide_under.Goals as goal

pub returns-then-m-lt1 : goal.returns-then-m-lt1
returns-then-m-lt1 c = sym (no_chunks_hide _ c.args.up _ c.if-m-lt1.true)

pub returns-then-n-lt1 : goal.returns-then-n-lt1
returns-then-n-lt1 c = no_chunks_shadow _ _ _ _ c.if-n-lt1.true
