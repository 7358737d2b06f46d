use Rattle.chunks.proofs.Slots.{rise_clean}
use Rattle.chunks.proofs.rise_over.Goals as goal

pub returns-then-clean : goal.returns-then-clean
returns-then-clean c = rw (rise_clean _ _ _ _ _ _, ← c.clean.ensures, c.if-clean.true) c.rise_plain.ensures

pub returns : goal.returns
returns c = rw (rise_clean _ _ _ _ _ _, ← c.clean.ensures, c.if-clean.false)
