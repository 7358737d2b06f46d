use mathlib.Core.Path.{refl, sym}
use Rattle.walk.proofs.Listing.{entered_full_left, entered_full_right, entered_kept}
use Rattle.walk.proofs.list_one.Goals as goal

pub returns-then-keys-n : goal.returns-then-keys-n
returns-then-keys-n c = rw c.live_bit-bit.ensures (refl, (sym (entered_full_left _ _ _ _ _ _ c.if-keys-n.true), sym (entered_full_left _ _ _ _ _ _ c.if-keys-n.true)))

pub returns-then-pays-n : goal.returns-then-pays-n
returns-then-pays-n c = rw c.live_bit-bit.ensures (refl, (sym (entered_full_right _ _ _ _ _ _ c.if-pays-n.true), sym (entered_full_right _ _ _ _ _ _ c.if-pays-n.true)))

pub returns : goal.returns
returns c =
    let a = c.args in
    let l = c.if-keys-n.false in
    let r = c.if-pays-n.false in
    rw (c.live_bit-bit.ensures, c.kept.ensures, c.kept-2.ensures) (refl, (entered_kept _ _ _ a.key a.keys.now _ l r, entered_kept _ _ _ _ a.pays.now _ l r))
