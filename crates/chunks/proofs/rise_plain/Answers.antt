use Rattle.std.proofs.Common.{◌<◌, ◌++◌, length, sym, ap, ◌∙◌, arith}
use Rattle.std.proofs.lemmas.List.{length-append, append_assoc}
use Rattle.chunks.proofs.Slots.{keys_rise, rise_keys, pair_low, pair_second, pair_on, pairs_left, tail_none, tail_low, tail_on}
use Rattle.chunks.proofs.rise_plain.Goals as goal

pub returns-then-key-least : goal.returns-then-key-least
returns-then-key-least c =
    let i = c.loop-pair.invariant in
    let s = c.in-Some.ensures.steps in
    sym (pair_low _ _ _ (s.1.1 ∙ i.0) c.if-key-least.true) ∙ ap (λ ks. keys_rise ks c.loop-pair.least) (sym s.1.0) ∙ i.1 ∙ rise_keys _ _ _ _ _ c.requires.keys_end

pub returns-then-second-key : goal.returns-then-second-key
returns-then-second-key c =
    let i = c.loop-pair.invariant in
    let s = c.in-Some.ensures.steps in
    sym (pair_second _ _ _ (s.1.1 ∙ i.0) c.if-key-least.false c.if-second-key.true) ∙ ap (λ ks. keys_rise ks c.loop-pair.least) (sym s.1.0) ∙ i.1 ∙ rise_keys _ _ _ _ _ c.requires.keys_end

pub loop-pair-preserved : goal.loop-pair-preserved
loop-pair-preserved c =
    let i = c.loop-pair.invariant in
    let s = c.in-Some.ensures.steps in
    let p = i.2.0 in (
      s.0 ∙ i.0,
      sym (pair_on _ _ _ (s.1.1 ∙ i.0) c.if-key-least.false c.if-second-key.false) ∙ ap (λ ks. keys_rise ks c.loop-pair.least) (sym s.1.0) ∙ i.1,
      (p ++ c.in-Some.pair.now, append_assoc p c.in-Some.pair.now c.next.new.self.rest.now ∙ ap (λ ks. p ++ ks) (sym s.1.0) ∙ i.2.1, omega (arith, length-append p c.in-Some.pair.now, s.1.1, i.0, i.2.2)),
    )

pub returns-in_default : goal.returns-in_default
returns-in_default c =
    let i = c.loop-pair.invariant in
    let l : length c.loop-pair.pair-iterator.rest.now < 2 = omega (arith, c.in-None.ensures.steps.1.0, i.0) in
    let e = pairs_left i.2.0 c.loop-pair.pair-iterator.rest.now _ _ _ i.2.1 i.2.2 l (c.remainder-rest.ensures ∙ c.chunks_exact-pairs.ensures.remainder) c.in_default.ensures.value in
    sym (tail_none _ _ e) ∙ i.1 ∙ rise_keys _ _ _ _ _ c.requires.keys_end

pub returns-then-key-least-2 : goal.returns-then-key-least-2
returns-then-key-least-2 c =
    let i = c.loop-pair.invariant in
    let l : length c.loop-pair.pair-iterator.rest.now < 2 = omega (arith, c.in-None.ensures.steps.1.0, i.0) in
    let e = pairs_left i.2.0 c.loop-pair.pair-iterator.rest.now _ _ _ i.2.1 i.2.2 l (c.remainder-rest.ensures ∙ c.chunks_exact-pairs.ensures.remainder) c.in-Some-first.ensures.value in
    sym (tail_low _ _ _ e c.if-key-least-2.true) ∙ i.1 ∙ rise_keys _ _ _ _ _ c.requires.keys_end

pub returns : goal.returns
returns c =
    let i = c.loop-pair.invariant in
    let l : length c.loop-pair.pair-iterator.rest.now < 2 = omega (arith, c.in-None.ensures.steps.1.0, i.0) in
    let e = pairs_left i.2.0 c.loop-pair.pair-iterator.rest.now _ _ _ i.2.1 i.2.2 l (c.remainder-rest.ensures ∙ c.chunks_exact-pairs.ensures.remainder) c.in-Some-first.ensures.value in
    sym (tail_on _ _ _ e c.if-key-least-2.false) ∙ i.1 ∙ rise_keys _ _ _ _ _ c.requires.keys_end
