use Rattle.std.proofs.Common.{◌≡◌, ℕ, ◌+◌, ◌%◌, List, ◌++◌, length}
use Rattle.std.specs.List.{slice_range}
use Rattle.chunks.proofs.Slots.{keys_rise}
use Rattle.chunks.proofs.rise_plain.Given as goal

-- pairs that are done with, and the keys that are left
abbrev pub invariant-loop-pair : goal.invariant-loop-pair
invariant-loop-pair l =
    let keys = slice_range l.s l.fn.chunk.keys (l.fn.chunk.keys + l.fn.chunk.count) in
    (l.pair-iterator.size ≡ 2)
    × (keys_rise l.pair-iterator.rest.now l.least ≡ keys_rise keys l.low)
    × ((p : List ℕ) × (p ++ l.pair-iterator.rest.now ≡ keys) × (length p % 2 ≡ 0))
