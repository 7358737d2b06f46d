use native.Mathlib.Omega.{arith}
use Prim.Native.Nat.{◌*◌, ◌-◌, ◌≤◌}
use mathlib.Core.Path.{◌≡◌, refl, ◌∙◌}
use lib.ListN.{length}
use Rattle.dialogue.specs.Bench.{bench_words}
use Rattle.dialogue.specs.Said.{longest_answer}
use Rattle.dialogue.proofs.Feeding.{room_on, more_bytes, all_bytes, FedSo, fed_none, fed_more, fed_all}
use Rattle.dialogue.proofs.feed.Given as goal

abbrev pub invariant-loop-byte : goal.invariant-loop-byte
invariant-loop-byte l = (length l.words ≡ bench_words) × ((length l.out ≡ length l.initial.out) × ((l.fed.state.tickets ≡ l.initial.fed.state.tickets) × ((l.fed.state.words ≤ bench_words) × ((l.fed.bytes ≤ longest_answer l.initial.fed.state.tickets * l.byte-index) × FedSo l.initial.fed.state l.initial.words l.input l.initial.out l.byte-index l.fed l.words l.out))))
