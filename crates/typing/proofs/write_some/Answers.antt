use Rattle.std.proofs.Common.{◌≡◌, rules}
use Rattle.std.specs.Io.KnownBytes.{Keeps}
use Rattle.std.proofs.KnownBytes.{Keeps-trans}
use Rattle.std.proofs.lemmas.Fn.{chained_keeps}
use Rattle.typing.proofs.Known.{written_after}
use Rattle.typing.proofs.write_some.Goals as goal

pub returns-clause-bound : goal.returns-clause-bound
returns-clause-bound g c =
    let (failed, last, fold, step) = c.retry.ensures in
    let j = chained_keeps _ (λ xs q. q.1.now ≡ c.args.bytes.now) (λ xs q x v j r. search rules) failed _ last (search rules) fold in
    search rules

pub returns-clause-bytes : goal.returns-clause-bytes
returns-clause-bytes g c =
    let (failed, last, fold, step) = c.retry.ensures in
    let j = chained_keeps _ (λ xs q. (c.retry-arg-1.given ≡ q.0.ghost_name) × ((q.1.now ≡ c.args.bytes.now) × Keeps (g.W.Write.contents c.args.writer.now) (g.W.Write.contents q.0.now)))
    (λ xs q x v j r. (search rules, (search rules, Keeps-trans _ _ _ j.1.1 (search rules)))) failed _ last (search rules, (search rules, search rules)) fold in
    let f = c.writer-1.given.1 (search rules) in
    rw f (written_after _ _ _ _ _ j.1.1 (search rules))
