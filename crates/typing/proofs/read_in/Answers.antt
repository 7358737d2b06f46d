use Rattle.std.proofs.Common.{◌≡◌, rules}
use Rattle.std.specs.Io.KnownBytes.{Keeps}
use Rattle.std.proofs.KnownBytes.{Keeps-trans}
use Rattle.std.proofs.lemmas.Fn.{chained_keeps}
use Rattle.typing.proofs.Known.{read_after}
use Rattle.typing.proofs.read_in.Goals as goal

pub returns-clause-bound : goal.returns-clause-bound
returns-clause-bound g c =
    let (failed, last, fold, step) = c.retry.ensures in
    let j = chained_keeps _ (λ xs q. c.retry-arg-2-1.given ≡ q.1.ghost_name) (λ xs q x v j r. search rules) failed _ last (search rules) fold in
    let e = c.input-1.given.1.1 (search rules) in
    rw e (search rules)

pub returns-clause-bytes : goal.returns-clause-bytes
returns-clause-bytes g c =
    let (failed, last, fold, step) = c.retry.ensures in
    let j = chained_keeps _ (λ xs q. (c.retry-arg-1.given ≡ q.0.ghost_name) × ((c.retry-arg-2-1.given ≡ q.1.ghost_name) × Keeps (g.R.Read.remaining c.args.reader.now) (g.R.Read.remaining q.0.now)))
    (λ xs q x v j r. (search rules, (search rules, Keeps-trans _ _ _ j.1.1 (search rules)))) failed _ last (search rules, (search rules, search rules)) fold in
    let e = c.input-1.given.1.1 (search rules) in
    let f = c.reader-1.given.1 (search rules) in
    rw (e, f) (read_after _ _ _ _ _ j.1.1 (search rules))
