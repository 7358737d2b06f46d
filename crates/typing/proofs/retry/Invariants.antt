-- Every call so far has failed, and another may be made.
use Rattle.std.proofs.Common.{List}
use Rattle.std.specs.Prelude.{Err}
use Rattle.std.specs.List.{FoldsTo}
use Rattle.std.specs.declared.io.Error.{Error}
use Rattle.typing.proofs.retry.Given as goal

abbrev pub invariant-loop : goal.invariant-loop
invariant-loop g l =
    goal.F-IsAlwaysCallable g l.call × ((failed : List Error) × FoldsTo (λ f e h. goal.F-step g f (Err e) h) l.initial.call failed l.call)
