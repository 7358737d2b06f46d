use Rattle.store.proofs.Answering.{passed, about_ready}
use Rattle.store.proofs.about.Goals as goal

pub facts_of-requires : goal.facts_of-requires
facts_of-requires c = passed _ _ c.in_ok-check.ensures

pub returns : goal.returns
returns c = about_ready _ _ c.in_ok-check.ensures _ c.facts_of.ensures
