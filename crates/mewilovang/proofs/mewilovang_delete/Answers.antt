use Rattle.store.proofs.Sums.{delete_fit}
use Rattle.mewilovang.proofs.Replying.{delete_replied}
use borrow.Author.Rules.{rules}
use Rattle.mewilovang.proofs.mewilovang_delete.Goals as goal

pub change_reply-requires : goal.change_reply-requires
change_reply-requires c = delete_fit _ _ _ _ c.delete.ensures

pub returns : goal.returns
returns c = delete_replied _ _ _ _ _ c.change_reply.ensures c.delete.ensures
