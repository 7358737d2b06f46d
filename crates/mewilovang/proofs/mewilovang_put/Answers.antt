use Rattle.store.proofs.Sums.{put_fit}
use Rattle.mewilovang.proofs.Replying.{put_replied}
use borrow.Author.Rules.{rules}
use Rattle.mewilovang.proofs.mewilovang_put.Goals as goal

pub change_reply-requires : goal.change_reply-requires
change_reply-requires c = put_fit _ _ _ _ _ c.put.ensures

pub returns : goal.returns
returns c = put_replied _ _ _ _ _ c.change_reply.ensures _ c.put.ensures
