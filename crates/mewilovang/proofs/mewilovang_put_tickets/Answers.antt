use Rattle.store.proofs.Sums.{put_fit}
use Rattle.mewilovang.proofs.mewilovang_put_tickets.Goals as goal

pub change_reply-requires : goal.change_reply-requires
change_reply-requires c = put_fit _ _ _ _ _ c.put_tickets.ensures.0
