use Rattle.store.proofs.Sums.{delete_fit}
use Rattle.mewilovang.proofs.mewilovang_delete_tickets.Goals as goal

pub change_reply-requires : goal.change_reply-requires
change_reply-requires c = delete_fit _ _ _ _ c.delete_tickets.ensures.0
