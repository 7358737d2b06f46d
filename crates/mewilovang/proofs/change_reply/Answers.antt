use Rattle.mewilovang.proofs.Replying.{one_fit, two_fit, three_fit}
use Rattle.mewilovang.proofs.change_reply.Goals as goal

pub counts_reply-requires : goal.counts_reply-requires
counts_reply-requires c = one_fit _ _ c.in-Ok.is c.requires

pub counts_reply-requires-in-Ok : goal.counts_reply-requires-in-Ok
counts_reply-requires-in-Ok c = two_fit _ _ c.in-Ok.is c.requires

pub counts_reply-requires-in-Ok-2 : goal.counts_reply-requires-in-Ok-2
counts_reply-requires-in-Ok-2 c = three_fit _ _ c.in-Ok.is c.requires
