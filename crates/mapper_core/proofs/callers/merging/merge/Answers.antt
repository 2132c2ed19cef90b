use Rattle.std.proofs.Common.{◌≡◌, ℕ, ◌∷◌, ◌+◌, suc, sym, ap, ◌∙◌, subst, drop, drop-cons, drop_of_length-le, add-one, arith}
use Rattle.mapper_core.specs.Meetings.{AreReplies, MergedTo}
use Rattle.mapper_core.proofs.Merged.{merged_start, merged_takes, replies_left, replies_next}
use Rattle.mapper_core.proofs.callers.merging.merge.Goals as goal

pub loop-command-init : goal.loop-command-init
loop-command-init c = record {
  merged = λ voxel. merged_start voxel c.args.commands.now c.args.queues.now c.args.replies.now;
  left = c.requires;
}

pub caller_of-requires : goal.caller_of-requires
caller_of-requires c =
    let cs = c.args.commands.now in
    let i = c.loop-command.command-index in
    let command = c.command-item.result in
    let cut : drop i cs ≡ command ∷ drop (i + 1) cs = rw add-one (drop-cons cs i command (omega arith) ∙ ap (λ x. x ∷ drop (suc i) cs) (sym c.command-item.is)) in
    let left : AreReplies c.loop-command.invariant.left.0 (command ∷ drop (i + 1) cs) c.loop-command.queues =
    subst (λ z. AreReplies c.loop-command.invariant.left.0 z c.loop-command.queues) cut
    c.loop-command.invariant.left.1 in
    (left.owned.0.0 + 1, left.owned.0.1)

pub take_for-reply-requires : goal.take_for-reply-requires
take_for-reply-requires c =
    let cs = c.args.commands.now in
    let i = c.loop-command.command-index in
    let command = c.command-item.result in
    let cut : drop i cs ≡ command ∷ drop (i + 1) cs = rw add-one (drop-cons cs i command (omega arith) ∙ ap (λ x. x ∷ drop (suc i) cs) (sym c.command-item.is)) in
    let voxel : ℕ = c.loop-command.invariant.left.0 in
    let left : AreReplies voxel (command ∷ drop (i + 1) cs) c.loop-command.queues = subst (λ z. AreReplies voxel z c.loop-command.queues) cut c.loop-command.invariant.left.1 in
    replies_left voxel command (drop (i + 1) cs) c.loop-command.queues c.caller_of.result left c.caller_of.ensures

pub loop-command-preserved : goal.loop-command-preserved
loop-command-preserved c =
    let cs = c.args.commands.now in
    let i = c.loop-command.command-index in
    let command = c.command-item.result in
    let cut : drop i cs ≡ command ∷ drop (i + 1) cs = rw add-one (drop-cons cs i command (omega arith) ∙ ap (λ x. x ∷ drop (suc i) cs) (sym c.command-item.is)) in
    let at = c.loop-command in
    record {
      merged = λ voxel.
          let to : MergedTo voxel cs (command ∷ drop (i + 1) cs) c.args.queues.now at.queues c.args.replies.now at.replies =
          subst (λ z. MergedTo voxel cs z c.args.queues.now at.queues c.args.replies.now at.replies) cut (at.invariant.merged voxel) in
          subst (λ z. MergedTo voxel cs (drop (i + 1) cs) c.args.queues.now c.take_for-reply.new.queues c.args.replies.now z) (sym c.in_ok-push.ensures.ok)
          (merged_takes voxel cs (drop (i + 1) cs) command c.args.queues.now at.queues c.take_for-reply.new.queues c.args.replies.now at.replies
          c.caller_of.result c.take_for-reply.result to c.caller_of.ensures c.take_for-reply.ensures);
      left = (
        at.invariant.left.0,
        let voxel : ℕ = at.invariant.left.0 in
            let left : AreReplies voxel (command ∷ drop (i + 1) cs) at.queues = subst (λ z. AreReplies voxel z at.queues) cut at.invariant.left.1 in
            replies_next voxel command (drop (i + 1) cs) at.queues c.take_for-reply.new.queues c.caller_of.result c.take_for-reply.result left c.caller_of.ensures c.take_for-reply.ensures,
      );
    }

pub returns : goal.returns
returns c = λ voxel.
    let cs = c.args.commands.now in
    subst (λ z. MergedTo voxel cs z c.args.queues.now c.loop-command.queues c.args.replies.now c.loop-command.replies)
    (drop_of_length-le cs (omega arith)) (c.loop-command.invariant.merged voxel)
