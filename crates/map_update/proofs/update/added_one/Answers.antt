use Rattle.std.proofs.Common.{◌+◌, arith}
use Rattle.map_update.proofs.Working.{draft_few, draft_free, draft_more}
use Rattle.map_update.proofs.update.added_one.Goals as goal

pub put-requires-clause-few : goal.put-requires-clause-few
put-requires-clause-few g c =
    let r = c.requires.draft in
    omega (arith, draft_few c.args.large c.args.next r.0 r.1 c.args.draft c.size-size.ensures.sound r.2, c.requires.few)

pub put-requires-clause-new : goal.put-requires-clause-new
put-requires-clause-new g c = let r = c.requires.draft in draft_free c.args.large c.args.next r.0 r.1 c.args.draft r.2

pub returns-clause-draft : goal.returns-clause-draft
returns-clause-draft g c = λ last ps d.
    c.put.ensures.draft (c.args.next + 1) last ps (omega arith) (draft_more c.args.large c.args.next (c.args.next + 1) last ps c.args.draft (omega arith) d)
