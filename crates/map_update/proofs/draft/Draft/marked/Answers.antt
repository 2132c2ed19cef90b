use Rattle.map_update.proofs.Working.{draft_large, draft_marked, draft_on}
use Rattle.map_update.proofs.Drafted.{plain_mark, worked_mark}
use Rattle.map_update.proofs.draft.Draft.marked.Goals as goal

pub marked_watched-requires-clause-there : goal.marked_watched-requires-clause-there
marked_watched-requires-clause-there g c =
    let r = c.requires.draft in
    let k = c.in_ok-draft.ensures.draft r.0 r.1.0 r.1.1 r.1.2 in
    draft_large c.args.large r.0 r.1.0 k.0 c.in_ok-draft.draft k.2

pub returns-clause-draft : goal.returns-clause-draft
returns-clause-draft g c = λ next last ps d.
    let k = c.in_ok-draft.ensures.draft next last ps d in
    let u = c.in_ok-tree.tree in
    let vs = c.marked_watched.new.watches in
    draft_on c.args.large next last ps k.0 _ k.1
    (draft_marked c.args.large next last c.args.choice.now c.args.tag c.in_ok-draft.draft u vs k.0 k.2
    c.in_ok-draft.ensures.room c.in_ok-tree.ensures.logged c.in_ok-tree.ensures.numbers c.in_ok-tree.ensures.balance
    c.in_ok-tree.ensures.watched)

pub returns-clause-drafted : goal.returns-clause-drafted
returns-clause-drafted g c =
    let e = c.in_ok-draft.ensures in
    worked_mark c.args.choice.now c.args.tag c.args.self c.in_ok-draft.draft c.in_ok-tree.tree
    c.marked_watched.new.watches e.spared e.low e.few c.in_ok-tree.ensures.refresh c.marked_watched.ensures.begins
    c.marked_watched.ensures.few

pub returns-clause-unrebuilt : goal.returns-clause-unrebuilt
returns-clause-unrebuilt g c = λ room unrebuilt.
    plain_mark c.args.large c.args.choice.now c.args.tag c.args.self c.in_ok-draft.draft c.in_ok-tree.tree
    c.marked_watched.new.watches (c.in_ok-draft.ensures.same room) c.in_ok-tree.ensures.unrebuilt
    c.in_ok-tree.ensures.logged unrebuilt
