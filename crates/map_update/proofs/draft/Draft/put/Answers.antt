use Rattle.std.proofs.Common.{sym, ◌∙◌}
use Rattle.node_labels.specs.Labels.{keep_tag}
use Rattle.kd_update.proofs.StandsFor.{same_times}
use Rattle.map_update.proofs.Working.{draft_large, draft_on, draft_put}
use Rattle.map_update.proofs.Drafted.{plain_put, worked_put}
use Rattle.map_update.proofs.draft.Draft.put.Goals as goal

pub put_watched-requires-clause-new : goal.put_watched-requires-clause-new
put_watched-requires-clause-new g c = same_times c.args.number keep_tag c.args.self.tree c.in_ok-draft.draft.tree (sym c.in_ok-draft.ensures.contents) ∙ c.requires.new

pub put_watched-requires-clause-there : goal.put_watched-requires-clause-there
put_watched-requires-clause-there g c =
    let r = c.requires.draft in
    let k = c.in_ok-draft.ensures.draft r.0 r.1.0 r.1.1 r.1.2 in
    draft_large c.args.large r.0 r.1.0 k.0 c.in_ok-draft.draft k.2

pub returns-clause-draft : goal.returns-clause-draft
returns-clause-draft g c = λ next last ps less d.
    let k = c.in_ok-draft.ensures.draft next last ps d in
    let u = c.in_ok-tree.tree in
    let vs = c.put_watched.new.watches in
    draft_on c.args.large next last ps k.0 _ k.1
    (draft_put c.args.large next last c.args.number c.args.point c.in_ok-draft.draft u vs k.0 less k.2
    c.in_ok-draft.ensures.room c.in_ok-tree.ensures.logged c.in_ok-tree.ensures.numbers c.in_ok-tree.ensures.balance
    c.in_ok-tree.ensures.watched)

pub returns-clause-drafted : goal.returns-clause-drafted
returns-clause-drafted g c =
    let e = c.in_ok-draft.ensures in
    worked_put c.args.number c.args.point c.args.self c.in_ok-draft.draft c.in_ok-tree.tree c.put_watched.new.watches
    e.spared e.lower e.fewer c.in_ok-tree.ensures.refresh c.put_watched.ensures.begins c.put_watched.ensures.few

pub returns-clause-unrebuilt : goal.returns-clause-unrebuilt
returns-clause-unrebuilt g c = λ room unrebuilt.
    plain_put c.args.large c.args.number c.args.point c.args.self c.in_ok-draft.draft c.in_ok-tree.tree
    c.put_watched.new.watches (c.in_ok-draft.ensures.same unrebuilt.low unrebuilt.few room)
    c.in_ok-tree.ensures.unrebuilt c.in_ok-tree.ensures.logged unrebuilt
