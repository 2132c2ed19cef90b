use Rattle.std.proofs.Common.{List, sym, subst}
use Rattle.kd_mark.specs.declared.watch.Watch.{Watch}
use Rattle.map_update.specs.Draft.{IsDraftLeft}
use Rattle.map_update.proofs.Working.{draft_anew}
use Rattle.map_update.proofs.draft.Draft.with_room.Goals as goal

pub returns-clause-draft : goal.returns-clause-draft
returns-clause-draft g c = λ next last ps d.
    let u = c.in_ok-tree.tree in
    subst (λ (ws : List Watch). IsDraftLeft c.args.large next last ps (record { tree = u; watches = ws })) (sym c.new.ensures)
    (draft_anew c.args.large next last c.args.self u ps d c.in_ok-tree.ensures.numbers c.in_ok-tree.ensures.criteria)
