use Rattle.std.proofs.Common.{◌≡◌, ◌∷◌, ◌∙◌, Some, subst, sym}
use Rattle.node_labels.specs.Labels.{keep_tag}
use Rattle.node_labels.proofs.Same.{tag_Decides}
use Rattle.kd_tree.specs.Shape.{Head}
use Rattle.kd_tree.specs.Criteria.{first_breach}
use Rattle.kd_tree.specs.declared.path.Side.{Side}
use Rattle.kd_update.proofs.Settling.{first_left, none_left, first_right}
use Rattle.kd_update.proofs.replacing.settle.known_of_children.Goals as goal

pub returns-in-Left : goal.returns-in-Left
returns-in-Left c f parts =
    let top = c.in-Some.top in
    let h : Head = record { item = top.item; axis = top.axis; pending = top.pending } in
    let keep : top.pending ≡ keep_tag = (tag_Decides top.pending keep_tag).0 (sym c.eq.ensures ∙ c.if-eq.true) in
    let t = c.args.tree.now in
    let rest = c.args.rest.now in
    let on = subst (λ (s : Side). first_breach 10 t ≡ Some (s ∷ rest)) c.in-Left.is c.requires in
    record { left = first_left t h top.left.now top.right.now f rest c.in-Some.ensures.some keep parts on; right = tt }

pub returns-in-Right : goal.returns-in-Right
returns-in-Right c f parts =
    let top = c.in-Some.top in
    let h : Head = record { item = top.item; axis = top.axis; pending = top.pending } in
    let keep : top.pending ≡ keep_tag = (tag_Decides top.pending keep_tag).0 (sym c.eq.ensures ∙ c.if-eq.true) in
    let t = c.args.tree.now in
    let rest = c.args.rest.now in
    let on = subst (λ (s : Side). first_breach 10 t ≡ Some (s ∷ rest)) c.in-Right.is c.requires in
    record {
      left = none_left t h top.left.now top.right.now f rest c.in-Some.ensures.some keep parts on;
      right = first_right t h top.left.now top.right.now f rest c.in-Some.ensures.some keep parts on;
    }
