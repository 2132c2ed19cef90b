use Rattle.std.proofs.Common.{◌≡◌, ◌∙◌, subst, sym, rules}
use Rattle.std.proofs.lemmas.Result.{IfOk-weaker}
use Rattle.node_labels.specs.Labels.{keep_tag}
use Rattle.map_fold.specs.Answers.{inside_all}
use Rattle.kd_tree.specs.Walk.{walk}
use Rattle.kd_tree.specs.Contents.{AreDistinct}
use Rattle.kd_frozen.specs.Cells.{items_of}
use Rattle.kd_frozen.proofs.Live.{from_nothing, inside_contents, inside_distinct}
use Rattle.kd_frozen.proofs.frozen.Frozen.inside.Goals as goal
use Rattle.kd_frozen.proofs.frozen.Frozen.inside.Goals.{After-as_mut_slice}

held : (c : After-as_mut_slice) → items_of c.as_mut_slice.result.now ≡ inside_all (walk keep_tag c.args.tree.now) c.args.c.now
held c = from_nothing c.new-cells.result.items c.as_mut_slice.result.now (inside_all (walk keep_tag c.args.tree.now) c.args.c.now) (search rules) (search rules)

pub laid-requires : goal.laid-requires
laid-requires c = subst AreDistinct (sym (held c)) (inside_distinct c.args.c.now c.args.tree.now c.size-size.ensures.sound)

pub returns : goal.returns
returns c = record {
  live = IfOk-weaker c.laid.result _ _ (λ f e. e ∙ inside_contents c.args.c.now c.args.tree.now (items_of c.as_mut_slice.result.now) (held (goal.at.returns c).After-as_mut_slice)) c.laid.ensures;
}
