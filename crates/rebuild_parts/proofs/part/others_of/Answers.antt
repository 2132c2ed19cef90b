use Rattle.std.proofs.Common.{List, ap, ◌∙◌, refl, sym}
use Rattle.std.specs.List.{remove}
use Rattle.kd_tree.specs.declared.path.Side.{Side}
use Rattle.kd_update.specs.Detached.{PartAt, paths}
use Rattle.rebuild_parts.proofs.OtherParts.{other_paths, without_new}
use Rattle.rebuild_parts.proofs.part.others_of.Goals as goal

pub returns-in_default : goal.returns-in_default
returns-in_default c = c.in_ok-paths.ensures ∙ ap (λ (ps : List PartAt). paths ps) (sym (without_new c.args.ticket c.args.parts.now (c.in_default.ensures.none refl)))

pub returns : goal.returns
returns c =
    c.remove-path.ensures.items ∙ ap (λ (ps : List (List Side)). remove ps c.in-Some.place) c.in_ok-paths.ensures
    ∙ other_paths c.args.ticket c.in-Some.place c.args.parts.now c.in-Some.ensures.some
