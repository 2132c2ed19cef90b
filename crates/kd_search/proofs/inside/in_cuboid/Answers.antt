use Rattle.std.proofs.Common.{sym, ap, ◌∙◌, take}
use Rattle.node_labels.specs.Labels.{keep_tag}
use Rattle.map_fold.specs.Answers.{inside_all}
use Rattle.kd_tree.specs.Walk.{walk}
use Rattle.kd_search.specs.Inserted.{insert_all}
use Rattle.kd_search.proofs.Boxed.{inside-by_number}
use Rattle.kd_search.proofs.First.{first_none}
use Rattle.kd_search.proofs.Inserted.{insert_all-nil}
use Rattle.kd_search.proofs.inside.in_cuboid.Goals as goal

pub add_under-requires-clause-held : goal.add_under-requires-clause-held
add_under-requires-clause-held c = first_none c.args.most c.new-items.result.items c.new-items.ensures.items

pub returns : goal.returns
returns c =
    let most = c.args.most in
    let all = inside_all (walk keep_tag c.args.tree.now) c.args.c.now in
    record {
      found =
          c.from.ensures ∙ c.in_ok-add_under.ensures.found
          ∙ ap (λ m. take most (insert_all (inside_all m c.args.c.now) c.new-items.result.items)) c.whole.ensures
          ∙ ap (λ z. take most (insert_all all z)) c.new-items.ensures.items
          ∙ ap (take most) (insert_all-nil all ∙ sym (inside-by_number c.args.c.now (walk keep_tag c.args.tree.now)));
    }
