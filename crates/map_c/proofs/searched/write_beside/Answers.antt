use Rattle.std.proofs.Common.{ap, sym, ◌∙◌, ◌≡◌, ◌++◌, ◌+◌, ℕ, List, length, map, take}
use Rattle.map_fold.specs.declared.hits.Hit.{Hit}
use Rattle.map_fold.specs.Answers.{nearest}
use Rattle.map_items.specs.Contents.{live_items}
use Rattle.kd_tree.specs.Shape.{Shape}
use Rattle.kd_tree.specs.Contents.{contents}
use Rattle.kd_frozen.proofs.Live.{nearest-live}
use Rattle.rebuild_parts.specs.Seen.{VersionAt}
use Rattle.map_c.specs.Answers.{c_hit}
use Rattle.map_c.proofs.searched.write_beside.Goals as goal
use Rattle.map_c.proofs.searched.write_beside.Goals.{Joined-found}

-- what is found, of what is live
is : (c : Joined-found) → c.as_slice.result.now ≡ nearest (live_items (contents c.args.around.now.version.value.tree)) c.args.k c.args.q.now c.args.within
is c =
    c.as_slice.ensures ∙ c.in_ok-found.ensures.found
    ∙ ap (λ (t : Shape). nearest (contents t) c.args.k c.args.q.now c.args.within) c.tree-tree.ensures
    ∙ ap (λ (v : VersionAt). nearest (contents v.tree) c.args.k c.args.q.now c.args.within) c.deref.ensures
    ∙ sym (nearest-live (contents c.args.around.now.version.value.tree) c.args.k c.args.q.now c.args.within)

pub returns-clause-list : goal.returns-clause-list
returns-clause-list c =
    ap (λ (n : ℕ). take n c.write_hits.new.hits) c.write_hits.ensures.end ∙ c.write_hits.ensures.written
    ∙ ap (λ (hits : List Hit). take c.args.at c.args.hits.now ++ map c_hit hits) (is c)

pub returns-clause-count : goal.returns-clause-count
returns-clause-count c = c.write_hits.ensures.end ∙ ap (λ (hits : List Hit). c.args.at + length hits) (is c)
