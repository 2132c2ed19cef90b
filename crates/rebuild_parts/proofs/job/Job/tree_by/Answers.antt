use Rattle.std.proofs.Common.{◌≡◌, List, length, ap, ◌∙◌, sym, subst, arith}
use Rattle.std.proofs.lemmas.Result.{IfOk-weaker}
use Rattle.map_items.specs.declared.item.Item.{Item}
use Rattle.map_items.specs.Contents.{AreContents}
use Rattle.map_items.proofs.Numbered.{contents_length}
use Rattle.kd_tree.specs.Contents.{AreDistinct, AreKept, contents}
use Rattle.kd_tree.proofs.Held.{are_distinct, are_kept, by_number-are}
use Rattle.rebuild_parts.specs.Built.{AreNumbersOf, JobAt}
use Rattle.rebuild_parts.proofs.Replaying.{numbers_of}
use Rattle.rebuild_parts.proofs.job.Job.tree_by.Goals as goal

pub build-requires-clause-kept : goal.build-requires-clause-kept
build-requires-clause-kept g c =
    let all : c.as_slice.result.now ≡ c.self.inside.items.value = c.as_slice.ensures ∙ c.deref.ensures in
    subst AreKept (sym all) (are_kept 0 4194304 c.self.inside.items.value c.self.invariant)

pub build-requires-clause-distinct : goal.build-requires-clause-distinct
build-requires-clause-distinct g c =
    let all : c.as_slice.result.now ≡ c.self.inside.items.value = c.as_slice.ensures ∙ c.deref.ensures in
    subst AreDistinct (sym all) (are_distinct 0 4194304 c.self.inside.items.value c.self.invariant)

pub build-requires-clause-few : goal.build-requires-clause-few
build-requires-clause-few g c =
    let all : c.as_slice.result.now ≡ c.self.inside.items.value = c.as_slice.ensures ∙ c.deref.ensures in
    omega (arith, ap length all, contents_length 0 4194304 c.self.inside.items.value (omega arith) c.self.invariant)

pub returns-clause-contents : goal.returns-clause-contents
returns-clause-contents g c =
    let all : c.as_slice.result.now ≡ c.self.inside.items.value = c.as_slice.ensures ∙ c.deref.ensures in
    let items = ap (λ (j : JobAt). j.items) c.self.view_is in
    let order = by_number-are 0 4194304 c.as_slice.result.now (subst (AreContents 0 4194304) (sym all) c.self.invariant) in
    IfOk-weaker c.build.result _ (λ t. contents t ≡ c.args.self.now.items) (λ t k. k ∙ order ∙ all ∙ items) c.build.ensures.contents

pub returns-clause-numbers : goal.returns-clause-numbers
returns-clause-numbers g c =
    let all : c.as_slice.result.now ≡ c.self.inside.items.value = c.as_slice.ensures ∙ c.deref.ensures in
    let items = ap (λ (j : JobAt). j.items) c.self.view_is in
    IfOk-weaker c.build.result _ (AreNumbersOf c.args.self.now.items)
    (λ t k. subst (λ (xs : List Item). AreNumbersOf xs t) (all ∙ items) (numbers_of c.as_slice.result.now t k))
    c.build.ensures.numbers
