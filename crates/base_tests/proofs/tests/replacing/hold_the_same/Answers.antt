use Rattle.std.proofs.Common.{◌≡◌, refl, ◌∙◌, sym}
use Rattle.std.specs.Cmp.Lexicographic.{pointwise}
use Rattle.std.proofs.lemmas.Slice.Eq.{slice_eq-Decides}
use Rattle.map_items.specs.contracts.item.ItemPartialEq.TheImpl as item
use Rattle.map_items.proofs.Same.{item_Decides}
use Rattle.kd_tree.specs.Contents.{contents}
use Rattle.base_tests.proofs.tests.replacing.hold_the_same.Goals as goal

pub returns : goal.returns
returns c are_same =
    let xs = c.as_slice.result.now in
    let ys = c.as_slice-2.result.now in
    let alike = pointwise item.eq-value.it xs ys in
    let same : xs ≡ ys = (slice_eq-Decides item_Decides xs ys alike refl).0 (sym c.eq.ensures ∙ are_same) in
    let held : xs ≡ contents c.args.one.now = c.as_slice.ensures ∙ c.in_ok-held.ensures in
    let there : ys ≡ contents c.args.other.now = c.as_slice-2.ensures ∙ c.in_ok-there.ensures in
    sym held ∙ same ∙ there
