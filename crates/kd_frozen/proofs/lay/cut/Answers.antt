use Rattle.std.proofs.Common.{◌∙◌, rules}
use Rattle.std.proofs.lemmas.Fn.{always_returns_same}
use Rattle.point_geom.specs.Axes.{on}
use Rattle.point_geom.specs.declared.axis.Axis.TheVariants.{X, Y, Z}
use Rattle.kd_frozen.specs.declared.cell.Cell.{Cell}
use Rattle.kd_frozen.proofs.Laid.{cut_on}
use Rattle.kd_frozen.proofs.lay.cut.Goals as goal

pub returns-in-X : goal.returns-in-X
returns-in-X c =
    let s = c.select_nth_unstable_by_key.ensures in
    cut_on X _ _ _ _ _ _ c.in-X.is s.permutation (s.front_len ∙ c.first_of-at.ensures.value) (s.partitioned (λ (d : Cell). on X d.point) (always_returns_same _ _ _ (λ a r g h. search rules)))

pub returns-in-Y : goal.returns-in-Y
returns-in-Y c =
    let s = c.select_nth_unstable_by_key-in-Y.ensures in
    cut_on Y _ _ _ _ _ _ c.in-Y.is s.permutation (s.front_len ∙ c.first_of-at.ensures.value) (s.partitioned (λ (d : Cell). on Y d.point) (always_returns_same _ _ _ (λ a r g h. search rules)))

pub returns-in-Z : goal.returns-in-Z
returns-in-Z c =
    let s = c.select_nth_unstable_by_key-in-Z.ensures in
    cut_on Z _ _ _ _ _ _ c.in-Z.is s.permutation (s.front_len ∙ c.first_of-at.ensures.value) (s.partitioned (λ (d : Cell). on Z d.point) (always_returns_same _ _ _ (λ a r g h. search rules)))
