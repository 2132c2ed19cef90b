-- Updates that thin the voxel of one point.
use Rattle.std.proofs.Common.{◌≡◌, ℕ, [], ◌∷◌, ap, sym, subst, ◌∙◌}
use Rattle.point_geom.specs.Place.{Place}
use Rattle.map_items.specs.declared.update.Update.{Update}
use Rattle.map_items.specs.declared.update.Update.TheVariants.{Thin}
use Rattle.map_items.specs.Contents.{thin}
use Rattle.map_items.specs.Fold.{MapAt, step}
use Rattle.map_fold.specs.Thinned.{IsThinned}
use Rattle.map_fold.proofs.Thinning.{thinned_is}
use Rattle.kd_tree.specs.Shape.{Shape}
use Rattle.kd_tree.specs.Contents.{contents}
use Rattle.kd_tree.proofs.Held.{are_contents}
use Rattle.rebuild_core.specs.Lawful.{IsLawful, StateAt}
use Rattle.kd_tree.specs.Maps.{map_of}
use Rattle.rebuild_core.specs.OnePoint.{IsThinnedFrom, IsRejectedFrom}
use Rattle.map_update.specs.OnePoint.{IsRejected}

-- what a state rejects, a copy of its tree rejects
pub turned_copy : (s z : StateAt) (t : Shape) (p : Place) → s ≡ z → t ≡ s.tree → IsRejectedFrom z p → IsRejected s.settings.voxel (map_of t s.next) p
turned_copy s z t p is same turned =
    let here : IsRejectedFrom s p = subst (λ (x : StateAt). IsRejectedFrom x p) (sym is) turned in
    subst (λ (x : Shape). IsRejected s.settings.voxel (map_of x s.next) p) (sym same) here

-- a step that thins the voxel of one point does what is said of it
pub thinned_from : (u : Update) (s z : StateAt) (copy t : Shape) (next : ℕ) (p : Place) → s ≡ z → IsLawful s
    → copy ≡ s.tree → map_of t next ≡ step s.settings.voxel u (map_of copy s.next) → u ≡ Thin (p ∷ [])
    → IsThinnedFrom z p t
thinned_from u s z copy t next p is k same stepped one =
    let whole : map_of t next ≡ step s.settings.voxel (Thin (p ∷ [])) (map_of s.tree s.next) =
    stepped ∙ ap (λ x. step s.settings.voxel u (map_of x s.next)) same ∙ ap (λ x. step s.settings.voxel x (map_of s.tree s.next)) one in
    let held : contents t ≡ thin s.settings.voxel (contents s.tree) s.next p = ap (λ (m : MapAt). m.items) whole in
    let law = thinned_is s.settings.voxel s.next (contents s.tree) p k.sizes.voxel_from (are_contents s.next s.tree k.sound k.below) in
    let here : IsThinnedFrom s p t = subst (IsThinned s.settings.voxel (contents s.tree) s.next p) (sym held) law in
    subst (λ (x : StateAt). IsThinnedFrom x p t) is here
