-- Updates that thin the voxel of one point, and those that don't.
use Rattle.std.proofs.Common.{◌≡◌, List, [], ◌∷◌, sym, ◌∙◌}
use Rattle.point_geom.specs.Place.{Bounds, Place}
use Rattle.map_items.specs.declared.update.Update.{Update}
use Rattle.map_items.specs.declared.update.Update.TheVariants.{Thin, Add, Delete, Suspend, Restore}

-- the list of an update that thins the voxel of one point has that point
pub points_one : (ps : List Place) (u : Update) (p : Place) → u ≡ Thin ps → u ≡ Thin (p ∷ []) → ps ≡ p ∷ []
points_one ps u p e f = let same : Thin ps ≡ Thin (p ∷ []) = sym e ∙ f in cc

-- other updates thin nothing

pub add_not_thin : (ps qs : List Place) → Add ps ≡ Thin qs → ⊥
add_not_thin ps qs e = absurd cc

pub delete_not_thin : (cs : List Bounds) (qs : List Place) → Delete cs ≡ Thin qs → ⊥
delete_not_thin cs qs e = absurd cc

pub suspend_not_thin : (cs : List Bounds) (qs : List Place) → Suspend cs ≡ Thin qs → ⊥
suspend_not_thin cs qs e = absurd cc

pub restore_not_thin : (cs : List Bounds) (qs : List Place) → Restore cs ≡ Thin qs → ⊥
restore_not_thin cs qs e = absurd cc
