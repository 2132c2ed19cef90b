-- What a point that is put does to the subtree at a path, as operations on that subtree's own items.
use Rattle.std.specs.Prelude.{ℕ, Bool, not, List, [], ◌∷◌, ◌++◌, if◌then◌else◌}
use Rattle.point_geom.specs.Place.{Place}
use Rattle.map_items.specs.declared.op.Op.{Op}
use Rattle.map_items.specs.declared.op.Op.TheVariants.{Put}
use Rattle.kd_tree.specs.Shape.{Shape, leaf, fork}
use Rattle.kd_tree.specs.Walk.{tagged}
use Rattle.kd_tree.specs.Parts.{child}
use Rattle.kd_tree.specs.declared.path.Side.{Side}
use Rattle.kd_tree.specs.declared.path.Side.TheVariants.{Left, Right}
use Rattle.kd_update.specs.Put.{goes_left}
use Rattle.kd_mark.specs.Watch.{handed}

-- whether what goes left, or doesn't, goes to this side
abbrev pub goes_to : Side → Bool → Bool
goes_to Left b = b
goes_to Right b = not b

-- What is logged of a point that is put, for the subtree at the path. Where its route meets each node above, it is the action that
-- the last of them has pending for the watched root, and the point, if its route goes on to the root.
unfoldable pub logged_put : ℕ → Place → List Side → Shape → List Op
logged_put n p [] t = Put n p ∷ []
logged_put n p (side ∷ path) leaf = []
logged_put n p (side ∷ path) (fork h l r) =
    handed path h.pending ++ (if goes_to side (goes_left h.axis p h.item.point) then logged_put n p path (tagged h.pending (child side l r)) else [])
