-- The order in which the places of a piece are searched. Cited by private functions alone.
use Rattle.std.specs.Prelude.{◌≡◌, ℕ, ◌/◌, ◌%◌, ◌<◌, List, [], length, get_or}
use Rattle.std.specs.Int.{cast_unsigned, w64}
use Rattle.point_geom.specs.Place.{Place}
use Rattle.map_fold.specs.declared.hits.Hit.{Hit}

-- the slab that a place is in: each is 2,048 millimetres of x, and after 32 the same come again
unfoldable pub slab_of : Place → ℕ
slab_of q = cast_unsigned w64 q.x / 2048 % 32

-- the list of each place in the first slabs is what f finds for it
abbrev pub AreFilled : (Place → List Hit) → ℕ → List Place → List (List Hit) → Type 0
AreFilled f slabs qs lists = (i : ℕ) (d : Place) → i < length qs → slab_of (get_or qs i d) < slabs → get_or lists i [] ≡ f (get_or qs i d)
