-- What is live in a voxel. Cited by private functions alone.
use Rattle.std.specs.Prelude.{◌≡◌, List, [], ◌∷◌}
use Rattle.map_items.specs.declared.item.Item.{Item}
use Rattle.map_fold.specs.declared.thin.Rivals.{Rivals}
use Rattle.map_fold.specs.declared.thin.Rivals.TheVariants as rivals

-- these items are none, or this one, or any
abbrev pub AreRivals : List Item → Rivals → Type 0
AreRivals items rivals.None = items ≡ []
AreRivals items (rivals.One w) = items ≡ w ∷ []
AreRivals items rivals.More = Unit {0}

-- these items are those found, and the rest
abbrev pub AreFound : List Item → List Item → Rivals → Type 0
AreFound items rest rivals.None = items ≡ rest
AreFound items rest (rivals.One w) = items ≡ w ∷ rest
AreFound items rest rivals.More = ⊥
