-- The definitions at small maps.
use Rattle.std.proofs.Common.{◌≡◌, ℕ, ℤ, pos, refl, List, [], ◌∷◌}
use Rattle.std.specs.declared.option.Option.TheVariants.{None, Some}
use Rattle.point_geom.specs.Place.{Place}
use Rattle.point_geom.specs.Boxes.{unit_box}
use Rattle.point_geom.specs.Corners.{corner_of}
use Rattle.node_labels.specs.Labels.{suspend_tag, restore_tag, delete_tag}
use Rattle.map_items.specs.declared.item.Item.{Item}
use Rattle.map_items.specs.declared.update.Update.TheVariants.{Add}
use Rattle.map_fold.specs.declared.hits.Hit.{Hit}
use Rattle.map_items.specs.Contents.{mark, thin, winner, live_at, in_box, everything, totals}
use Rattle.map_fold.specs.Answers.{nearest, inside, count}
use Rattle.map_items.specs.Fold.{fold, thin_points, no_points}
use lib.IntN.{negsuc}

abbrev at : ℤ → ℤ → ℤ → Place
at x y z = record { x = x; y = y; z = z; intensity = 0 }

abbrev origin : Place
origin = at (pos 0) (pos 0) (pos 0)

abbrev hit : ℕ → Place → ℕ → Hit
hit n p d = record { number = n; point = p; dist2 = d }

abbrev three : List Item
three = (fold 200 (Add (at (pos 5) (pos 0) (pos 0) ∷ at (pos 0) (pos 5) (pos 0) ∷ at (pos 0) (pos 0) (pos 5) ∷ []) ∷ [])).items

tie_by_coordinates : nearest three 2 origin None ≡ hit 2 (at (pos 0) (pos 0) (pos 5)) 25 ∷ hit 1 (at (pos 0) (pos 5) (pos 0)) 25 ∷ []
tie_by_coordinates = refl

abbrev sevens : List Item
sevens = (fold 200 (Add (at (pos 7) (pos 7) (pos 7) ∷ at (pos 7) (pos 7) (pos 7) ∷ []) ∷ [])).items

tie_by_number : nearest sevens 1 (at (pos 7) (pos 7) (pos 7)) None ≡ hit 0 (at (pos 7) (pos 7) (pos 7)) 0 ∷ []
tie_by_number = refl

-- the intensity doesn't come before the number
abbrev bright : List Item
bright = (fold 200 (Add (record (at (pos 7) (pos 7) (pos 7)) { intensity = 9 } ∷ at (pos 7) (pos 7) (pos 7) ∷ []) ∷ [])).items

tie_whatever_the_intensity : nearest bright 1 (at (pos 7) (pos 7) (pos 7)) None ≡ hit 0 (record (at (pos 7) (pos 7) (pos 7)) { intensity = 9 }) 0 ∷ []
tie_whatever_the_intensity = refl

-- a greatest distance admits its own value
at_its_end : nearest three 1 origin (Some 5) ≡ hit 2 (at (pos 0) (pos 0) (pos 5)) 25 ∷ []
at_its_end = refl

beyond_its_end : nearest three 3 origin (Some 4) ≡ []
beyond_its_end = refl

-- the point (10, 10, 10) is there under 0; (100, 100, 100) comes and wins, and the other is dropped
newer_wins : thin 200 (live_at 0 (at (pos 10) (pos 10) (pos 10)) ∷ []) 1 (at (pos 100) (pos 100) (pos 100)) ≡ live_at 1 (at (pos 100) (pos 100) (pos 100)) ∷ []
newer_wins = refl

-- the winner that was there stays under its number
older_wins : winner 200 (live_at 0 (at (pos 100) (pos 100) (pos 100)) ∷ []) 2 (at (pos 50) (pos 50) (pos 50)) ≡ live_at 0 (at (pos 100) (pos 100) (pos 100))
older_wins = refl

-- of three points on negative coordinates two share a voxel, and all three numbers are used up
negative_voxels : thin_points 200 (at (negsuc 0) (pos 0) (pos 0) ∷ at (negsuc 199) (pos 0) (pos 0) ∷ at (negsuc 200) (pos 0) (pos 0) ∷ []) no_points
    ≡ record { items = live_at 0 (at (negsuc 0) (pos 0) (pos 0)) ∷ live_at 2 (at (negsuc 200) (pos 0) (pos 0)) ∷ []; next = 3 }
negative_voxels = refl

-- what was deleted is gone, and what is suspended comes back
abbrev two : List Item
two = mark three (in_box (unit_box (at (pos 5) (pos 0) (pos 0)))) delete_tag

gone_for_good : mark two everything restore_tag ≡ two
gone_for_good = refl

hidden : nearest (mark two everything suspend_tag) 3 origin None ≡ []
hidden = refl

back_again : mark (mark two everything suspend_tag) everything restore_tag ≡ two
back_again = refl

counted : totals (mark three (in_box (unit_box (at (pos 0) (pos 5) (pos 0)))) suspend_tag) ≡ record { live = 2; suspended = 1; dropped = 0 }
counted = refl

-- a box is half-open: its upper side is left out
listed : inside three (record { lo = corner_of origin; hi = corner_of (at (pos 5) (pos 9) (pos 9)) }) 1 ≡ live_at 1 (at (pos 0) (pos 5) (pos 0)) ∷ []
listed = refl

all_counted : count three (record { lo = corner_of origin; hi = corner_of (at (pos 5) (pos 9) (pos 9)) }) ≡ 2
all_counted = refl
