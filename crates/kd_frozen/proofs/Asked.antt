-- What a search of all cells finds.
use Rattle.std.proofs.Common.{◌≡◌, ℕ, List, [], take, sym, ap, ◌∙◌, subst, Option}
use Rattle.point_geom.specs.Place.{Place}
use Rattle.map_items.specs.declared.item.Item.{Item}
use Rattle.map_fold.specs.declared.hits.Hit.{Hit}
use Rattle.map_fold.specs.Answers.{candidates, nearest}
use Rattle.map_fold.specs.Nearest.{AreNearest}
use Rattle.map_fold.proofs.Found.{nearest_are}
use Rattle.kd_tree.specs.Contents.{AreDistinct, by_number}
use Rattle.kd_tree.proofs.Held.{rises_rising}
use Rattle.kd_tree.proofs.Numbered.{by_number_rises}
use Rattle.kd_search.specs.Nearest.{put_all}
use Rattle.kd_search.proofs.Offered.{put_all-nil, in_order-by_number}

-- put into nothing, the hits are the nearest
pub from_none : (k : ℕ) (q : Place) (r : Option ℕ) (m : List Item) (old hits : List Hit) → AreDistinct m → old ≡ []
    → hits ≡ take k (put_all (candidates m q r) old) → hits ≡ nearest (by_number m) k q r
from_none k q r m old hits d none e =
    e ∙ ap (λ z. take k (put_all (candidates m q r) z)) none
    ∙ ap (take k) (put_all-nil (candidates m q r) ∙ sym (in_order-by_number q r m d))

-- and so they are what that is said to be
pub are_nearest : (k : ℕ) (q : Place) (r : Option ℕ) (m : List Item) (hits : List Hit) → AreDistinct m → hits ≡ nearest (by_number m) k q r → AreNearest (by_number m) k q r hits
are_nearest k q r m hits d e =
    subst (AreNearest (by_number m) k q r) (sym e) (nearest_are 0 (by_number m) k q r (rises_rising (by_number m) (by_number_rises m d)))
