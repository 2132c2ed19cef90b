-- Searches whose squared distances fit 64 bits. Cited by private functions alone.
use Rattle.std.specs.Prelude.{◌≡◌, ℕ, ◌^◌, ◌<◌, All, List, min}
use Rattle.std.specs.declared.option.Option.{Option}
use Rattle.point_geom.specs.Place.{Place}
use Rattle.point_geom.specs.Distances.{dist2}
use Rattle.map_items.specs.declared.item.Item.{Item}
use Rattle.map_fold.specs.declared.hits.Hit.{Hit}
use Rattle.kd_search.specs.Nearest.{IsBound}

-- the square of each item's distance from q fits 64 bits
abbrev pub AreClose : Place → List Item → Type 0
AreClose q m = All (λ i. dist2 q i.point < 2 ^ 64) m

-- A bound on squared distances, cut off where 64 bits end.
pub record IsCloseBound (k : ℕ) (r : Option ℕ) (hits : List Hit) (bound : ℕ) : Type 0 where
  pub whole : ℕ
  pub bounds : IsBound k r hits whole
  pub cut : bound ≡ min whole 18446744073709551615
