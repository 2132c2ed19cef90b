-- What three updates make of an empty map.
use Rattle.std.proofs.Common.{◌≡◌, ℕ, ◌+◌, ◌≤◌, List, [], ◌∷◌, ◌++◌, length, refl, ap, sym, ◌∙◌, arith, true, append_assoc, append-nil}
use Rattle.std.specs.List.{AllByRecursion}
use Rattle.point_geom.specs.Place.{Place, Bounds}
use Rattle.point_geom.specs.Boxes.{holds}
use Rattle.node_labels.specs.Labels.{suspend_tag}
use Rattle.node_labels.specs.declared.label.Label.TheVariants.{Live, Suspended}
use Rattle.map_items.specs.declared.item.Item.{Item}
use Rattle.map_items.specs.Contents.{AreContents, mark, in_box, live_at}
use Rattle.map_items.specs.Fold.{MapAt, add_points}
use Rattle.map_items.proofs.Numbered.{put-above, contents_push}
use Rattle.map_renewal.specs.Renewed.{numbered_as}

map_same : (a b : List Item) (i j : ℕ) → a ≡ b → i ≡ j → ◌≡◌ {A = MapAt} (record { items = a; next = i }) (record { items = b; next = j })
map_same a b i j e f = rw (e, f) refl

-- points that are added to a map whose numbers are all below come behind its items
pub added : (ps : List Place) (n : ℕ) (m : List Item) → AreContents 0 n m
    → add_points ps (record { items = m; next = n }) ≡ record { items = m ++ numbered_as Live n ps; next = n + length ps }
added [] n m k = map_same m (m ++ []) n (n + length {A = Place} []) (sym (append-nil m)) (omega arith)
added (p ∷ ps) n m k =
    ap (λ x. add_points ps (record { items = x; next = n + 1 })) (put-above 0 n m p k)
    ∙ added ps (n + 1) (m ++ live_at n p ∷ []) (contents_push 0 n m p (omega arith) k)
    ∙ map_same _ _ _ _ (append_assoc m (live_at n p ∷ []) (numbered_as Live (n + 1) ps)) (omega arith)

-- all of them are suspended, where the box holds them
pub hidden : (c : Bounds) (ps : List Place) (n : ℕ) → AllByRecursion (λ p. holds c p ≡ true) ps → mark (numbered_as Live n ps) (in_box c) suspend_tag ≡ numbered_as Suspended n ps
hidden c [] n k = refl
hidden c (p ∷ ps) n k = rw (k.0) (ap (λ x. record { point = p; number = n; label = Suspended } ∷ x) (hidden c ps (n + 1) k.1))

-- suspended items under the numbers from n on
pub suspended_contents : (ps : List Place) (low n high : ℕ) → low ≤ n → high ≡ n + length ps → AreContents low high (numbered_as Suspended n ps)
suspended_contents [] low n high from e = tt
suspended_contents (p ∷ ps) low n high from e = (from, omega (arith, e), refl, suspended_contents ps (n + 1) (n + 1) high (omega arith) (omega (arith, e)))
