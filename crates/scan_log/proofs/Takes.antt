-- What is read of points and boxes is spelled so, and in its limits.
use Rattle.std.proofs.Common.{◌≡◌, ℕ, ◌*◌, ◌/◌, ◌<◌, ◌≤◌, true, List, [], ◌∷◌, ◌++◌, length, refl, ap, ◌∙◌, arith, ℤ, pos, Ok}
use lib.IntN.{negsuc}
use Rattle.std.specs.Prelude.{not, nat_eq, nat_le, int_le}
use Rattle.std.specs.List.{flat_map, AllByRecursion}
use Rattle.std.specs.Str.{bytes_eq}
use Rattle.std.proofs.lemmas.Bool.Decides.{nat_tests}
use Rattle.std.proofs.lemmas.Int.{ints}
use Rattle.std.proofs.lemmas.Slice.Eq.{bytes_eq-Decides}
use Rattle.point_geom.specs.Place.{Place, Bounds, IsUpright}
use Rattle.point_geom.specs.declared.cuboid.Corner.{Corner}
use Rattle.scan_log.specs.declared.format.Format.{Format}
use Rattle.scan_log.specs.Formats.{lowest, highest, box_highest, width}
use Rattle.scan_log.specs.declared.format.Format.TheVariants.{One, Two}
use Rattle.scan_log.specs.Faults.{are_groups}
use Rattle.scan_log.specs.Reading.{place_of, places_of, scanned_place_of, scanned_places_of, few_scanned_of, corner_of, is_upright, box_of, boxes_of, groups_of, few_places_of, few_boxes_of}
use Rattle.scan_log.specs.Numbers.{coordinate, corner_number, natural_in}
use Rattle.scan_log.specs.Scripts.{IsBoxCorner, IsCallerBox, AreBoxes, IsLogPlace, IsScannedPlace}
use Rattle.scan_log.specs.Spelling.{point_fields, scanned_fields, corner_fields, box_fields}
use Rattle.scan_log.proofs.StepLemmas.{both, bound, passed}
use Rattle.scan_log.proofs.Spelled.{Takes, natural_takes, number_takes}

-- the test of a word
pub word_is : (xs ys : List ℕ) → bytes_eq xs ys ≡ true → xs ≡ ys
word_is xs ys h = (bytes_eq-Decides xs ys).0 h

coordinate_takes : (format : Format) (f : List ℕ) (n : ℤ) → coordinate format f ≡ Ok n → Takes (lowest format) (highest format) f n
coordinate_takes One f n e =
    number_takes (negsuc 999999999) (pos 1000000000) f n (record { sfits = omega arith }) (record { sfits = omega arith }) e
coordinate_takes Two f n e =
    number_takes (negsuc 1099511627775) (pos 1099511627776) f n (record { sfits = omega arith }) (record { sfits = omega arith }) e

pub place_takes : (format : Format) (f g h : List ℕ) (p : Place) → place_of format f g h ≡ Ok p → (f ∷ g ∷ h ∷ [] ≡ point_fields p) × IsLogPlace format p
unfolding place_of
place_takes format f g h p e =
    let x = bound (coordinate format f) _ p e in
    let y = bound (coordinate format g) _ p x.2 in
    let z = bound (coordinate format h) _ p y.2 in
    let is : record { x = x.0; y = y.0; z = z.0; intensity = 0 } ≡ p = cc in
    let tx = coordinate_takes format f x.0 x.1 in
    let ty = coordinate_takes format g y.0 y.1 in
    let tz = coordinate_takes format h z.0 z.1 in
    rw (← is) (rw (← tx.text, ← ty.text, ← tz.text) refl, ((tx.from, tx.to), (ty.from, ty.to), (tz.from, tz.to), refl))

places_takes : (format : Format) (fs : List (List ℕ)) (ps : List Place) → places_of format fs ≡ Ok ps
    → (fs ≡ flat_map point_fields ps) × AllByRecursion (IsLogPlace format) ps
places_takes format [] ps e = let is : [] ≡ ps = cc in rw (← is) (refl, tt)
places_takes format (f ∷ []) ps e = cc
places_takes format (f ∷ g ∷ []) ps e = cc
places_takes format (f ∷ g ∷ h ∷ rest) ps e =
    let p = bound (place_of format f g h) _ ps e in
    let r = bound (places_of format rest) _ ps p.2 in
    let is : p.0 ∷ r.0 ≡ ps = cc in
    let here = place_takes format f g h p.0 p.1 in
    let later = places_takes format rest r.0 r.1 in
    rw (← is)
    (ap (λ (fs : List (List ℕ)). fs ++ rest) here.0 ∙ ap (λ (fs : List (List ℕ)). point_fields p.0 ++ fs) later.0, (here.1, later.1))

scanned_place_takes : (f g h i : List ℕ) (p : Place) → scanned_place_of f g h i ≡ Ok p → (f ∷ g ∷ h ∷ i ∷ [] ≡ scanned_fields Two p) × IsScannedPlace Two p
unfolding scanned_place_of
scanned_place_takes f g h i p e =
    let q = bound (place_of Two f g h) _ p e in
    let n = bound (natural_in 0 65535 i) _ p q.2 in
    let is : record q.0 { intensity = n.0 } ≡ p = cc n.2 in
    let t = place_takes Two f g h q.0 q.1 in
    let tn = natural_takes 0 65535 i n.0 (omega arith) (omega arith) n.1 in
    rw (← is) (rw (← tn.text) (ap (λ (fs : List (List ℕ)). fs ++ i ∷ []) t.0), (t.1.0, t.1.1, t.1.2, tn.to))

-- where points have no intensity, any point may be scanned
plain_scanned : (ps : List Place) → AllByRecursion (IsLogPlace One) ps → AllByRecursion (IsScannedPlace One) ps
plain_scanned [] h = tt
plain_scanned (p ∷ ps) h = ((h.0.0, h.0.1, h.0.2, omega (arith, h.0.3)), plain_scanned ps h.1)

scanned_places_take : (format : Format) (fs : List (List ℕ)) (ps : List Place) → scanned_places_of format fs ≡ Ok ps
    → (fs ≡ flat_map (scanned_fields format) ps) × AllByRecursion (IsScannedPlace format) ps
scanned_places_take One fs ps e = let t = places_takes One fs ps e in (t.0, plain_scanned ps t.1)
scanned_places_take Two [] ps e = let is : [] ≡ ps = cc in rw (← is) (refl, tt)
scanned_places_take Two (f ∷ []) ps e = cc
scanned_places_take Two (f ∷ g ∷ []) ps e = cc
scanned_places_take Two (f ∷ g ∷ h ∷ []) ps e = cc
scanned_places_take Two (f ∷ g ∷ h ∷ i ∷ rest) ps e =
    let p = bound (scanned_place_of f g h i) _ ps e in
    let r = bound (scanned_places_of Two rest) _ ps p.2 in
    let is : p.0 ∷ r.0 ≡ ps = cc in
    let here = scanned_place_takes f g h i p.0 p.1 in
    let later = scanned_places_take Two rest r.0 r.1 in
    rw (← is)
    (ap (λ (fs : List (List ℕ)). fs ++ rest) here.0 ∙ ap (λ (fs : List (List ℕ)). scanned_fields Two p.0 ++ fs) later.0, (here.1, later.1))

corner_number_takes : (format : Format) (f : List ℕ) (n : ℤ) → corner_number format f ≡ Ok n → Takes (lowest format) (box_highest format) f n
corner_number_takes One f n e =
    number_takes (negsuc 999999999) (pos 1000000001) f n (record { sfits = omega arith }) (record { sfits = omega arith }) e
corner_number_takes Two f n e =
    number_takes (negsuc 1099511627775) (pos 1099511627777) f n (record { sfits = omega arith }) (record { sfits = omega arith }) e

corner_takes : (format : Format) (f g h : List ℕ) (k : Corner) → corner_of format f g h ≡ Ok k
    → (f ∷ g ∷ h ∷ [] ≡ corner_fields k) × IsBoxCorner format k
unfolding corner_of
corner_takes format f g h k e =
    let x = bound (corner_number format f) _ k e in
    let y = bound (corner_number format g) _ k x.2 in
    let z = bound (corner_number format h) _ k y.2 in
    let is : record { x = x.0; y = y.0; z = z.0 } ≡ k = cc in
    let tx = corner_number_takes format f x.0 x.1 in
    let ty = corner_number_takes format g y.0 y.1 in
    let tz = corner_number_takes format h z.0 z.1 in
    rw (← is) (rw (← tx.text, ← ty.text, ← tz.text) refl, ((tx.from, tx.to), (ty.from, ty.to), (tz.from, tz.to)))

below : (lo hi : Corner) → is_upright lo hi ≡ true → IsUpright lo hi
below lo hi h =
    let p = both _ (int_le lo.z hi.z) h in
    let q = both (int_le lo.x hi.x) (int_le lo.y hi.y) p.0 in
    record { x = grind (arith, ints, q.0); y = grind (arith, ints, q.1); z = grind (arith, ints, p.1) }

pub box_takes : (format : Format) (a b c d f g : List ℕ) (box : Bounds) → box_of format a b c d f g ≡ Ok box
    → (a ∷ b ∷ c ∷ d ∷ f ∷ g ∷ [] ≡ box_fields box) × IsCallerBox format box
unfolding box_of
box_takes format a b c d f g box e =
    let lo = bound (corner_of format a b c) _ box e in
    let hi = bound (corner_of format d f g) _ box lo.2 in
    let p = passed (is_upright lo.0 hi.0) _ _ box hi.2 in
    let is : record { lo = lo.0; hi = hi.0 } ≡ box = cc p.1 in
    let tl = corner_takes format a b c lo.0 lo.1 in
    let th = corner_takes format d f g hi.0 hi.1 in
    rw (← is) (
      ap (λ (fs : List (List ℕ)). fs ++ d ∷ f ∷ g ∷ []) tl.0 ∙ ap (λ (fs : List (List ℕ)). corner_fields lo.0 ++ fs) th.0,
      record { lo = tl.1; hi = th.1; below = below lo.0 hi.0 p.0 },
    )

boxes_takes : (format : Format) (fs : List (List ℕ)) (cs : List Bounds) → boxes_of format fs ≡ Ok cs
    → (fs ≡ flat_map box_fields cs) × AllByRecursion (IsCallerBox format) cs
boxes_takes format [] cs e = let is : [] ≡ cs = cc in rw (← is) (refl, tt)
boxes_takes format (a ∷ []) cs e = cc
boxes_takes format (a ∷ b ∷ []) cs e = cc
boxes_takes format (a ∷ b ∷ c ∷ []) cs e = cc
boxes_takes format (a ∷ b ∷ c ∷ d ∷ []) cs e = cc
boxes_takes format (a ∷ b ∷ c ∷ d ∷ f ∷ []) cs e = cc
boxes_takes format (a ∷ b ∷ c ∷ d ∷ f ∷ g ∷ rest) cs e =
    let box = bound (box_of format a b c d f g) _ cs e in
    let r = bound (boxes_of format rest) _ cs box.2 in
    let is : box.0 ∷ r.0 ≡ cs = cc in
    let here = box_takes format a b c d f g box.0 box.1 in
    let later = boxes_takes format rest r.0 r.1 in
    rw (← is)
    (ap (λ (fs : List (List ℕ)). fs ++ rest) here.0 ∙ ap (λ (fs : List (List ℕ)). box_fields box.0 ++ fs) later.0, (here.1, later.1))

-- three fields a point, and six a box
pub length-point_fields : (ps : List Place) → length (flat_map point_fields ps) ≡ length ps * 3
length-point_fields [] = refl
length-point_fields (p ∷ ps) = omega (arith, length-point_fields ps)

pub length-scanned_fields : (format : Format) (ps : List Place) → length (flat_map (scanned_fields format) ps) ≡ length ps * width format
length-scanned_fields One [] = refl
length-scanned_fields Two [] = refl
length-scanned_fields One (p ∷ ps) = omega (arith, length-scanned_fields One ps)
length-scanned_fields Two (p ∷ ps) = omega (arith, length-scanned_fields Two ps)

pub length-box_fields : (cs : List Bounds) → length (flat_map box_fields cs) ≡ length cs * 6
length-box_fields [] = refl
length-box_fields (c ∷ cs) = omega (arith, length-box_fields cs)

-- what the count of the arguments shows
record Grouped (size most : ℕ) (args : List (List ℕ)) : Type 0 where
  some : 0 < length args
  few : length args / size ≤ most

groups_take : (size most : ℕ) (args : List (List ℕ)) (n : ℕ) → groups_of size most args ≡ Ok n → Grouped size most args
unfolding groups_of
groups_take size most args n e =
    let p = passed (are_groups size args) _ _ n e in
    let q = both (not (nat_eq (length args) 0)) _ p.0 in
    let r = passed (nat_le (length args / size) most) _ _ n p.1 in
    record { some = grind (arith, nat_tests, q.0); few = grind (arith, nat_tests, r.0) }

-- the points of a command
pub record FewPlaces (format : Format) (most : ℕ) (args : List (List ℕ)) (ps : List Place) : Type 0 where
  pub text : args ≡ flat_map point_fields ps
  pub some : 0 < length ps
  pub few : length ps ≤ most
  pub each : AllByRecursion (IsLogPlace format) ps

pub places_take : (format : Format) (most : ℕ) (args : List (List ℕ)) (n : ℕ) (ps : List Place) → groups_of 3 most args ≡ Ok n → places_of format args ≡ Ok ps
    → FewPlaces format most args ps
places_take format most args n ps e f =
    let g = groups_take 3 most args n e in
    let t = places_takes format args ps f in
    let count : length args ≡ length ps * 3 = ap length t.0 ∙ length-point_fields ps in
    record { text = t.0; some = omega (arith, g.some, count); few = omega (arith, g.few, count); each = t.1 }

pub few_places_take : (format : Format) (most : ℕ) (args : List (List ℕ)) (ps : List Place) → few_places_of format most args ≡ Ok ps → FewPlaces format most args ps
unfolding few_places_of
few_places_take format most args ps e =
    let n = bound (groups_of 3 most args) _ ps e in places_take format most args n.0 ps n.1 n.2

-- the points of a command that adds or thins them
pub record FewScanned (format : Format) (most : ℕ) (args : List (List ℕ)) (ps : List Place) : Type 0 where
  pub text : args ≡ flat_map (scanned_fields format) ps
  pub some : 0 < length ps
  pub few : length ps ≤ most
  pub each : AllByRecursion (IsScannedPlace format) ps
  pub count : length args / width format ≡ length ps

-- of `width format` numbers each
scanned_count : (format : Format) (n m : ℕ) → n ≡ m * width format → (n / width format ≡ m) × (0 < n → 0 < m)
scanned_count One n m is = (omega (arith, is), λ some. omega (arith, is, some))
scanned_count Two n m is = (omega (arith, is), λ some. omega (arith, is, some))

pub few_scanned_take : (format : Format) (most : ℕ) (args : List (List ℕ)) (ps : List Place) → few_scanned_of format most args ≡ Ok ps → FewScanned format most args ps
unfolding few_scanned_of
few_scanned_take format most args ps e =
    let n = bound (groups_of (width format) most args) _ ps e in
    let g = groups_take (width format) most args n.0 n.1 in
    let t = scanned_places_take format args ps n.2 in
    let k = scanned_count format (length args) (length ps) (ap length t.0 ∙ length-scanned_fields format ps) in
    record { text = t.0; some = k.1 g.some; few = rw k.0 at g.few; each = t.1; count = k.0 }

pub few_boxes_take : (format : Format) (args : List (List ℕ)) (cs : List Bounds) → few_boxes_of format args ≡ Ok cs → (args ≡ flat_map box_fields cs) × AreBoxes format cs
unfolding few_boxes_of
few_boxes_take format args cs e =
    let n = bound (groups_of 6 262144 args) _ cs e in
    let g = groups_take 6 262144 args n.0 n.1 in
    let t = boxes_takes format args cs n.2 in
    let count : length args ≡ length cs * 6 = ap length t.0 ∙ length-box_fields cs in
    (t.0, (omega (arith, g.some, count), omega (arith, g.few, count), t.1))
