-- Lists that grow by what is read.
use Rattle.std.proofs.Common.{◌≡◌, ℕ, ◌≤◌, List, [], ◌∷◌, ◌++◌, length, drop, Result, Ok, Err, refl, sym, ap, ◌∙◌, append_assoc, arith, ◌*◌, ◌/◌, ◌%◌, nat_eq, not, ℤ, FitsSigned, w64}
use Rattle.std.specs.Prelude.{nat_le}
use Rattle.std.proofs.lemmas.Int.{ints}
use Rattle.std.proofs.lemmas.Bool.Decides.{nat_tests}
use Rattle.scan_log.specs.declared.format.Format.{Format}
use Rattle.scan_log.specs.declared.format.Format.TheVariants.{One, Two}
use Rattle.scan_log.specs.Steps.{◌>>=◌}
use Rattle.point_geom.specs.Place.{Place, Bounds}
use Rattle.scan_log.specs.declared.fault.LogCause.{LogCause}
use Rattle.scan_log.specs.Faults.{are_groups}
use Rattle.scan_log.specs.Scripts.{IsLogCoordinate}
use Rattle.scan_log.proofs.StepLemmas.{both, passed}
use Rattle.scan_log.specs.Reading.{scanned_place_of, scanned_places_of, first_coordinate, first_intensity, first_place, first_scanned, groups_of, place_of, places_of, boxes_of, with_boxes}

-- the list before what is read
abbrev pub with_front : {A E : Type 0} → List A → Result (List A) E → Result (List A) E
with_front front (Ok xs) = Ok (front ++ xs)
with_front front (Err e) = Err e

-- one more before what is read
with_front-more : {A E : Type 0} (front : List A) (x : A) (read : Result (List A) E)
    → with_front front (read >>= λ xs. Ok (x ∷ xs)) ≡ with_front (front ++ x ∷ []) read
with_front-more front x (Ok xs) = ap Ok (sym (append_assoc front (x ∷ []) xs))
with_front-more front x (Err e) = refl

-- the first point is that of the first three fields, each of which is read in turn
pub first_place_is : (format : Format) (fields : List (List ℕ)) → 3 ≤ length fields → first_place format fields
    ≡ (first_coordinate format fields >>= λ x. first_coordinate format (drop 1 fields) >>= λ y. first_coordinate format
    (drop 1 (drop 1 fields)) >>= λ z. Ok (record { x = x; y = y; z = z; intensity = 0 }))
unfolding place_of
first_place_is format [] h = absurd (omega arith)
first_place_is format (f ∷ []) h = absurd (omega arith)
first_place_is format (f ∷ g ∷ []) h = absurd (omega arith)
first_place_is format (f ∷ g ∷ h ∷ rest) _ = refl

-- a coordinate of either version fits
pub coordinate_fits : (format : Format) (c : ℤ) → IsLogCoordinate format c → FitsSigned w64 c
coordinate_fits One c h = grind (arith, ints, h.0, h.1)
coordinate_fits Two c h = grind (arith, ints, h.0, h.1)

pub first_place_read : (format : Format) (first second third : List (List ℕ)) (x y z : ℤ) → 3 ≤ length first → Ok x ≡ first_coordinate format first → second ≡ drop 1 first
    → Ok y ≡ first_coordinate format second → third ≡ drop 1 second → Ok z ≡ first_coordinate format third → first_place format first ≡ Ok (record { x = x; y = y; z = z; intensity = 0 })
first_place_read format first second third x y z h read behind next farther last =
    first_place_is format first h ∙ rw (← behind, ← farther, ← read, ← next, ← last) refl

-- the first that is no coordinate is the fault
pub first_bad : (format : Format) (first : List (List ℕ)) (e : LogCause) → 3 ≤ length first → Err e ≡ first_coordinate format first → Err e ≡ first_place format first
first_bad format first e many bad = sym (first_place_is format first many ∙ rw (← bad) refl)

pub second_bad : (format : Format) (first second : List (List ℕ)) (x : ℤ) (e : LogCause) → 3 ≤ length first → Ok x ≡ first_coordinate format first → second ≡ drop 1 first
    → Err e ≡ first_coordinate format second → Err e ≡ first_place format first
second_bad format first second x e many read behind bad = sym (first_place_is format first many ∙ rw (← behind, ← read, ← bad) refl)

pub third_bad : (format : Format) (first second third : List (List ℕ)) (x y : ℤ) (e : LogCause) → 3 ≤ length first → Ok x ≡ first_coordinate format first → second ≡ drop 1 first
    → Ok y ≡ first_coordinate format second → third ≡ drop 1 second → Err e ≡ first_coordinate format third → Err e ≡ first_place format first
third_bad format first second third x y e many read behind next farther bad = sym (first_place_is format first many ∙ rw (← behind, ← farther, ← read, ← next, ← bad) refl)

pub drop_three : (fields : List (List ℕ)) → drop 1 (drop 1 (drop 1 fields)) ≡ drop 3 fields
drop_three [] = refl
drop_three (f ∷ []) = refl
drop_three (f ∷ g ∷ []) = refl
drop_three (f ∷ g ∷ h ∷ rest) = refl

-- the groups are all fields
record Whole (size n : ℕ) (fields : List (List ℕ)) : Type 0 where
  none_left : length fields % size ≡ 0
  count : length fields / size ≡ n

whole : (size most n : ℕ) (fields : List (List ℕ)) → Ok n ≡ groups_of size most fields → Whole size n fields
unfolding groups_of
whole size most n fields is =
    let p = passed (are_groups size fields) _ _ n (sym is) in
    let q = passed (nat_le (length fields / size) most) _ _ n p.1 in
    let r = both (not (nat_eq (length fields) 0)) (nat_eq (length fields % size) 0) p.0 in
    record { none_left = grind (arith, nat_tests, r.1); count = cc (q.1) }

pub threes : (most n : ℕ) (fields : List (List ℕ)) → Ok n ≡ groups_of 3 most fields → length fields ≡ 3 * n
threes most n fields is = let w = whole 3 most n fields is in omega (arith, w.none_left, w.count)

pub fours : (most n : ℕ) (fields : List (List ℕ)) → Ok n ≡ groups_of 4 most fields → length fields ≡ 4 * n
fours most n fields is = let w = whole 4 most n fields is in omega (arith, w.none_left, w.count)

-- no point was read
pub points_bad : (format : Format) (front : List Place) (fields : List (List ℕ)) (e : LogCause) → 3 ≤ length fields → first_place format fields ≡ Err e
    → with_front front (places_of format fields) ≡ Err e
points_bad format front [] e h is = absurd (omega arith)
points_bad format front (f ∷ []) e h is = absurd (omega arith)
points_bad format front (f ∷ g ∷ []) e h is = absurd (omega arith)
points_bad format front (f ∷ g ∷ h ∷ rest) e _ is = rw is refl

-- one more point was read, of three fields
pub points_more : (format : Format) (front : List Place) (p : Place) (f g h : List ℕ) (rest : List (List ℕ)) → Ok p ≡ place_of format f g h
    → with_front front (places_of format (f ∷ g ∷ h ∷ rest)) ≡ with_front (front ++ p ∷ []) (places_of format rest)
points_more format front p f g h rest is = rw (← is) (with_front-more front p (places_of format rest))

-- one more point was read
pub points_next : (format : Format) (front : List Place) (fields : List (List ℕ)) (p : Place) → 3 ≤ length fields → first_place format fields ≡ Ok p
    → with_front front (places_of format fields) ≡ with_front (front ++ p ∷ []) (places_of format (drop 3 fields))
points_next format front [] p h is = absurd (omega arith)
points_next format front (f ∷ []) p h is = absurd (omega arith)
points_next format front (f ∷ g ∷ []) p h is = absurd (omega arith)
points_next format front (f ∷ g ∷ h ∷ rest) p _ is = points_more format front p f g h rest (sym is)

-- one more box was read
pub boxes_more : (format : Format) (front : List Bounds) (box : Bounds) (fields rest : List (List ℕ)) → boxes_of format fields ≡ with_boxes format (Ok box) rest
    → with_front front (boxes_of format fields) ≡ with_front (front ++ box ∷ []) (boxes_of format rest)
boxes_more format front box fields rest is = rw is (with_front-more front box (boxes_of format rest))

-- a scanned point is read as a place, and then its intensity
pub first_scanned_is : (fields : List (List ℕ)) → 4 ≤ length fields → first_scanned fields
    ≡ (first_place Two fields >>= λ p. first_intensity (drop 3 fields) >>= λ n. Ok (record p { intensity = n }))
unfolding scanned_place_of
first_scanned_is [] h = absurd (omega arith)
first_scanned_is (f ∷ []) h = absurd (omega arith)
first_scanned_is (f ∷ g ∷ []) h = absurd (omega arith)
first_scanned_is (f ∷ g ∷ h ∷ []) many = absurd (omega (arith, many))
first_scanned_is (f ∷ g ∷ h ∷ i ∷ rest) _ = refl

-- one more point was read, of four fields
pub scanned_more : (front : List Place) (p : Place) (f g h i : List ℕ) (rest : List (List ℕ)) → Ok p ≡ scanned_place_of f g h i
    → with_front front (scanned_places_of Two (f ∷ g ∷ h ∷ i ∷ rest)) ≡ with_front (front ++ p ∷ []) (scanned_places_of Two rest)
scanned_more front p f g h i rest is = rw (← is) (with_front-more front p (scanned_places_of Two rest))

pub scanned_next : (front : List Place) (fields : List (List ℕ)) (p : Place) → 4 ≤ length fields → first_scanned fields ≡ Ok p
    → with_front front (scanned_places_of Two fields) ≡ with_front (front ++ p ∷ []) (scanned_places_of Two (drop 4 fields))
scanned_next front [] p h is = absurd (omega arith)
scanned_next front (f ∷ []) p h is = absurd (omega arith)
scanned_next front (f ∷ g ∷ []) p h is = absurd (omega arith)
scanned_next front (f ∷ g ∷ h ∷ []) p many is = absurd (omega (arith, many))
scanned_next front (f ∷ g ∷ h ∷ i ∷ rest) p _ is = scanned_more front p f g h i rest (sym is)
