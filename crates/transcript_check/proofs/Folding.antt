-- Folding a history part by part.
use Rattle.std.proofs.Common.{◌≡◌, ℕ, zero, suc, ◌+◌, ◌-◌, ◌≤◌, Bool, true, false, cond, List, [], ◌∷◌, ◌++◌, take, drop, map, Option, Some, None, refl, sym, ap, ◌∙◌, arith, nat_lt}
use Rattle.std.specs.Option.{option_map, unwrap_or}
use Rattle.map_items.specs.declared.update.Update.{Update}
use Rattle.map_items.specs.Fold.{MapAt, step, fold, fold_from, no_points, points_in}
use Rattle.map_items.proofs.Folds.{step_next}
use Rattle.scan_log.specs.declared.command.Command.{Command}
use Rattle.scan_log.specs.Commands.{command_update}
use Rattle.scan_log.specs.Scripts.{points_of}
use Rattle.scan_log.specs.Transcript.{marked_updates, put_if, put_update, history}
use Rattle.transcript_check.specs.MarkedLines.{points_in_all, changes_of, updates_of}
use Rattle.transcript_check.specs.declared.order.Marked.{Marked}

pub fold_from-append : (voxel : ℕ) (us vs : List Update) (m : MapAt) → fold_from voxel (us ++ vs) m ≡ fold_from voxel vs (fold_from voxel us m)
fold_from-append voxel [] vs m = refl
fold_from-append voxel (u ∷ us) vs m = fold_from-append voxel us vs (step voxel u m)

-- the next number grows by the points
pub fold_next : (voxel : ℕ) (us : List Update) (m : MapAt) → (fold_from voxel us m).next ≡ m.next + points_in_all us
fold_next voxel [] m = omega arith
fold_next voxel (u ∷ us) m = let r = fold_next voxel us (step voxel u m) in let s = step_next voxel u m in omega arith

points-append : (us vs : List Update) → points_in_all (us ++ vs) ≡ points_in_all us + points_in_all vs
points-append [] vs = omega arith
points-append (u ∷ us) vs = let r = points-append us vs in omega arith

-- the points of a prefix are at most all
pub points_of_front : (n : ℕ) (us : List Update) → points_in_all (take n us) ≤ points_in_all us
points_of_front zero us = omega arith
points_of_front (suc n) [] = omega arith
points_of_front (suc n) (u ∷ us) = let r = points_of_front n us in omega arith

points_put : (m : ℕ) (u : Update) (hs : List (ℕ × Update)) → points_in_all (map (λ h. h.1) (put_update m u hs)) ≡ points_in u + points_in_all (map (λ h. h.1) hs)
points_put m u [] = omega arith
points_put m u (h ∷ hs) = go (nat_lt h.0 m) (points_put m u hs)
  where
    go : (b : Bool) → points_in_all (map (λ h. h.1) (put_update m u hs)) ≡ points_in u + points_in_all (map (λ h. h.1) hs)
        → points_in_all (map (λ h. h.1) (cond b (h ∷ put_update m u hs) ((m, u) ∷ h ∷ hs))) ≡ points_in u + (points_in h.1 + points_in_all (map (λ h. h.1) hs))
    go true r = omega (arith, r)
    go false r = omega arith

points_if : (m : ℕ) (made : Option Update) (hs : List (ℕ × Update))
    → points_in_all (map (λ h. h.1) (put_if m made hs)) ≡ unwrap_or (option_map points_in made) 0 + points_in_all (map (λ h. h.1) hs)
points_if m (Some u) hs = points_put m u hs
points_if m None hs = omega arith

-- a history submits no more points than its commands
pub points_of_history : (cs : List Command) (marks : List ℕ) → points_in_all (history cs marks) ≤ points_of cs
points_of_history [] [] = omega arith
points_of_history [] (m ∷ marks) = omega arith
points_of_history (c ∷ cs) [] = omega arith
points_of_history (c ∷ cs) (m ∷ marks) =
    let r = points_of_history cs marks in
    let p = points_if m (command_update c) (marked_updates cs marks) in
    omega arith

-- the updates in order are the history
pub changes_history : (cs : List Command) (marks : List ℕ) (us : List Marked) → updates_of us ≡ marked_updates cs marks → changes_of us ≡ history cs marks
changes_history cs marks us is = all us ∙ ap (λ (hs : List (ℕ × Update)). map (λ h. h.1) hs) is
  where
    all : (us : List Marked) → changes_of us ≡ map (λ h. h.1) (updates_of us)
    all [] = refl
    all (u ∷ us) = ap (λ (vs : List Update). u.update.now ∷ vs) (all us)

-- a prefix, and the part after it up to a later index
pub front_parts : (i j : ℕ) (us : List Update) → i ≤ j → take i us ++ take (j - i) (drop i us) ≡ take j us
front_parts zero j us h = let e : j - 0 ≡ j = omega arith in ap (λ n. take n us) e
front_parts (suc i) zero us h = absurd (omega arith)
front_parts (suc i) (suc j) [] h = nothing (suc j - suc i)
  where
    nothing : (n : ℕ) → take {A = Update} n [] ≡ []
    nothing zero = refl
    nothing (suc n) = refl
front_parts (suc i) (suc j) (u ∷ us) h =
    let e : suc j - suc i ≡ j - i = omega arith in
    rw e (ap (λ (vs : List Update). u ∷ vs) (front_parts i j us (omega arith)))

-- the map after the part up to a later place
pub fold_on : (voxel i j : ℕ) (us : List Update) (m : MapAt) → i ≤ j → m ≡ fold voxel (take i us) → fold_from voxel (take (j - i) (drop i us)) m ≡ fold voxel (take j us)
fold_on voxel i j us m h is =
    ap (fold_from voxel (take (j - i) (drop i us))) is ∙ sym (fold_from-append voxel (take i us) (take (j - i) (drop i us)) no_points) ∙ ap (fold voxel) (front_parts i j us h)

-- there is room for the part
pub room_on : (voxel i j : ℕ) (us : List Update) (m : MapAt) (most : ℕ) → i ≤ j → m ≡ fold voxel (take i us) → points_in_all us ≤ most
    → m.next + points_in_all (take (j - i) (drop i us)) ≤ most
room_on voxel i j us m most h is few =
    let next : m.next ≡ 0 + points_in_all (take i us) = ap (λ (n : MapAt). n.next) is ∙ fold_next voxel (take i us) no_points in
    let parts = ap points_in_all (front_parts i j us h) in
    let both = points-append (take i us) (take (j - i) (drop i us)) in
    let front = points_of_front j us in
    omega arith
