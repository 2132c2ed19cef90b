-- The fault of a line's fields is the one that reading them meets.
use Rattle.std.proofs.Common.{◌≡◌, ℕ, ◌+◌, ◌-◌, ◌/◌, ◌%◌, Bool, true, false, List, [], ◌∷◌, map, length, min, refl, sym, ap, ◌∙◌, arith, ℤ, pos, Option, None, Some, Result, Ok, Err}
use Rattle.std.specs.Prelude.{◌&&◌, ◌||◌, codes, nat_eq, nat_le, int_le, unsigned_abs, if◌then◌else◌}
use Rattle.std.specs.Result.{result_err}
use Rattle.std.specs.Str.{bytes_eq}
use Rattle.std.proofs.lemmas.Bool.Decides.{nat_tests}
use Rattle.std.proofs.lemmas.Slice.Eq.{bytes_eq-Decides}
use Rattle.point_geom.specs.Place.{Place, Bounds}
use Rattle.point_geom.specs.Boxes.{unit_box}
use Rattle.point_geom.specs.declared.cuboid.Corner.{Corner}
use Rattle.map_items.specs.declared.update.Update.{Update}
use Rattle.map_items.specs.declared.update.Update.TheVariants.{Add, Thin, Delete, Suspend, Restore}
use Rattle.map_items.specs.Sizes.{Sizes}
use Rattle.log_numbers.specs.Numerals.{is_numeral}
use Rattle.scan_log.specs.declared.format.Format.{Format}
use Rattle.scan_log.specs.Formats.{is_version, format_of, lowest, highest, box_highest, farthest, width, has_expiry}
use Rattle.scan_log.specs.declared.format.Format.TheVariants.{One, Two}
use Rattle.scan_log.specs.declared.command.Command.TheVariants.{Change, Lonely, Clusters, Sync}
use Rattle.scan_log.specs.declared.command.Command.{Command}
use Rattle.scan_log.specs.declared.fault.LogCause.{LogCause}
use Rattle.scan_log.specs.declared.fault.LogCause.TheVariants.{NoHeader, BadNumber, OutOfRange, UnknownCommand, BadCaller, WrongCount, InvertedBox, TooManyPoints}
use Rattle.scan_log.specs.Steps.{◌>>=◌, given}
use Rattle.scan_log.specs.Numbers.{number_in, in_range, natural_in, coordinate, corner_number}
use Rattle.scan_log.specs.Faults.{scanned_fault, named_format, ◌orelse◌, fault_unless, value, number_fault, coordinates_fault, corner_fault, boxes_fault, are_groups, expire_fault, points_fault, erase_fault, marks_fault, k_fault, near_fault, box_fault, nears_fault, distance_fault, ball_fault, reach_fault, pose_fault, basic_fault, word_fault, is_caller, called_fault, header_fault}
use Rattle.scan_log.specs.Reading.{scanned_place_of, scanned_places_of, few_scanned_of, place_of, places_of, corner_of, is_upright, box_of, boxes_of, groups_of, few_places_of, few_boxes_of, units_of, expiry_of, update_of, near_of, inside_of, nears_of, ball_of, reach_of, pose_of, basic_of, called_of, digit_caller, caller_of, after_caller, command_of, header_of}
use Rattle.scan_log.proofs.StepLemmas.{both, passed, bound, orelse-None, orelse_assoc, result_err-given, result_err-bind, result_err-last}

result_err-number_in : (low high : ℤ) (f : List ℕ) → result_err (number_in low high f) ≡ number_fault low high f
result_err-number_in low high f =
    result_err-given (is_numeral f) BadNumber (in_range low high (value f))
    ∙ ap (λ (d : Option LogCause). fault_unless (is_numeral f) BadNumber orelse d) (last (int_le low (value f) && int_le (value f) high))
  where
    last : (b : Bool) → result_err (given {A = ℤ} b OutOfRange (Ok (value f))) ≡ fault_unless b OutOfRange
    last true = refl
    last false = refl

result_err-natural_in : (low high : ℕ) (f : List ℕ) → result_err (natural_in low high f) ≡ number_fault (pos low) (pos high) f
result_err-natural_in low high f = result_err-last (number_in (pos low) (pos high) f) unsigned_abs ∙ result_err-number_in (pos low) (pos high) f

-- the value that was read
read_value : (low high : ℤ) (f : List ℕ) (n : ℤ) → number_in low high f ≡ Ok n → value f ≡ n
read_value low high f n h =
    let p = passed (is_numeral f) BadNumber _ n h in
    let q = passed (int_le low (value f) && int_le (value f) high) OutOfRange (Ok (value f)) n p.1 in cc q.1

-- three numbers, read one after the other
result_err-three : {A B C D : Type 0} (x : Result A LogCause) (y : Result B LogCause) (z : Result C LogCause) (made : A → B → C → D)
    → result_err (x >>= λ a. y >>= λ b. z >>= λ c. Ok (made a b c)) ≡ result_err x orelse (result_err y orelse result_err z)
result_err-three (Err e) y z made = refl
result_err-three (Ok a) (Err e) z made = refl
result_err-three (Ok a) (Ok b) (Err e) made = refl
result_err-three (Ok a) (Ok b) (Ok c) made = refl

result_err-place_of : (format : Format) (f g h : List ℕ) → result_err (place_of format f g h) ≡ coordinates_fault format (f ∷ g ∷ h ∷ [])
unfolding place_of
result_err-place_of format f g h =
    result_err-three (coordinate format f) (coordinate format g) (coordinate format h) (λ x y z. record { x = x; y = y; z = z; intensity = 0 })
    ∙ rw (result_err-number_in (lowest format) (highest format) f, result_err-number_in (lowest format) (highest format) g, result_err-number_in (lowest format) (highest format) h, orelse-None) refl

coordinates_more : (format : Format) (f g h : List ℕ) (rest : List (List ℕ))
    → coordinates_fault format (f ∷ g ∷ h ∷ rest)
    ≡ coordinates_fault format (f ∷ g ∷ h ∷ []) orelse coordinates_fault format rest
coordinates_more format f g h rest =
    ap (λ (d : Option LogCause). nf f orelse d) (ap (λ (d : Option LogCause). nf g orelse d) (ap (λ (d : Option LogCause). d orelse coordinates_fault format rest) (sym (orelse-None (nf h)))
    ∙ refl) ∙ sym (orelse_assoc (nf g) (nf h orelse None) (coordinates_fault format rest))) ∙ sym (orelse_assoc (nf f) (nf g orelse (nf h orelse None)) (coordinates_fault format rest))
  where
    nf : List ℕ → Option LogCause
    nf f = number_fault (lowest format) (highest format) f

result_err-places_of : (format : Format) (args : List (List ℕ)) → length args % 3 ≡ 0 → result_err (places_of format args) ≡ coordinates_fault format args
result_err-places_of format [] h = refl
result_err-places_of format (f ∷ []) h = absurd (omega (arith, h))
result_err-places_of format (f ∷ g ∷ []) h = absurd (omega (arith, h))
result_err-places_of format (f ∷ g ∷ h ∷ rest) e =
    result_err-bind (place_of format f g h) _ (coordinates_fault format rest)
    (λ p is. result_err-last (places_of format rest) _ ∙ result_err-places_of format rest (omega (arith, e)))
    ∙ ap (λ (d : Option LogCause). d orelse coordinates_fault format rest) (result_err-place_of format f g h) ∙ sym (coordinates_more format f g h rest)

result_err-scanned_place_of : (f g h i : List ℕ) → result_err (scanned_place_of f g h i) ≡ coordinates_fault Two (f ∷ g ∷ h ∷ []) orelse number_fault (pos 0) (pos 65535) i
unfolding scanned_place_of
result_err-scanned_place_of f g h i =
    result_err-bind (place_of Two f g h) _ (number_fault (pos 0) (pos 65535) i)
    (λ p is. result_err-last (natural_in 0 65535 i) _ ∙ result_err-natural_in 0 65535 i)
    ∙ ap (λ (d : Option LogCause). d orelse number_fault (pos 0) (pos 65535) i) (result_err-place_of Two f g h)

result_err-scanned_places_of : (format : Format) (args : List (List ℕ)) → length args % width format ≡ 0
    → result_err (scanned_places_of format args) ≡ scanned_fault format args
result_err-scanned_places_of One args h = result_err-places_of One args h
result_err-scanned_places_of Two [] h = refl
result_err-scanned_places_of Two (f ∷ []) h = absurd (omega (arith, h))
result_err-scanned_places_of Two (f ∷ g ∷ []) h = absurd (omega (arith, h))
result_err-scanned_places_of Two (f ∷ g ∷ h ∷ []) e = absurd (omega (arith, e))
result_err-scanned_places_of Two (f ∷ g ∷ h ∷ i ∷ rest) e =
    result_err-bind (scanned_place_of f g h i) _ (scanned_fault Two rest)
    (λ p is. result_err-last (scanned_places_of Two rest) _ ∙ result_err-scanned_places_of Two rest (omega (arith, e)))
    ∙ ap (λ (d : Option LogCause). d orelse scanned_fault Two rest) (result_err-scanned_place_of f g h i)

-- the numbers of a corner are those that its fields spell
corner_is : (format : Format) (f g h : List ℕ) (c : Corner) → corner_of format f g h ≡ Ok c → (value f ≡ c.x) × (value g ≡ c.y) × (value h ≡ c.z)
unfolding corner_of
corner_is format f g h c e =
    let x = bound (corner_number format f) _ c e in
    let y = bound (corner_number format g) _ c x.2 in
    let z = bound (corner_number format h) _ c y.2 in
    let is : record { x = x.0; y = y.0; z = z.0 } ≡ c = cc in
    rw (← is)
    (read_value (lowest format) (box_highest format) f x.0 x.1, read_value (lowest format) (box_highest format) g y.0 y.1, read_value (lowest format) (box_highest format) h z.0 z.1)

result_err-corner_of : (format : Format) (f g h : List ℕ) → result_err (corner_of format f g h) ≡ corner_fault format f orelse (corner_fault format g orelse corner_fault format h)
unfolding corner_of
result_err-corner_of format f g h =
    result_err-three (corner_number format f) (corner_number format g) (corner_number format h) (λ x y z. record { x = x; y = y; z = z })
    ∙ rw (result_err-number_in (lowest format) (box_highest format) f, result_err-number_in (lowest format) (box_highest format) g, result_err-number_in (lowest format) (box_highest format) h) refl

abbrev box_check : List ℕ → List ℕ → List ℕ → List ℕ → List ℕ → List ℕ → Option LogCause
box_check a b c d e f = fault_unless (int_le (value a) (value d) && int_le (value b) (value e) && int_le (value c) (value f)) InvertedBox

-- six numbers, and no upper one below its lower one
result_err-box_of : (format : Format) (a b c d e f : List ℕ) → result_err (box_of format a b c d e f)
    ≡ (corner_fault format a orelse (corner_fault format b orelse corner_fault format c))
    orelse ((corner_fault format d orelse (corner_fault format e orelse corner_fault format f)) orelse box_check a b c d e f)
unfolding box_of
result_err-box_of format a b c d e f =
    result_err-bind (corner_of format a b c) _ _ (λ lo from.
    result_err-bind (corner_of format d e f) _ (box_check a b c d e f) (λ hi to.
    result_err-given (is_upright lo hi) InvertedBox (Ok (record { lo = lo; hi = hi }))
    ∙ orelse-None (fault_unless (is_upright lo hi) InvertedBox) ∙ upright a b c d e f lo hi (corner_is format a b c lo from) (corner_is format d e f hi to)))
    ∙ rw (result_err-corner_of format a b c, result_err-corner_of format d e f) refl
  where
    upright : (a b c d e f : List ℕ) (lo hi : Corner) → (value a ≡ lo.x) × (value b ≡ lo.y) × (value c ≡ lo.z)
        → (value d ≡ hi.x) × (value e ≡ hi.y) × (value f ≡ hi.z) → fault_unless (is_upright lo hi) InvertedBox ≡ box_check a b c d e f
    upright a b c d e f lo hi p q = rw (p.0, p.1, p.2, q.0, q.1, q.2) refl

-- `boxes_fault`, in the order of the checks
box_more : (format : Format) (a b c d e f : List ℕ) (rest : List (List ℕ)) → boxes_fault format (a ∷ b ∷ c ∷ d ∷ e ∷ f ∷ rest)
    ≡ ((corner_fault format a orelse (corner_fault format b orelse corner_fault format c))
    orelse ((corner_fault format d orelse (corner_fault format e orelse corner_fault format f)) orelse box_check a b c d e f))
    orelse boxes_fault format rest
box_more format a b c d e f rest =
    regroup (corner_fault format a) (corner_fault format b) (corner_fault format c) (corner_fault format d)
    (corner_fault format e) (corner_fault format f) (box_check a b c d e f) (boxes_fault format rest)
  where
    regroup : (a b c d e f g h : Option LogCause) → a orelse b orelse c orelse d orelse e orelse f orelse g orelse h
        ≡ ((a orelse (b orelse c)) orelse ((d orelse (e orelse f)) orelse g)) orelse h
    regroup a b c d e f g h = simp orelse_assoc

result_err-boxes_of : (format : Format) (args : List (List ℕ)) → length args % 6 ≡ 0 → result_err (boxes_of format args) ≡ boxes_fault format args
result_err-boxes_of format [] h = refl
result_err-boxes_of format (a ∷ []) h = absurd (omega (arith, h))
result_err-boxes_of format (a ∷ b ∷ []) h = absurd (omega (arith, h))
result_err-boxes_of format (a ∷ b ∷ c ∷ []) h = absurd (omega (arith, h))
result_err-boxes_of format (a ∷ b ∷ c ∷ d ∷ []) h = absurd (omega (arith, h))
result_err-boxes_of format (a ∷ b ∷ c ∷ d ∷ e ∷ []) h = absurd (omega (arith, h))
result_err-boxes_of format (a ∷ b ∷ c ∷ d ∷ e ∷ f ∷ rest) h =
    result_err-bind (box_of format a b c d e f) _ (boxes_fault format rest)
    (λ box is. result_err-last (boxes_of format rest) _ ∙ result_err-boxes_of format rest (omega (arith, h)))
    ∙ ap (λ (d : Option LogCause). d orelse boxes_fault format rest) (result_err-box_of format a b c d e f) ∙ sym (box_more format a b c d e f rest)

result_err-groups_of : (size most : ℕ) (args : List (List ℕ)) → result_err (groups_of size most args)
    ≡ fault_unless (are_groups size args) WrongCount orelse fault_unless (nat_le (length args / size) most) TooManyPoints
unfolding groups_of
result_err-groups_of size most args =
    result_err-given (are_groups size args) WrongCount _
    ∙ ap (λ (d : Option LogCause). fault_unless (are_groups size args) WrongCount orelse d)
    (result_err-given (nat_le (length args / size) most) TooManyPoints (Ok (length args / size)) ∙ orelse-None _)

-- the arguments are in groups
in_groups : (size most : ℕ) (args : List (List ℕ)) (n : ℕ) → groups_of size most args ≡ Ok n → length args % size ≡ 0
unfolding groups_of
in_groups size most args n e =
    let p = passed (are_groups size args) WrongCount _ n e in
    let q = both _ (nat_eq (length args % size) 0) p.0 in grind (arith, nat_tests, q.1)

result_err-few_places_of : (format : Format) (most : ℕ) (args : List (List ℕ)) → result_err (few_places_of format most args)
    ≡ fault_unless (are_groups 3 args) WrongCount orelse fault_unless (nat_le (length args / 3) most) TooManyPoints orelse coordinates_fault format args
unfolding few_places_of
result_err-few_places_of format most args =
    result_err-bind (groups_of 3 most args) _ (coordinates_fault format args) (λ n is. result_err-places_of format args (in_groups 3 most args n is))
    ∙ ap (λ (d : Option LogCause). d orelse coordinates_fault format args) (result_err-groups_of 3 most args)

result_err-few_boxes_of : (format : Format) (args : List (List ℕ)) → result_err (few_boxes_of format args) ≡ marks_fault format args
unfolding few_boxes_of
result_err-few_boxes_of format args =
    result_err-bind (groups_of 6 262144 args) _ (boxes_fault format args) (λ n is. result_err-boxes_of format args (in_groups 6 262144 args n is))
    ∙ ap (λ (d : Option LogCause). d orelse boxes_fault format args) (result_err-groups_of 6 262144 args)

result_err-units_of : (format : Format) (args : List (List ℕ)) → result_err (units_of format args) ≡ erase_fault format args
unfolding units_of
result_err-units_of format args = result_err-last (few_places_of format 262144 args) (map unit_box) ∙ result_err-few_places_of format 262144 args

result_err-few_scanned_of : (format : Format) (most : ℕ) (args : List (List ℕ)) → result_err (few_scanned_of format most args)
    ≡ fault_unless (are_groups (width format) args) WrongCount orelse fault_unless (nat_le (length args / width format) most) TooManyPoints orelse scanned_fault format args
unfolding few_scanned_of
result_err-few_scanned_of format most args =
    result_err-bind (groups_of (width format) most args) _ (scanned_fault format args)
    (λ n is. result_err-scanned_places_of format args (in_groups (width format) most args n is))
    ∙ ap (λ (d : Option LogCause). d orelse scanned_fault format args) (result_err-groups_of (width format) most args)

-- points that were submitted before, and those that there is room for
room_test : (n before room : ℕ) → before + room ≡ 4194304
    → nat_le n (min 262144 room) ≡ (nat_le n 262144 && nat_le (before + n) 4194304)
room_test n before room h = grind (arith, nat_tests)

result_err-points : (format : Format) (before room : ℕ) (args : List (List ℕ)) → before + room ≡ 4194304
    → result_err (few_scanned_of format (min 262144 room) args) ≡ points_fault format before args
result_err-points format before room args h =
    result_err-few_scanned_of format (min 262144 room) args
    ∙ ap (λ (b : Bool). fault_unless (are_groups (width format) args) WrongCount orelse fault_unless b TooManyPoints
    orelse scanned_fault format args) (room_test (length args / width format) before room h)

result_err-expiry_of : (args : List (List ℕ)) → result_err (expiry_of args) ≡ expire_fault args
unfolding expiry_of
result_err-expiry_of [] = refl
result_err-expiry_of (f ∷ []) = result_err-last (natural_in 0 4194304 f) _ ∙ result_err-natural_in 0 4194304 f
result_err-expiry_of (f ∷ g ∷ args) = refl

-- a word's place among the words of updates
update_choice : (a t e d s r x : Bool) (points : Result (List Place) LogCause) (units boxes : Result (List Bounds) LogCause) (expiry : Result Update LogCause)
    → result_err (if a then (points >>= λ ps. Ok (Add ps)) else
    (if t then (points >>= λ ps. Ok (Thin ps)) else
    (if e then (units >>= λ cs. Ok (Delete cs)) else
    (if d then (boxes >>= λ cs. Ok (Delete cs)) else
    (if s then (boxes >>= λ cs. Ok (Suspend cs)) else
    (if r then (boxes >>= λ cs. Ok (Restore cs)) else
    (if x then expiry else Err UnknownCommand)))))))
    ≡ (if a || t then result_err points else
    (if e then result_err units else
    (if d || s || r then result_err boxes else
    (if x then result_err expiry else Some UnknownCommand))))
update_choice true t e d s r x points units boxes expiry = result_err-last points Add
update_choice false true e d s r x points units boxes expiry = result_err-last points Thin
update_choice false false true d s r x points units boxes expiry = result_err-last units Delete
update_choice false false false true s r x points units boxes expiry = result_err-last boxes Delete
update_choice false false false false true r x points units boxes expiry = result_err-last boxes Suspend
update_choice false false false false false true x points units boxes expiry = result_err-last boxes Restore
update_choice false false false false false false true points units boxes expiry = refl
update_choice false false false false false false false points units boxes expiry = refl

result_err-update_of : (format : Format) (before room : ℕ) (word : List ℕ) (args : List (List ℕ)) → before + room ≡ 4194304
    → bytes_eq word (codes "near") ≡ false → bytes_eq word (codes "box") ≡ false
    → result_err (update_of format room word args) ≡ basic_fault format before word args
unfolding update_of
result_err-update_of format before room word args h near box =
    update_choice (bytes_eq word (codes "add")) (bytes_eq word (codes "thin")) (bytes_eq word (codes "erase"))
    (bytes_eq word (codes "delete")) (bytes_eq word (codes "suspend")) (bytes_eq word (codes "restore")) (has_expiry format && bytes_eq word (codes "expire"))
    (few_scanned_of format (min 262144 room) args) (units_of format args) (few_boxes_of format args) (expiry_of args)
    ∙ rw (result_err-points format before room args h, result_err-units_of format args, result_err-few_boxes_of format args, result_err-expiry_of args, near, box) refl

-- a count and a point
result_err-near_plain : (format : Format) (caller : ℕ) (k x y z : List ℕ) → result_err (near_of format caller (k ∷ x ∷ y ∷ z ∷ [])) ≡ near_fault format (k ∷ x ∷ y ∷ z ∷ [])
unfolding near_of
result_err-near_plain format caller k x y z =
    result_err-bind (natural_in 1 256 k) _ (coordinates_fault format (x ∷ y ∷ z ∷ [])) (λ n is. result_err-last (place_of format x y z) _ ∙ result_err-place_of format x y z)
    ∙ ap (λ (d : Option LogCause). d orelse coordinates_fault format (x ∷ y ∷ z ∷ [])) (result_err-natural_in 1 256 k)

-- and a greatest distance
result_err-near_within : (format : Format) (caller : ℕ) (k x y z word r : List ℕ)
    → result_err (near_of format caller (k ∷ x ∷ y ∷ z ∷ word ∷ r ∷ [])) ≡ near_fault format (k ∷ x ∷ y ∷ z ∷ word ∷ r ∷ [])
unfolding near_of
result_err-near_within format caller k x y z word r =
    result_err-given (bytes_eq word (codes "within")) WrongCount _
    ∙ ap (λ (d : Option LogCause). fault_unless (bytes_eq word (codes "within")) WrongCount orelse d)
    (result_err-bind (natural_in 1 256 k) _ (coordinates_fault format (x ∷ y ∷ z ∷ []) orelse number_fault (pos 0) (pos (farthest format)) r) (λ n is.
    result_err-bind (place_of format x y z) _ (number_fault (pos 0) (pos (farthest format)) r) (λ p at.
    result_err-last (natural_in 0 (farthest format) r) _ ∙ result_err-natural_in 0 (farthest format) r)
    ∙ ap (λ (d : Option LogCause). d orelse number_fault (pos 0) (pos (farthest format)) r) (result_err-place_of format x y z))
    ∙ ap (λ (d : Option LogCause). d orelse (coordinates_fault format (x ∷ y ∷ z ∷ []) orelse number_fault (pos 0) (pos (farthest format)) r)) (result_err-natural_in 1 256 k))
    ∙ sym (regroup (fault_unless (bytes_eq word (codes "within")) WrongCount) (k_fault k) (coordinates_fault format (x ∷ y ∷ z ∷ [])) (number_fault (pos 0) (pos (farthest format)) r))
  where
    regroup : (a b c d : Option LogCause) → a orelse b orelse c orelse d ≡ a orelse (b orelse (c orelse d))
    regroup a b c d = simp orelse_assoc

result_err-near_of : (format : Format) (caller : ℕ) (args : List (List ℕ)) → result_err (near_of format caller args) ≡ near_fault format args
unfolding near_of
result_err-near_of format caller [] = refl
result_err-near_of format caller (k ∷ []) = refl
result_err-near_of format caller (k ∷ x ∷ []) = refl
result_err-near_of format caller (k ∷ x ∷ y ∷ []) = refl
result_err-near_of format caller (k ∷ x ∷ y ∷ z ∷ []) = result_err-near_plain format caller k x y z
result_err-near_of format caller (k ∷ x ∷ y ∷ z ∷ word ∷ []) = refl
result_err-near_of format caller (k ∷ x ∷ y ∷ z ∷ word ∷ r ∷ []) = result_err-near_within format caller k x y z word r
result_err-near_of format caller (k ∷ x ∷ y ∷ z ∷ word ∷ r ∷ s ∷ rest) = refl

result_err-inside_seven : (format : Format) (caller : ℕ) (k a b c d e f : List ℕ)
    → result_err (inside_of format caller (k ∷ a ∷ b ∷ c ∷ d ∷ e ∷ f ∷ [])) ≡ box_fault format (k ∷ a ∷ b ∷ c ∷ d ∷ e ∷ f ∷ [])
unfolding inside_of
result_err-inside_seven format caller k a b c d e f =
    result_err-bind (natural_in 1 256 k) _ (boxes_fault format (a ∷ b ∷ c ∷ d ∷ e ∷ f ∷ [])) (λ n is.
    result_err-last (box_of format a b c d e f) _ ∙ result_err-box_of format a b c d e f ∙ sym (orelse-None _) ∙ sym (box_more format a b c d e f []))
    ∙ ap (λ (x : Option LogCause). x orelse boxes_fault format (a ∷ b ∷ c ∷ d ∷ e ∷ f ∷ [])) (result_err-natural_in 1 256 k)

result_err-inside_of : (format : Format) (caller : ℕ) (args : List (List ℕ)) → result_err (inside_of format caller args) ≡ box_fault format args
unfolding inside_of
result_err-inside_of format caller [] = refl
result_err-inside_of format caller (k ∷ []) = refl
result_err-inside_of format caller (k ∷ a ∷ []) = refl
result_err-inside_of format caller (k ∷ a ∷ b ∷ []) = refl
result_err-inside_of format caller (k ∷ a ∷ b ∷ c ∷ []) = refl
result_err-inside_of format caller (k ∷ a ∷ b ∷ c ∷ d ∷ []) = refl
result_err-inside_of format caller (k ∷ a ∷ b ∷ c ∷ d ∷ e ∷ []) = refl
result_err-inside_of format caller (k ∷ a ∷ b ∷ c ∷ d ∷ e ∷ f ∷ []) = result_err-inside_seven format caller k a b c d e f
result_err-inside_of format caller (k ∷ a ∷ b ∷ c ∷ d ∷ e ∷ f ∷ g ∷ rest) = refl

-- a word of version 1, or an expiry
result_err-basic_of : (format : Format) (before room caller : ℕ) (word : List ℕ) (args : List (List ℕ)) → before + room ≡ 4194304
    → result_err (basic_of format room caller word args) ≡ basic_fault format before word args
unfolding basic_of
result_err-basic_of format before room caller word args h = by_near (bytes_eq word (codes "near")) refl
  where
    is_word : (xs ys : List ℕ) → bytes_eq xs ys ≡ true → xs ≡ ys
    is_word xs ys e = (bytes_eq-Decides xs ys).0 e

    by_box : (b : Bool) → bytes_eq word (codes "box") ≡ b → bytes_eq word (codes "near") ≡ false
        → result_err (basic_of format room caller word args) ≡ basic_fault format before word args
    by_box true e n = rw (is_word word (codes "box") e) (result_err-inside_of format caller args)
    by_box false e n =
        let plain : basic_of format room caller word args ≡ (update_of format room word args >>= λ u. Ok (Change caller u)) = rw (n, e) refl in
        ap result_err plain ∙ result_err-last (update_of format room word args) _ ∙ result_err-update_of format before room word args h n e

    by_near : (b : Bool) → bytes_eq word (codes "near") ≡ b → result_err (basic_of format room caller word args) ≡ basic_fault format before word args
    by_near true e = rw (is_word word (codes "near") e) (result_err-near_of format caller args)
    by_near false e = by_box (bytes_eq word (codes "box")) refl e

-- a count, and points
result_err-nears_of : (caller : ℕ) (args : List (List ℕ)) → result_err (nears_of caller args) ≡ nears_fault args
unfolding nears_of
result_err-nears_of caller [] = refl
result_err-nears_of caller (k ∷ args) =
    result_err-bind (groups_of 3 262144 args) _ (k_fault k orelse coordinates_fault Two args) (λ n is.
    result_err-bind (natural_in 1 256 k) _ (coordinates_fault Two args) (λ m at.
    result_err-last (places_of Two args) _ ∙ result_err-places_of Two args (in_groups 3 262144 args n is))
    ∙ ap (λ (d : Option LogCause). d orelse coordinates_fault Two args) (result_err-natural_in 1 256 k))
    ∙ ap (λ (d : Option LogCause). d orelse (k_fault k orelse coordinates_fault Two args)) (result_err-groups_of 3 262144 args)
    ∙ sym (orelse_assoc (fault_unless (are_groups 3 args) WrongCount orelse fault_unless (nat_le (length args / 3) 262144) TooManyPoints) (k_fault k) (coordinates_fault Two args))

-- a count, a distance and a point
result_err-ball_five : (caller : ℕ) (k r x y z : List ℕ) → result_err (ball_of caller (k ∷ r ∷ x ∷ y ∷ z ∷ [])) ≡ ball_fault (k ∷ r ∷ x ∷ y ∷ z ∷ [])
unfolding ball_of
result_err-ball_five caller k r x y z =
    let place = coordinates_fault Two (x ∷ y ∷ z ∷ []) in
    result_err-bind (natural_in 1 256 k) _ (distance_fault r orelse place) (λ n is.
    result_err-bind (natural_in 0 (farthest Two) r) _ place (λ d at. result_err-last (place_of Two x y z) _ ∙ result_err-place_of Two x y z)
    ∙ ap (λ (d : Option LogCause). d orelse place) (result_err-natural_in 0 (farthest Two) r))
    ∙ ap (λ (d : Option LogCause). d orelse (distance_fault r orelse place)) (result_err-natural_in 1 256 k)
    ∙ sym (orelse_assoc (k_fault k) (distance_fault r) place)

result_err-ball_of : (caller : ℕ) (args : List (List ℕ)) → result_err (ball_of caller args) ≡ ball_fault args
unfolding ball_of
result_err-ball_of caller [] = refl
result_err-ball_of caller (k ∷ []) = refl
result_err-ball_of caller (k ∷ r ∷ []) = refl
result_err-ball_of caller (k ∷ r ∷ x ∷ []) = refl
result_err-ball_of caller (k ∷ r ∷ x ∷ y ∷ []) = refl
result_err-ball_of caller (k ∷ r ∷ x ∷ y ∷ z ∷ []) = result_err-ball_five caller k r x y z
result_err-ball_of caller (k ∷ r ∷ x ∷ y ∷ z ∷ f ∷ rest) = refl

-- a count and a distance
result_err-reach_two : (k r : List ℕ) → result_err (reach_of (k ∷ r ∷ [])) ≡ reach_fault (k ∷ r ∷ [])
unfolding reach_of
result_err-reach_two k r =
    result_err-bind (natural_in 1 256 k) _ (distance_fault r) (λ n is. result_err-last (natural_in 0 (farthest Two) r) _ ∙ result_err-natural_in 0 (farthest Two) r)
    ∙ ap (λ (d : Option LogCause). d orelse distance_fault r) (result_err-natural_in 1 256 k)

result_err-reach_of : (args : List (List ℕ)) → result_err (reach_of args) ≡ reach_fault args
unfolding reach_of
result_err-reach_of [] = refl
result_err-reach_of (k ∷ []) = refl
result_err-reach_of (k ∷ r ∷ []) = result_err-reach_two k r
result_err-reach_of (k ∷ r ∷ x ∷ rest) = refl

-- the number that was read, without its sign
natural_value : (low high : ℕ) (f : List ℕ) (n : ℕ) → natural_in low high f ≡ Ok n → n ≡ unsigned_abs (value f)
natural_value low high f n e =
    let r = bound (number_in (pos low) (pos high) f) _ n e in
    let is : unsigned_abs r.0 ≡ n = cc r.2 in sym is ∙ ap unsigned_abs (sym (read_value (pos low) (pos high) f r.0 r.1))

-- what is asked of the ball, the step and the point, where this is the side
abbrev behind_side : List ℕ → List ℕ → List ℕ → List ℕ → List ℕ → ℕ → Option LogCause
behind_side ball step x y z side =
    number_fault (pos 0) (pos ((side - 1) / 2)) ball orelse (number_fault (pos 1) (pos side) step orelse coordinates_fault Two (x ∷ y ∷ z ∷ []))

result_err-pose_six : (caller : ℕ) (side ball step x y z : List ℕ)
    → result_err (pose_of caller (side ∷ ball ∷ step ∷ x ∷ y ∷ z ∷ [])) ≡ pose_fault (side ∷ ball ∷ step ∷ x ∷ y ∷ z ∷ [])
unfolding pose_of
result_err-pose_six caller side ball step x y z =
    let n = unsigned_abs (value side) in
    let place = coordinates_fault Two (x ∷ y ∷ z ∷ []) in
    result_err-bind (natural_in 2 2199023255552 side) _ (behind_side ball step x y z n) (λ s is.
    result_err-bind (natural_in 0 ((s - 1) / 2) ball) _ (number_fault (pos 1) (pos s) step orelse place) (λ b at.
    result_err-bind (natural_in 1 s step) _ place (λ t too. result_err-last (place_of Two x y z) _ ∙ result_err-place_of Two x y z)
    ∙ ap (λ (d : Option LogCause). d orelse place) (result_err-natural_in 1 s step))
    ∙ ap (λ (d : Option LogCause). d orelse (number_fault (pos 1) (pos s) step orelse place)) (result_err-natural_in 0 ((s - 1) / 2) ball)
    ∙ ap (behind_side ball step x y z) (natural_value 2 2199023255552 side s is))
    ∙ ap (λ (d : Option LogCause). d orelse behind_side ball step x y z n) (result_err-natural_in 2 2199023255552 side)
    ∙ sym (regroup (number_fault (pos 2) (pos 2199023255552) side) (number_fault (pos 0) (pos ((n - 1) / 2)) ball) (number_fault (pos 1) (pos n) step) place)
  where
    regroup : (a b c d : Option LogCause) → a orelse b orelse c orelse d ≡ a orelse (b orelse (c orelse d))
    regroup a b c d = simp orelse_assoc

result_err-pose_of : (caller : ℕ) (args : List (List ℕ)) → result_err (pose_of caller args) ≡ pose_fault args
unfolding pose_of
result_err-pose_of caller [] = refl
result_err-pose_of caller (k ∷ []) = refl
result_err-pose_of caller (k ∷ a ∷ []) = refl
result_err-pose_of caller (k ∷ a ∷ b ∷ []) = refl
result_err-pose_of caller (k ∷ a ∷ b ∷ c ∷ []) = refl
result_err-pose_of caller (k ∷ a ∷ b ∷ c ∷ d ∷ []) = refl
result_err-pose_of caller (k ∷ a ∷ b ∷ c ∷ d ∷ e ∷ []) = result_err-pose_six caller k a b c d e
result_err-pose_of caller (k ∷ a ∷ b ∷ c ∷ d ∷ e ∷ f ∷ rest) = refl

-- the word of version 2 that it is
called_choice : (caller : ℕ) (n b l c p : Bool) (nears ball pose basic : Result Command LogCause) (reach : Result (ℕ × ℕ) LogCause)
    → result_err (if n then nears else
    (if b then ball else
    (if l then (reach >>= λ q. Ok (Lonely caller q.0 q.1)) else
    (if c then (reach >>= λ q. Ok (Clusters caller q.0 q.1)) else
    (if p then pose else basic)))))
    ≡ (if n then result_err nears else
    (if b then result_err ball else
    (if l || c then result_err reach else
    (if p then result_err pose else result_err basic))))
called_choice caller true b l c p nears ball pose basic reach = refl
called_choice caller false true l c p nears ball pose basic reach = refl
called_choice caller false false true c p nears ball pose basic reach = result_err-last reach _
called_choice caller false false false true p nears ball pose basic reach = result_err-last reach _
called_choice caller false false false false true nears ball pose basic reach = refl
called_choice caller false false false false false nears ball pose basic reach = refl

result_err-called_of : (format : Format) (before room caller : ℕ) (word : List ℕ) (args : List (List ℕ)) → before + room ≡ 4194304
    → result_err (called_of format room caller word args) ≡ word_fault format before word args
unfolding called_of
result_err-called_of One before room caller word args h = result_err-basic_of One before room caller word args h
result_err-called_of Two before room caller word args h =
    called_choice caller (bytes_eq word (codes "nears")) (bytes_eq word (codes "ball")) (bytes_eq word (codes "lonely")) (bytes_eq word (codes "clusters")) (bytes_eq word (codes "pose"))
    (nears_of caller args) (ball_of caller args) (pose_of caller args) (basic_of Two room caller word args) (reach_of args)
    ∙ rw (result_err-nears_of caller args, result_err-ball_of caller args, result_err-reach_of args, result_err-pose_of caller args, result_err-basic_of Two before room caller word args h) refl

result_err-digit_caller : (digits : List ℕ) → result_err (digit_caller digits) ≡ fault_unless (is_caller digits) BadCaller
result_err-digit_caller [] = refl
result_err-digit_caller (c ∷ []) = result_err-given (nat_le 49 c && nat_le c 56) BadCaller (Ok (c - 48)) ∙ orelse-None _
result_err-digit_caller (c ∷ d ∷ digits) = refl

result_err-caller_of : (c : ℕ) (digits : List ℕ)
    → result_err (caller_of (c ∷ digits)) ≡ fault_unless (nat_eq c 64) UnknownCommand orelse fault_unless (is_caller digits) BadCaller
unfolding caller_of
result_err-caller_of c digits =
    result_err-given (nat_eq c 64) UnknownCommand (digit_caller digits)
    ∙ ap (λ (d : Option LogCause). fault_unless (nat_eq c 64) UnknownCommand orelse d) (result_err-digit_caller digits)

-- a command of a caller
result_err-called : (format : Format) (before room : ℕ) (first : List ℕ) (fields : List (List ℕ)) → before + room ≡ 4194304
    → result_err (caller_of first >>= λ caller. after_caller format room caller fields) ≡ called_fault format before first fields
unfolding caller_of
result_err-called format before room [] fields h = refl
result_err-called format before room (c ∷ digits) [] h =
    result_err-bind (caller_of (c ∷ digits)) _ (Some UnknownCommand) (λ caller is. refl)
    ∙ ap (λ (d : Option LogCause). d orelse Some UnknownCommand) (result_err-caller_of c digits)
result_err-called format before room (c ∷ digits) (word ∷ args) h =
    result_err-bind (caller_of (c ∷ digits)) _ (word_fault format before word args) (λ caller is. result_err-called_of format before room caller word args h)
    ∙ ap (λ (d : Option LogCause). d orelse word_fault format before word args) (result_err-caller_of c digits)

-- the fault of a command's fields
pub result_err-command_of : (format : Format) (before room : ℕ) (first : List ℕ) (fields : List (List ℕ)) → before + room ≡ 4194304
    → result_err (command_of format room (first ∷ fields))
    ≡ (if bytes_eq first (codes "sync") then fault_unless (nat_eq (length fields) 0) WrongCount else called_fault format before first fields)
unfolding command_of
result_err-command_of format before room first fields h = choice (bytes_eq first (codes "sync"))
  where
    choice : (b : Bool) → result_err (if b then given (nat_eq (length fields) 0) WrongCount (Ok Sync) else
        (caller_of first >>= λ caller. after_caller format room caller fields))
        ≡ (if b then fault_unless (nat_eq (length fields) 0) WrongCount else called_fault format before first fields)
    choice true = result_err-given (nat_eq (length fields) 0) WrongCount (Ok Sync) ∙ orelse-None _
    choice false = result_err-called format before room first fields h

pub result_err-header_of : (fields : List (List ℕ)) → result_err (header_of fields) ≡ header_fault fields
unfolding header_of
result_err-header_of [] = refl
result_err-header_of (a ∷ []) = refl
result_err-header_of (a ∷ b ∷ []) = refl
result_err-header_of (a ∷ b ∷ c ∷ []) = refl
result_err-header_of (a ∷ b ∷ c ∷ voxel ∷ []) = refl
result_err-header_of (a ∷ b ∷ c ∷ voxel ∷ d ∷ []) = refl
result_err-header_of (a ∷ b ∷ c ∷ voxel ∷ d ∷ large ∷ []) =
    result_err-given test NoHeader _
    ∙ ap (λ (x : Option LogCause). fault_unless test NoHeader orelse x)
    (result_err-bind (natural_in 1 1000000 voxel) _ (number_fault (pos 16) (pos 1000000) large) (λ v is.
    result_err-last (natural_in 16 1000000 large) _ ∙ result_err-natural_in 16 1000000 large)
    ∙ ap (λ (x : Option LogCause). x orelse number_fault (pos 16) (pos 1000000) large) (result_err-natural_in 1 1000000 voxel))
    ∙ sym (orelse_assoc (fault_unless test NoHeader) (number_fault (pos 1) (pos 1000000) voxel) (number_fault (pos 16) (pos 1000000) large))
  where
    test : Bool
    test = bytes_eq a (codes "ikdmap") && is_version b && bytes_eq c (codes "voxel") && bytes_eq d (codes "large")
result_err-header_of (a ∷ b ∷ c ∷ voxel ∷ d ∷ large ∷ g ∷ rest) = refl

-- the version that is read is the one that the fields name
pub header_named : (fields : List (List ℕ)) (head : Format × Sizes) → header_of fields ≡ Ok head → head.0 ≡ named_format fields
unfolding header_of
header_named [] head e = cc
header_named (a ∷ []) head e = cc
header_named (a ∷ b ∷ []) head e = cc
header_named (a ∷ b ∷ c ∷ []) head e = cc
header_named (a ∷ b ∷ c ∷ voxel ∷ []) head e = cc
header_named (a ∷ b ∷ c ∷ voxel ∷ d ∷ []) head e = cc
header_named (a ∷ b ∷ c ∷ voxel ∷ d ∷ large ∷ []) head e =
    let p = passed (bytes_eq a (codes "ikdmap") && is_version b && bytes_eq c (codes "voxel") && bytes_eq d (codes "large")) _ _ head e in
    let v = bound (natural_in 1 1000000 voxel) _ head p.1 in
    let l = bound (natural_in 16 1000000 large) _ head v.2 in
    let is : (format_of b, record { voxel = v.0; large = l.0 }) ≡ head = cc l.2 in
    ap (λ (h : Format × Sizes). h.0) (sym is)
header_named (a ∷ b ∷ c ∷ voxel ∷ d ∷ large ∷ g ∷ rest) head e = cc
