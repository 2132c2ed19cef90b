-- What is written has the lines and the fields that were put.
use Rattle.std.proofs.Common.{◌≡◌, ℕ, ◌+◌, Bool, true, false, cond, nat_eq, not, List, [], ◌∷◌, ◌++◌, refl, ap, ◌∙◌, arith, append_assoc}
use Rattle.std.specs.Prelude.{◌&&◌}
use Rattle.std.specs.List.{flat_map, list_all, onto_first}
use Rattle.std.proofs.lemmas.Bool.{and_from, and_parts}
use Rattle.std.proofs.lemmas.Grind.{flat_map-append}
use Rattle.std.proofs.lemmas.List.{append-nil}
use Rattle.std.proofs.lemmas.List.Folds.{list_all-append}
use Rattle.std.proofs.lemmas.List.Sums.{sum_by-append, sum_by-cons}
use Rattle.point_geom.specs.Place.{Place, Bounds}
use Rattle.scan_log.specs.declared.format.Format.{Format}
use Rattle.scan_log.specs.Lines.{lines_of, fields_of}
use Rattle.scan_log.specs.Faults.{line_feeds}
use Rattle.scan_log.specs.Spelling.{scanned_fields, point_fields, box_fields}
use Rattle.scan_log.specs.Transcript.{spaced, all_spaced, point_text, scanned_text}
use Rattle.scan_log.specs.Written.{joined_fields, written_line, cuboid_text}

-- the fields of several, and the several fields
all_spaced-flat_map : {X : Type 0} (f : X → List (List ℕ)) (xs : List X) → all_spaced (flat_map f xs) ≡ flat_map (λ x. all_spaced (f x)) xs
all_spaced-flat_map f [] = refl
all_spaced-flat_map f (x ∷ xs) = flat_map-append spaced (f x) (flat_map f xs) ∙ ap (λ t. all_spaced (f x) ++ t) (all_spaced-flat_map f xs)

pub spaced_points : (format : Format) (ps : List Place) → all_spaced (flat_map (scanned_fields format) ps) ≡ flat_map (scanned_text format) ps
spaced_points format ps = all_spaced-flat_map (scanned_fields format) ps

pub spaced_places : (ps : List Place) → all_spaced (flat_map point_fields ps) ≡ flat_map point_text ps
spaced_places ps = all_spaced-flat_map point_fields ps

pub spaced_boxes : (cs : List Bounds) → all_spaced (flat_map box_fields cs) ≡ flat_map cuboid_text cs
spaced_boxes cs = all_spaced-flat_map box_fields cs

-- a byte that ends no line
abbrev pub is_in_line : ℕ → Bool
is_in_line b = not (nat_eq b 10)

-- a byte that ends neither a field nor a line
abbrev pub is_in_field : ℕ → Bool
is_in_field b = not (nat_eq b 32) && is_in_line b

-- fields of such bytes alone
abbrev pub are_fields : List (List ℕ) → Bool
are_fields fields = list_all (list_all is_in_field) fields

not_true : (b : Bool) → not b ≡ true → b ≡ false
not_true true h = cc
not_true false h = refl

-- a line feed ends the line
lines_of-line : (line rest : List ℕ) → list_all is_in_line line ≡ true → lines_of (line ++ 10 ∷ rest) ≡ line ∷ lines_of rest
lines_of-line [] rest h = refl
lines_of-line (b ∷ line) rest h =
    let p = and_parts (is_in_line b) _ h in
    rw (not_true (nat_eq b 10) p.0) (ap (onto_first b) (lines_of-line line rest p.1))

-- a space ends the field
fields_of-field : (field rest : List ℕ) → list_all is_in_field field ≡ true → fields_of (field ++ 32 ∷ rest) ≡ field ∷ fields_of rest
fields_of-field [] rest h = refl
fields_of-field (b ∷ field) rest h =
    let p = and_parts (is_in_field b) _ h in
    let q = and_parts (not (nat_eq b 32)) _ p.0 in
    rw (not_true (nat_eq b 32) q.0) (ap (onto_first b) (fields_of-field field rest p.1))

-- the last field
fields_of-last : (field : List ℕ) → list_all is_in_field field ≡ true → fields_of field ≡ field ∷ []
fields_of-last [] h = refl
fields_of-last (b ∷ field) h =
    let p = and_parts (is_in_field b) _ h in
    let q = and_parts (not (nat_eq b 32)) _ p.0 in
    rw (not_true (nat_eq b 32) q.0) (ap (onto_first b) (fields_of-last field p.1))

-- fields that are joined_fields are the line's
pub fields_of-joined : (field : List ℕ) (fields : List (List ℕ)) → are_fields (field ∷ fields) ≡ true
    → fields_of (joined_fields (field ∷ fields)) ≡ field ∷ fields
fields_of-joined field [] h =
    let p = and_parts (list_all is_in_field field) _ h in
    rw (append-nil field) (fields_of-last field p.0)
fields_of-joined field (next ∷ fields) h =
    let p = and_parts (list_all is_in_field field) _ h in
    fields_of-field field (joined_fields (next ∷ fields)) p.0 ∙ ap (λ fs. field ∷ fs) (fields_of-joined next fields p.1)

in_line : (field : List ℕ) → list_all is_in_field field ≡ true → list_all is_in_line field ≡ true
in_line [] h = refl
in_line (b ∷ field) h =
    let p = and_parts (is_in_field b) _ h in
    let q = and_parts (not (nat_eq b 32)) _ p.0 in
    and_from _ _ q.1 (in_line field p.1)

all_in_line : (fields : List (List ℕ)) → are_fields fields ≡ true → list_all is_in_line (all_spaced fields) ≡ true
all_in_line [] h = refl
all_in_line (field ∷ fields) h =
    let p = and_parts (list_all is_in_field field) _ h in
    list_all-append is_in_line field (all_spaced fields) ∙ and_from _ _ (in_line field p.0) (all_in_line fields p.1)

-- fields that are joined_fields are one line
joined_in_line : (fields : List (List ℕ)) → are_fields fields ≡ true → list_all is_in_line (joined_fields fields) ≡ true
joined_in_line [] h = refl
joined_in_line (field ∷ fields) h =
    let p = and_parts (list_all is_in_field field) _ h in
    list_all-append is_in_line field (all_spaced fields) ∙ and_from _ _ (in_line field p.0) (all_in_line fields p.1)

-- a line's text is the first line
pub lines_of-written_line : (fields : List (List ℕ)) (rest : List ℕ) → are_fields fields ≡ true
    → lines_of (written_line fields ++ rest) ≡ joined_fields fields ∷ lines_of rest
lines_of-written_line fields rest h = rw append_assoc (lines_of-line (joined_fields fields) rest (joined_in_line fields h))

no_feeds : (line : List ℕ) → list_all is_in_line line ≡ true → line_feeds line ≡ 0
no_feeds [] h = refl
no_feeds (b ∷ line) h =
    let p = and_parts (is_in_line b) _ h in
    rw (not_true (nat_eq b 10) p.0) (no_feeds line p.1)

line_feeds-line : (line rest : List ℕ) → list_all is_in_line line ≡ true → line_feeds (line ++ 10 ∷ rest) ≡ line_feeds rest + 1
line_feeds-line line rest h =
    let f : ℕ → ℕ = λ b. cond (nat_eq b 10) 1 0 in
    let both : line_feeds (line ++ 10 ∷ rest) ≡ line_feeds line + line_feeds (10 ∷ rest) = sum_by-append f line (10 ∷ rest) in
    let one : line_feeds (10 ∷ rest) ≡ 1 + line_feeds rest = sum_by-cons f 10 rest in
    let none = no_feeds line h in
    omega arith

-- a line's text has one line feed
pub line_feeds-written_line : (fields : List (List ℕ)) (rest : List ℕ) → are_fields fields ≡ true
    → line_feeds (written_line fields ++ rest) ≡ line_feeds rest + 1
line_feeds-written_line fields rest h = rw append_assoc (line_feeds-line (joined_fields fields) rest (joined_in_line fields h))
