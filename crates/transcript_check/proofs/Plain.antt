-- Bytes that are no line feed, and no space.
use Rattle.std.proofs.Common.{◌≡◌, ℕ, zero, suc, ◌+◌, ◌/◌, ◌%◌, ◌≤◌, Bool, true, false, cond, not, List, [], ◌∷◌, ◌++◌, refl, ap, arith, nat_eq, nat_lt, ℤ, pos}
use lib.IntN.{negsuc}
use Rattle.std.specs.Prelude.{codes, decimal, ◌&&◌, ◌==◌}
use Rattle.std.specs.Fmt.{digits, digits_onto, digit_glyph, signed_decimal}
use Rattle.std.specs.List.{AllByRecursion, flat_map}
use Rattle.std.proofs.lemmas.Bool.Decides.{nat_tests}
use Rattle.point_geom.specs.Place.{Place}
use Rattle.node_labels.specs.declared.label.Label.TheVariants.{Live}
use Rattle.map_fold.specs.declared.hits.Hit.{Hit}
use Rattle.map_items.specs.declared.item.Item.{Item}
use Rattle.map_fold.specs.declared.group.Group.{Group}
use Rattle.log_numbers.specs.Numerals.{first_field}
use Rattle.scan_log.specs.declared.format.Format.{Format}
use Rattle.scan_log.specs.declared.format.Format.TheVariants.{One, Two}
use Rattle.scan_log.specs.Spelling.{caller_field, scanned_fields}
use Rattle.scan_log.specs.Transcript.{spaced, all_spaced, scanned_text, hit_text, list_text, item_text, group_text}
use Rattle.transcript_check.specs.Heads.{IsNoFeed}

abbrev pub ArePlain : List ℕ → Type 0
ArePlain xs = AllByRecursion IsNoFeed xs

abbrev AreDark : List ℕ → Type 0
AreDark xs = AllByRecursion (λ b. 33 ≤ b) xs

-- each of the bytes of a literal is another than a line feed
abbrev pub are_plain : List ℕ → Bool
are_plain [] = true
are_plain (b ∷ xs) = not (b == 10) && are_plain xs

pub plain_test : (xs : List ℕ) → are_plain xs ≡ true → ArePlain xs
plain_test [] h = tt
plain_test (b ∷ xs) h = go (nat_eq b 10) refl h (plain_test xs)
  where
    go : (t : Bool) → nat_eq b 10 ≡ t → (not t && are_plain xs) ≡ true → (are_plain xs ≡ true → ArePlain xs) → ArePlain (b ∷ xs)
    go true e f rest = absurd (let g : false ≡ true = f in cc)
    go false e f rest = ((λ is. let yes : nat_eq b 10 ≡ true = grind (arith, nat_tests) in cc), rest f)

pub plain-append : (xs ys : List ℕ) → ArePlain xs → ArePlain ys → ArePlain (xs ++ ys)
plain-append [] ys p q = q
plain-append (x ∷ xs) ys p q = (p.0, plain-append xs ys p.1 q)

dark_plain : (xs : List ℕ) → AreDark xs → ArePlain xs
dark_plain [] d = tt
dark_plain (x ∷ xs) d = ((λ is. absurd (omega (arith, d.0))), dark_plain xs d.1)

dark_glyph : (upper : Bool) (d : ℕ) → 33 ≤ digit_glyph upper d
dark_glyph upper d = go (nat_lt d 10) upper
  where
    go : (a b : Bool) → 33 ≤ cond a (48 + d) (cond b (55 + d) (87 + d))
    go true b = omega arith
    go false true = omega arith
    go false false = omega arith

dark_onto : (k n : ℕ) (acc : List ℕ) → AreDark acc → AreDark (digits_onto k 10 false n acc)
dark_onto zero n acc d = d
dark_onto (suc k) n acc d = go (n / 10 == 0) (dark_onto k (n / 10) (digit_glyph false (n % 10) ∷ acc) (dark_glyph false (n % 10), d))
  where
    go : (b : Bool) → AreDark (digits_onto k 10 false (n / 10) (digit_glyph false (n % 10) ∷ acc))
        → AreDark (cond b (digit_glyph false (n % 10) ∷ acc) (digits_onto k 10 false (n / 10) (digit_glyph false (n % 10) ∷ acc)))
    go true r = (dark_glyph false (n % 10), d)
    go false r = r

dark_decimal : (n : ℕ) → AreDark (decimal n)
unfolding digits
dark_decimal n = dark_onto 64 n [] tt

pub plain_decimal : (n : ℕ) → ArePlain (decimal n)
plain_decimal n = dark_plain (decimal n) (dark_decimal n)

plain_signed : (z : ℤ) → ArePlain (signed_decimal z)
plain_signed (pos n) = plain_decimal n
plain_signed (negsuc n) = ((λ is. absurd (omega (arith, is))), plain_decimal (suc n))

pub plain_spaced : (xs : List ℕ) → ArePlain xs → ArePlain (spaced xs)
plain_spaced xs p = ((λ is. absurd (omega (arith, is))), p)

plain_fields : (fields : List (List ℕ)) → AllByRecursion ArePlain fields → ArePlain (all_spaced fields)
plain_fields [] ps = tt
plain_fields (field ∷ fields) ps = plain-append (spaced field) (all_spaced fields) (plain_spaced field ps.0) (plain_fields fields ps.1)

plain_scanned : (format : Format) (p : Place) → ArePlain (scanned_text format p)
plain_scanned One p = plain_fields (scanned_fields One p) (plain_signed p.x, (plain_signed p.y, (plain_signed p.z, tt)))
plain_scanned Two p = plain_fields (scanned_fields Two p) (plain_signed p.x, (plain_signed p.y, (plain_signed p.z, (plain_decimal p.intensity, tt))))

plain_item : (format : Format) (i : Item) → ArePlain (item_text format i)
plain_item format i =
    let front : ArePlain (codes " | " ++ decimal i.number) = plain-append (codes " | ") (decimal i.number) (plain_test (codes " | ") refl) (plain_decimal i.number) in
    plain-append (codes " | " ++ decimal i.number) (scanned_text format i.point) front (plain_scanned format i.point)

plain_hit : (format : Format) (h : Hit) → ArePlain (hit_text format h)
plain_hit format h =
    let front = plain_item format (record { number = h.number; point = h.point; label = Live }) in
    plain-append (codes " | " ++ decimal h.number ++ scanned_text format h.point) (spaced (decimal h.dist2)) front (plain_spaced (decimal h.dist2) (plain_decimal h.dist2))

plain_group : (g : Group) → ArePlain (group_text g)
plain_group g =
    let front : ArePlain (codes " | " ++ decimal g.least) = plain-append (codes " | ") (decimal g.least) (plain_test (codes " | ") refl) (plain_decimal g.least) in
    plain-append (codes " | " ++ decimal g.least) (spaced (decimal g.size)) front (plain_spaced (decimal g.size) (plain_decimal g.size))

pub plain_hits : (format : Format) (hits : List Hit) → ArePlain (flat_map (hit_text format) hits)
plain_hits format [] = tt
plain_hits format (h ∷ hits) = plain-append (hit_text format h) (flat_map (hit_text format) hits) (plain_hit format h) (plain_hits format hits)

plain_list : (format : Format) (hits : List Hit) → ArePlain (list_text format hits)
plain_list format hits = plain-append (codes " /") (flat_map (hit_text format) hits) (plain_test (codes " /") refl) (plain_hits format hits)

pub plain_lists : (format : Format) (lists : List (List Hit)) → ArePlain (flat_map (list_text format) lists)
plain_lists format [] = tt
plain_lists format (hits ∷ lists) = plain-append (list_text format hits) (flat_map (list_text format) lists) (plain_list format hits) (plain_lists format lists)

pub plain_items : (format : Format) (items : List Item) → ArePlain (flat_map (item_text format) items)
plain_items format [] = tt
plain_items format (i ∷ items) = plain-append (item_text format i) (flat_map (item_text format) items) (plain_item format i) (plain_items format items)

pub plain_groups : (groups : List Group) → ArePlain (flat_map group_text groups)
plain_groups [] = tt
plain_groups (g ∷ groups) = plain-append (group_text g) (flat_map group_text groups) (plain_group g) (plain_groups groups)

pub plain_caller : (caller : ℕ) → ArePlain (caller_field caller)
plain_caller caller = ((λ is. absurd (omega (arith, is))), plain_decimal caller)

-- what comes behind a number: nothing, or a space first
abbrev pub IsCutOff : List ℕ → Type 0
IsCutOff [] = Unit {0}
IsCutOff (b ∷ xs) = b ≡ 32

field_dark : (xs tail : List ℕ) → AreDark xs → IsCutOff tail → first_field (xs ++ tail) ≡ xs
field_dark [] [] d c = refl
field_dark [] (b ∷ tail) d c = let e : nat_eq b 32 ≡ true = grind (arith, nat_tests, c) in rw e refl
field_dark (x ∷ xs) tail d c =
    let e : nat_eq x 32 ≡ false = (let low : 33 ≤ x = d.0 in grind (arith, nat_tests)) in
    rw e (ap (λ (ys : List ℕ). x ∷ ys) (field_dark xs tail d.1 c))

-- a number is the first field of what begins with it
pub field_decimal : (n : ℕ) (tail : List ℕ) → IsCutOff tail → first_field (decimal n ++ tail) ≡ decimal n
field_decimal n tail c = field_dark (decimal n) tail (dark_decimal n) c
