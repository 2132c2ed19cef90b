-- The lines of a history are the commands of a script.
use Rattle.std.proofs.Common.{◌≡◌, ℕ, zero, suc, ◌+◌, ◌*◌, ◌<◌, ◌≤◌, List, [], ◌∷◌, ◌++◌, length, map, take, drop, ◌-◌, min, refl, ap, sym, ◌∙◌, arith, append-nil, length-append, lit<}
use Rattle.std.specs.List.{AllByRecursion, flat_map}
use Rattle.std.proofs.lemmas.Grind.{flat_map-append}
use Rattle.std.proofs.lemmas.List.{length-drop, length-map, length-take, map-append}
use Rattle.point_geom.specs.Place.{Place}
use Rattle.map_items.specs.Fold.{points_in}
use Rattle.map_items.specs.declared.entry.Entry.{Entry}
use Rattle.map_items.specs.declared.update.Update.{Update}
use Rattle.map_items.specs.declared.update.Update.TheVariants.{Add, Thin, Delete, Suspend, Restore, Expire}
use Rattle.rebuild_core.specs.Lawful.{IsLawful, StateAt}
use Rattle.scan_log.specs.declared.command.Command.{Command}
use Rattle.scan_log.specs.declared.command.Command.TheVariants.{Change}
use Rattle.scan_log.specs.declared.format.Format.TheVariants.{Two}
use Rattle.scan_log.specs.Scripts.{IsCaller, IsCommand, IsScript, IsUpdate, hits_of, points_of}
use Rattle.scan_log.specs.Spelling.{Spells}
use Rattle.scan_log.specs.Written.{command_text, script_text}
use Rattle.scan_log.proofs.Growth.{points_of-push}
use Rattle.scan_log.proofs.WrittenScripts.{script_spelled}
use Rattle.history_log.specs.Lines.{HasLines, IsByCaller, first_parts, line_count, line_of, lines_of, part_of, piece, piece_count, submitted_by}
use Rattle.history_log.specs.Log.{script_of}
use Rattle.history_log.proofs.Entries.{submitted_few}
use Rattle.history_log.proofs.Pieces.{next_piece}

each_take : {X : Type 0} (P : X → Type 0) (n : ℕ) (xs : List X) → AllByRecursion P xs → AllByRecursion P (take n xs)
each_take P zero [] each = tt
each_take P zero (x ∷ xs) each = tt
each_take P (suc n) [] each = tt
each_take P (suc n) (x ∷ xs) each = (each.0, each_take P n xs each.1)

each_drop : {X : Type 0} (P : X → Type 0) (n : ℕ) (xs : List X) → AllByRecursion P xs → AllByRecursion P (drop n xs)
each_drop P zero [] each = tt
each_drop P zero (x ∷ xs) each = each
each_drop P (suc n) [] each = tt
each_drop P (suc n) (x ∷ xs) each = each_drop P n xs each.1

each_piece : {X : Type 0} (P : X → Type 0) (number : ℕ) (xs : List X) → AllByRecursion P xs → AllByRecursion P (piece number xs)
each_piece P number xs each = each_take P 262144 (drop (number * 262144) xs) (each_drop P (number * 262144) xs each)

pub each_append : {X : Type 0} (P : X → Type 0) (xs ys : List X) → AllByRecursion P xs → AllByRecursion P ys → AllByRecursion P (xs ++ ys)
each_append P [] ys each last = last
each_append P (x ∷ xs) ys each last = (each.0, each_append P xs ys each.1 last)

length-cut : {X : Type 0} (most n : ℕ) (xs : List X) → length (take most (drop n xs)) ≡ min most (length xs - n)
length-cut most n xs = length-take most (drop n xs) ∙ ap (λ m. min most m) (length-drop n xs)

-- a piece that is there has something, and no more than a command may have
cut_some : {X : Type 0} (most n : ℕ) (xs : List X) → 0 < most → n < length xs → 0 < length (take most (drop n xs))
cut_some most n xs some there = omega (arith, length-cut most n xs)

cut_few : {X : Type 0} (most n : ℕ) (xs : List X) → length (take most (drop n xs)) ≤ most
cut_few most n xs = omega (arith, length-cut most n xs)

cut_none : (most n : ℕ) (none : List Place) → length none ≡ 0 → 0 ≡ length (take most (drop n none))
cut_none most n none h = omega (arith, length-cut most n none)

starts_below : (number n : ℕ) → number < piece_count n → number * 262144 < n
starts_below number n below = omega arith

piece_some : {X : Type 0} (number : ℕ) (xs : List X) → number < piece_count (length xs) → 0 < length (piece number xs)
piece_some number xs below = cut_some 262144 (number * 262144) xs (lit< tt) (starts_below number (length xs) below)

piece_few : {X : Type 0} (number : ℕ) (xs : List X) → length (piece number xs) ≤ 262144
piece_few number xs = cut_few 262144 (number * 262144) xs

is_part : (u : Update) (number : ℕ) → HasLines u → number < line_count u → IsUpdate Two (part_of u number)
is_part (Add ps) number has below = (piece_some number ps below, piece_few number ps, each_piece _ number ps has)
is_part (Thin ps) number has below = (piece_some number ps below, piece_few number ps, each_piece _ number ps has)
is_part (Delete cs) number has below = (piece_some number cs below, piece_few number cs, each_piece _ number cs has)
is_part (Suspend cs) number has below = (piece_some number cs below, piece_few number cs, each_piece _ number cs has)
is_part (Restore cs) number has below = (piece_some number cs below, piece_few number cs, each_piece _ number cs has)
is_part (Expire n) number has below = omega arith

are_parts : (u : Update) (number : ℕ) → HasLines u → number ≤ line_count u → AllByRecursion (IsUpdate Two) (first_parts number u)
are_parts u zero has below = tt
are_parts u (suc number) has below =
    let before : number ≤ line_count u = omega arith in
    let here : number < line_count u = omega arith in
    each_append (IsUpdate Two) (first_parts number u) (part_of u number ∷ []) (are_parts u number has before) (is_part u number has here, tt)

are_changes : (caller : ℕ) (us : List Update) → IsCaller caller → AllByRecursion (IsUpdate Two) us → AllByRecursion (IsCommand Two) (map (λ u. Change caller u) us)
are_changes caller [] by each = tt
are_changes caller (u ∷ us) by each = ((by, each.0), are_changes caller us by each.1)

-- the lines of an entry are commands
pub are_lines : (e : Entry) → IsByCaller e → HasLines e.update → AllByRecursion (IsCommand Two) (line_of e)
are_lines e by has = are_changes e.caller (first_parts (line_count e.update) e.update) by (are_parts e.update (line_count e.update) has (omega arith))

length-first_parts : (number : ℕ) (u : Update) → length (first_parts number u) ≡ number
length-first_parts zero u = refl
length-first_parts (suc number) u = omega (arith, length-first_parts number u, length-append (first_parts number u) (part_of u number ∷ []))

-- an entry has as many lines as were counted
pub length-line_of : (e : Entry) → length (line_of e) ≡ line_count e.update
length-line_of e = length-map (first_parts (line_count e.update) e.update) (λ u. Change e.caller u) ∙ length-first_parts (line_count e.update) e.update

-- the points of an update
points_within : Update → List Place
points_within (Add ps) = ps
points_within (Thin ps) = ps
points_within (Delete cs) = []
points_within (Suspend cs) = []
points_within (Restore cs) = []
points_within (Expire n) = []

no_piece : (number : ℕ) → 0 ≡ length (piece {X = Place} number [])
no_piece number = cut_none 262144 (number * 262144) [] refl

part_points : (u : Update) (number : ℕ) → points_in (part_of u number) ≡ length (piece number (points_within u))
unfolding points_within
part_points (Add ps) number = refl
part_points (Thin ps) number = refl
part_points (Delete cs) number = no_piece number
part_points (Suspend cs) number = no_piece number
part_points (Restore cs) number = no_piece number
part_points (Expire n) number = no_piece number

all_points : (u : Update) → length (points_within u) ≡ points_in u
unfolding points_within
all_points (Add ps) = refl
all_points (Thin ps) = refl
all_points (Delete cs) = refl
all_points (Suspend cs) = refl
all_points (Restore cs) = refl
all_points (Expire n) = refl

counted : (all before here pieces piece more : ℕ) → all ≡ before + here → before ≡ pieces → here ≡ piece → pieces + piece ≡ more → all ≡ more
counted all before here pieces piece more a b c d = omega arith

at_most : (found pieces most n all : ℕ) → found ≡ pieces → pieces ≡ min most n → n ≡ all → found ≤ all
at_most found pieces most n all a b c = omega arith

changes_points : (caller number : ℕ) (u : Update) → points_of (map (λ v. Change caller v) (first_parts number u)) ≡ length (take (number * 262144) (points_within u))
changes_points caller zero u = ap (λ (xs : List Place). length xs) (sym (take_none (points_within u)))
  where
    take_none : {X : Type 0} (xs : List X) → take 0 xs ≡ []
    take_none [] = refl
    take_none (x ∷ xs) = refl
changes_points caller (suc number) u =
    let f : Update → Command = λ v. Change caller v in
    let joined : points_of (map f (first_parts number u ++ part_of u number ∷ [])) ≡ points_of (map f (first_parts number u)) + points_in (part_of u number)
    = ap points_of (map-append f (first_parts number u) (part_of u number ∷ [])) ∙ points_of-push (map f (first_parts number u)) (f (part_of u number)) in
    let pieces : length (take (number * 262144) (points_within u)) + length (piece number (points_within u)) ≡ length (take (suc number * 262144) (points_within u))
    = sym (length-append (take (number * 262144) (points_within u)) (piece number (points_within u))) ∙ ap (λ (xs : List Place). length xs) (next_piece number (points_within u)) in
    counted _ _ _ _ _ _ joined (changes_points caller number u) (part_points u number) pieces

line_points : (e : Entry) → points_of (line_of e) ≤ points_in e.update
line_points e =
    at_most _ _ _ _ _ (changes_points e.caller (line_count e.update) e.update) (length-take (line_count e.update * 262144) (points_within e.update)) (all_points e.update)

points_of-append : (cs ds : List Command) → points_of (cs ++ ds) ≡ points_of cs + points_of ds
points_of-append [] ds = omega arith
points_of-append (c ∷ cs) ds = omega (arith, points_of-append cs ds)

hits_of-append : (cs ds : List Command) → hits_of (cs ++ ds) ≡ hits_of cs + hits_of ds
hits_of-append [] ds = omega arith
hits_of-append (c ∷ cs) ds = omega (arith, hits_of-append cs ds)

changes_hits : (caller : ℕ) (us : List Update) → hits_of (map (λ u. Change caller u) us) ≡ 0
changes_hits caller [] = refl
changes_hits caller (u ∷ us) = omega (arith, changes_hits caller us)

lines_points : (h : List Entry) → points_of (lines_of h) ≤ submitted_by h
lines_points [] = omega arith
lines_points (e ∷ h) = omega (arith, line_points e, lines_points h, points_of-append (line_of e) (lines_of h))

lines_hits : (h : List Entry) → hits_of (lines_of h) ≡ 0
lines_hits [] = refl
lines_hits (e ∷ h) = omega (arith, changes_hits e.caller (first_parts (line_count e.update) e.update), lines_hits h, hits_of-append (line_of e) (lines_of h))

-- A history's lines, where each is a command and they are few enough, are a script, and their text spells it.
pub is_script : (s : StateAt) → IsLawful s → AllByRecursion (IsCommand Two) (lines_of s.history) → length (lines_of s.history) ≤ 65536 → IsScript (script_of s)
is_script s k each few = record {
  sizes = k.sizes;
  each = each;
  few = few;
  room = omega (arith, lines_points s.history, submitted_few s k);
  hits = omega (arith, lines_hits s.history);
}

pub log_spelled : (s : StateAt) → IsLawful s → AllByRecursion (IsCommand Two) (lines_of s.history) → length (lines_of s.history) ≤ 65536 → Spells (script_text (script_of s)) (script_of s)
log_spelled s k each few = script_spelled (script_of s) (is_script s k each few)

-- the text of one part more
pub text_more : (caller number n : ℕ) (u : Update) → n ≡ suc number
    → flat_map (command_text Two) (map (λ v. Change caller v) (first_parts n u))
    ≡ flat_map (command_text Two) (map (λ v. Change caller v) (first_parts number u))
    ++ command_text Two (Change caller (part_of u number))
text_more caller number n u next =
    let f : Update → Command = λ v. Change caller v in
    let t = command_text Two in
    ap (λ m. flat_map t (map f (first_parts m u))) next
    ∙ ap (flat_map t) (map-append f (first_parts number u) (part_of u number ∷ []))
    ∙ flat_map-append t (map f (first_parts number u)) (f (part_of u number) ∷ [])
    ∙ ap (λ x. flat_map t (map f (first_parts number u)) ++ x) (append-nil (t (f (part_of u number))))
