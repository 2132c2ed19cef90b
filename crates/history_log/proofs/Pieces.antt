-- What the parts of an update do, one after the other.
use Rattle.std.proofs.Common.{◌≡◌, ℕ, zero, suc, nat_lt, ◌+◌, ◌*◌, ◌<◌, ◌≤◌, List, [], ◌∷◌, ◌++◌, length, map, take, min, ◌⊎◌, inl, inr, refl, ap, sym, ◌∙◌, arith}
use Rattle.std.proofs.Math.Seq.{take-add}
use Rattle.std.proofs.lemmas.List.{take_all}
use Rattle.std.proofs.lemmas.Bool.Decides.{nat_tests}
use Rattle.std.specs.Prelude.{if◌then◌else◌}
use Rattle.point_geom.specs.Place.{Place, Bounds}
use Rattle.node_labels.specs.Labels.{delete_tag, suspend_tag, restore_tag}
use Rattle.node_labels.specs.declared.tag.Tag.{Tag}
use Rattle.map_items.specs.Contents.{AreContents, below_number, chosen_by, in_box, kept, mark, marked_item, put, relabelled, thin}
use Rattle.map_items.specs.Fold.{MapAt, add_points, fold_from, mark_boxes, step, thin_points}
use Rattle.map_items.specs.declared.item.Item.{Item}
use Rattle.map_items.specs.declared.update.Update.{Update}
use Rattle.map_items.specs.declared.update.Update.TheVariants.{Add, Thin, Delete, Suspend, Restore, Expire}
use Rattle.map_items.proofs.Folds.{fold_from-push}
use Rattle.map_items.proofs.Numbered.{contents_mark, contents_within}
use Rattle.map_items.proofs.Puts.{contents_put}
use Rattle.map_update.proofs.Entering.{contents_entered}
use Rattle.history_log.specs.Lines.{first_parts, line_count, part_of, piece, piece_count}

-- the pieces before one, and that one
pub next_piece : {X : Type 0} (number : ℕ) (xs : List X) → take (number * 262144) xs ++ piece number xs ≡ take (suc number * 262144) xs
next_piece number xs =
    let more : number * 262144 + 262144 ≡ suc number * 262144 = omega arith in
    sym (take-add (number * 262144) 262144 xs) ∙ ap (λ n. take n xs) more

-- all of them
pub all_pieces : {X : Type 0} (xs : List X) → take (piece_count (length xs) * 262144) xs ≡ xs
all_pieces xs = take_all (piece_count (length xs) * 262144) xs (omega arith)

le_or : (m n : ℕ) → (m ≤ n) ⊎ (n < m)
le_or m n = grind arith

-- a prefix of a list, as far as the list goes
pub take_least : {X : Type 0} (n : ℕ) (xs : List X) → take (min (length xs) n) xs ≡ take n xs
take_least n xs =
    elim (le_or (length xs) n) [
      | inl short ↦ take_all (min (length xs) n) xs (omega arith) ∙ sym (take_all n xs short)
      | inr long ↦ let least : min (length xs) n ≡ n = omega arith in ap (λ k. take k xs) least
    ]

add_append : (ps qs : List Place) (m : MapAt) → add_points (ps ++ qs) m ≡ add_points qs (add_points ps m)
add_append [] qs m = refl
add_append (p ∷ ps) qs m = add_append ps qs (record { items = put m.items m.next p; next = m.next + 1 })

thin_append : (edge : ℕ) (ps qs : List Place) (m : MapAt) → thin_points edge (ps ++ qs) m ≡ thin_points edge qs (thin_points edge ps m)
thin_append edge [] qs m = refl
thin_append edge (p ∷ ps) qs m = thin_append edge ps qs (record { items = thin edge m.items m.next p; next = m.next + 1 })

mark_append : (a : Tag) (cs ds : List Bounds) (m : MapAt) → mark_boxes a (cs ++ ds) m ≡ mark_boxes a ds (mark_boxes a cs m)
mark_append a [] ds m = refl
mark_append a (c ∷ cs) ds m = mark_append a cs ds (record m { items = mark m.items (in_box c) a })

parts_add : (voxel number : ℕ) (ps : List Place) (m : MapAt) → fold_from voxel (first_parts number (Add ps)) m ≡ add_points (take (number * 262144) ps) m
parts_add voxel zero ps m = refl
parts_add voxel (suc number) ps m =
    fold_from-push voxel (first_parts number (Add ps)) (Add (piece number ps)) m
    ∙ ap (λ x. add_points (piece number ps) x) (parts_add voxel number ps m)
    ∙ sym (add_append (take (number * 262144) ps) (piece number ps) m)
    ∙ ap (λ xs. add_points xs m) (next_piece number ps)

parts_thin : (voxel number : ℕ) (ps : List Place) (m : MapAt) → fold_from voxel (first_parts number (Thin ps)) m ≡ thin_points voxel (take (number * 262144) ps) m
parts_thin voxel zero ps m = refl
parts_thin voxel (suc number) ps m =
    fold_from-push voxel (first_parts number (Thin ps)) (Thin (piece number ps)) m
    ∙ ap (λ x. thin_points voxel (piece number ps) x) (parts_thin voxel number ps m)
    ∙ sym (thin_append voxel (take (number * 262144) ps) (piece number ps) m)
    ∙ ap (λ xs. thin_points voxel xs m) (next_piece number ps)

-- what an update does to boxes, by its action
marking : (a : Tag) (voxel number : ℕ) (cs : List Bounds) (u : List Bounds → Update) (m : MapAt)
    → ((ds : List Bounds) (n : MapAt) → step voxel (u ds) n ≡ mark_boxes a ds n) → ((k : ℕ) → part_of (u cs) k ≡ u (piece k cs))
    → fold_from voxel (first_parts number (u cs)) m ≡ mark_boxes a (take (number * 262144) cs) m
marking a voxel zero cs u m does is = refl
marking a voxel (suc number) cs u m does is =
    fold_from-push voxel (first_parts number (u cs)) (part_of (u cs) number) m
    ∙ ap (λ v. step voxel v (fold_from voxel (first_parts number (u cs)) m)) (is number)
    ∙ does (piece number cs) (fold_from voxel (first_parts number (u cs)) m)
    ∙ ap (λ x. mark_boxes a (piece number cs) x) (marking a voxel number cs u m does is)
    ∙ sym (mark_append a (take (number * 262144) cs) (piece number cs) m)
    ∙ ap (λ xs. mark_boxes a xs m) (next_piece number cs)

least_lt : (k n : ℕ) → k < 4194304 → nat_lt k (min n 4194304) ≡ nat_lt k n
least_lt k n below = grind (arith, nat_tests)

-- a number above those of all items drops what the greatest of them drops
marked_same : (low high n : ℕ) (m : List Item) → AreContents low high m → high ≤ 4194304
    → map (marked_item (chosen_by (below_number (min n 4194304))) delete_tag) m ≡ map (marked_item (chosen_by (below_number n)) delete_tag) m
marked_same low high n [] h few = refl
marked_same low high n (i ∷ m) h few =
    let rest = marked_same (i.number + 1) high n m h.3 few in
    let below : i.number < 4194304 = omega (arith, h.1, few) in
    let same : chosen_by (below_number (min n 4194304)) i ≡ chosen_by (below_number n) i = rw (least_lt i.number n below) refl in
    ap (λ b. (if b then relabelled delete_tag i else i) ∷ map (marked_item (chosen_by (below_number (min n 4194304))) delete_tag) m) same
    ∙ ap (λ xs. marked_item (chosen_by (below_number n)) delete_tag i ∷ xs) rest

-- The parts of an update do what the update does.
pub parts_fold : (voxel : ℕ) (u : Update) (m : MapAt) → AreContents 0 m.next m.items → m.next ≤ 4194304 → fold_from voxel (first_parts (line_count u) u) m ≡ step voxel u m
parts_fold voxel (Add ps) m held few = parts_add voxel (piece_count (length ps)) ps m ∙ ap (λ xs. add_points xs m) (all_pieces ps)
parts_fold voxel (Thin ps) m held few = parts_thin voxel (piece_count (length ps)) ps m ∙ ap (λ xs. thin_points voxel xs m) (all_pieces ps)
parts_fold voxel (Delete cs) m held few = marking delete_tag voxel (piece_count (length cs)) cs Delete m (λ ds n. refl) (λ k. refl) ∙ ap (λ xs. mark_boxes delete_tag xs m) (all_pieces cs)
parts_fold voxel (Suspend cs) m held few = marking suspend_tag voxel (piece_count (length cs)) cs Suspend m (λ ds n. refl) (λ k. refl) ∙ ap (λ xs. mark_boxes suspend_tag xs m) (all_pieces cs)
parts_fold voxel (Restore cs) m held few = marking restore_tag voxel (piece_count (length cs)) cs Restore m (λ ds n. refl) (λ k. refl) ∙ ap (λ xs. mark_boxes restore_tag xs m) (all_pieces cs)
parts_fold voxel (Expire n) m held few = ap (λ (xs : List Item). record m { items = kept xs }) (marked_same 0 m.next n m.items held few)

contents_add : (ps : List Place) (m : MapAt) → AreContents 0 m.next m.items → AreContents 0 (add_points ps m).next (add_points ps m).items
contents_add [] m h = h
contents_add (p ∷ ps) m h =
    let wide = contents_within 0 0 m.next (m.next + 1) m.items (omega arith) (omega arith) h in
    contents_add ps (record { items = put m.items m.next p; next = m.next + 1 }) (contents_put 0 (m.next + 1) m.next m.items p (omega arith) (omega arith) wide)

contents_thinned : (edge : ℕ) (ps : List Place) (m : MapAt) → AreContents 0 m.next m.items → AreContents 0 (thin_points edge ps m).next (thin_points edge ps m).items
contents_thinned edge [] m h = h
contents_thinned edge (p ∷ ps) m h =
    let wide = contents_within 0 0 m.next (m.next + 1) m.items (omega arith) (omega arith) h in
    contents_thinned edge ps (record { items = thin edge m.items m.next p; next = m.next + 1 }) (contents_entered edge (m.next + 1) m.next m.items p wide (omega arith))

contents_marked : (a : Tag) (cs : List Bounds) (m : MapAt) → AreContents 0 m.next m.items → AreContents 0 (mark_boxes a cs m).next (mark_boxes a cs m).items
contents_marked a [] m h = h
contents_marked a (c ∷ cs) m h = contents_marked a cs (record m { items = mark m.items (in_box c) a }) (contents_mark 0 m.next m.items (in_box c) a h)

-- an update leaves what a map may hold
pub contents_step : (voxel : ℕ) (u : Update) (m : MapAt) → AreContents 0 m.next m.items → AreContents 0 (step voxel u m).next (step voxel u m).items
contents_step voxel (Add ps) m h = contents_add ps m h
contents_step voxel (Thin ps) m h = contents_thinned voxel ps m h
contents_step voxel (Delete cs) m h = contents_marked delete_tag cs m h
contents_step voxel (Suspend cs) m h = contents_marked suspend_tag cs m h
contents_step voxel (Restore cs) m h = contents_marked restore_tag cs m h
contents_step voxel (Expire n) m h = contents_mark 0 m.next m.items (chosen_by (below_number n)) delete_tag h
