-- The line of each reply spells its mark.
use Rattle.std.proofs.Common.{◌≡◌, ℕ, ◌+◌, ◌≤◌, List, [], ◌∷◌, ◌++◌, length, refl, sym, ap, ◌∙◌, subst, arith, Option, Some, None}
use Rattle.std.specs.Prelude.{codes, decimal, take}
use Rattle.std.specs.List.{AllByRecursion, flat_map}
use Rattle.std.proofs.lemmas.List.{append-nil, append_assoc}
use Rattle.map_fold.specs.declared.hits.Hit.{Hit}
use Rattle.map_items.specs.declared.item.Item.{Item}
use Rattle.map_items.specs.declared.update.Update.{Update}
use Rattle.map_fold.specs.Answers.{nearest, nears, inside, count}
use Rattle.map_items.specs.Contents.{live_count, suspended_count}
use Rattle.map_fold.specs.Neighbours.{ball, lonely}
use Rattle.map_fold.specs.Clusters.{clusters}
use Rattle.local_region.specs.Regions.{RegionAt}
use Rattle.scan_log.specs.declared.format.Format.{Format}
use Rattle.scan_log.specs.declared.command.Command.{Command}
use Rattle.scan_log.specs.declared.command.Command.TheVariants.{Change, Near, Nears, Inside, Ball, Lonely, Clusters, Pose, Sync}
use Rattle.scan_log.specs.declared.reply.Reply.{Reply}
use Rattle.scan_log.specs.Poses.{plain_from, plain_command, regions_after}
use Rattle.scan_log.specs.Spelling.{caller_field}
use Rattle.scan_log.specs.Transcript.{counts_text, hit_text, list_text, item_text, items_text, group_text, spaced, held_at, reply_text, replies_from, lines_text}
use Rattle.transcript_check.specs.Heads.{head, heads, IsMarked, SpellMarks}
use Rattle.transcript_check.specs.MarkedLines.{reply_at}
use Rattle.transcript_check.specs.Verdicts.{joined_lines, reply_lines}
use Rattle.scan_log.proofs.Plains.{reply_plain}
use Rattle.transcript_check.proofs.Plain.{ArePlain, IsCutOff, plain_test, plain-append, plain_decimal, plain_spaced, plain_hits, plain_lists, plain_items, plain_groups, plain_caller, field_decimal}

-- a line of a head, a mark, and what is behind it
marked : (head bytes : List ℕ) (m : ℕ) (tail : List ℕ) → m ≤ 65536 → bytes ≡ (head ++ (decimal m ++ tail)) ++ 10 ∷ [] → IsCutOff tail → ArePlain head → ArePlain tail → IsMarked head bytes m
marked head bytes m tail few is cut first rest = record {
  line = head ++ (decimal m ++ tail);
  ended = is;
  one = plain-append head (decimal m ++ tail) first (plain-append (decimal m) tail (plain_decimal m) rest);
  spelled = record { behind = decimal m ++ tail; begun = refl; number = field_decimal m tail cut; few = few };
}

-- `marked`, of a caller's line, where the mark is after the word
called : (caller : ℕ) (word : List ℕ) (m : ℕ) (tail : List ℕ) → m ≤ 65536 → IsCutOff tail → ArePlain word → ArePlain tail
    → IsMarked (caller_field caller ++ word) (caller_field caller ++ word ++ decimal m ++ tail ++ 10 ∷ []) m
called caller word m tail few cut plain rest =
    marked (caller_field caller ++ word) _ m tail few
    (ap (λ (xs : List ℕ). xs ++ 10 ∷ []) (append_assoc (caller_field caller ++ word) (decimal m) tail)) cut
    (plain-append (caller_field caller) word (plain_caller caller) plain) rest

cut_hits : (format : Format) (hits : List Hit) → IsCutOff (flat_map (hit_text format) hits)
cut_hits format [] = tt
cut_hits format (h ∷ hits) = refl

cut_lists : (format : Format) (lists : List (List Hit)) → IsCutOff (flat_map (list_text format) lists)
cut_lists format [] = tt
cut_lists format (hits ∷ lists) = refl

-- the line of a search that counts what it finds
counted_line : (caller : ℕ) (word : List ℕ) (m n : ℕ) (found : List ℕ) → m ≤ 65536 → ArePlain word → ArePlain found
    → IsMarked (caller_field caller ++ word) (caller_field caller ++ word ++ decimal m ++ spaced (decimal n) ++ found ++ 10 ∷ []) m
counted_line caller word m n found few plain rest =
    subst (λ (xs : List ℕ). IsMarked (caller_field caller ++ word) (xs ++ 10 ∷ []) m)
    (sym (append_assoc (caller_field caller ++ word ++ decimal m) (spaced (decimal n)) found))
    (called caller word m (spaced (decimal n) ++ found) few refl plain (plain-append (spaced (decimal n)) found (plain_spaced (decimal n) (plain_decimal n)) rest))

-- the tail of a line of totals
plain_counts : (live suspended : ℕ) → ArePlain (codes " live " ++ decimal live ++ codes " suspended " ++ decimal suspended)
plain_counts live suspended =
    let first : ArePlain (codes " live " ++ decimal live) = plain-append (codes " live ") (decimal live) (plain_test (codes " live ") refl) (plain_decimal live) in
    let second : ArePlain (codes " live " ++ decimal live ++ codes " suspended ") = plain-append (codes " live " ++ decimal live) (codes " suspended ") first (plain_test (codes " suspended ") refl) in
    plain-append (codes " live " ++ decimal live ++ codes " suspended ") (decimal suspended) second (plain_decimal suspended)

done_line : (caller m : ℕ) → m ≤ 65536 → IsMarked (caller_field caller ++ codes " ok ") (caller_field caller ++ codes " ok " ++ decimal m ++ 10 ∷ []) m
done_line caller m few =
    subst (λ (xs : List ℕ). IsMarked (caller_field caller ++ codes " ok ") (xs ++ 10 ∷ []) m) (append-nil (caller_field caller ++ codes " ok " ++ decimal m))
    (called caller (codes " ok ") m [] few tt (plain_test (codes " ok ") refl) tt)

totals_line : (word : List ℕ) (m live suspended : ℕ) → m ≤ 65536 → ArePlain (word ++ 32 ∷ [])
    → IsMarked (word ++ 32 ∷ []) (word ++ spaced (decimal m) ++ counts_text live suspended) m
totals_line word m live suspended few plain =
    let tail = codes " live " ++ decimal live ++ codes " suspended " ++ decimal suspended in
    marked (word ++ 32 ∷ []) _ m tail few
    (sym (append_assoc (word ++ spaced (decimal m)) tail (10 ∷ []))
    ∙ ap (λ (xs : List ℕ). (xs ++ tail) ++ 10 ∷ []) (sym (append_assoc word (32 ∷ []) (decimal m)))
    ∙ ap (λ (xs : List ℕ). xs ++ 10 ∷ []) (append_assoc (word ++ 32 ∷ []) (decimal m) tail)) refl
    plain (plain_counts live suspended)

-- the line of a search that counts items
items_line : (format : Format) (caller : ℕ) (word : List ℕ) (m n : ℕ) (items : List Item) → m ≤ 65536 → ArePlain (32 ∷ word ++ 32 ∷ [])
    → IsMarked (caller_field caller ++ (32 ∷ word ++ 32 ∷ [])) (items_text format caller word (record { mark = m; count = n; items = items })) m
items_line format caller word m n items few plain =
    subst (λ (xs : List ℕ). IsMarked (caller_field caller ++ (32 ∷ word ++ 32 ∷ [])) (xs ++ spaced (decimal n) ++ flat_map (item_text format) items ++ 10 ∷ []) m)
    (front caller word m)
    (counted_line caller (32 ∷ word ++ 32 ∷ []) m n (flat_map (item_text format) items) few plain (plain_items format items))
  where
    front : (caller : ℕ) (word : List ℕ) (m : ℕ) → caller_field caller ++ (32 ∷ word ++ 32 ∷ []) ++ decimal m ≡ caller_field caller ++ spaced word ++ spaced (decimal m)
    front caller word m =
        append_assoc (caller_field caller) (32 ∷ word ++ 32 ∷ []) (decimal m)
        ∙ ap (λ (xs : List ℕ). caller_field caller ++ (32 ∷ xs)) (append_assoc word (32 ∷ []) (decimal m))
        ∙ sym (append_assoc (caller_field caller) (spaced word) (spaced (decimal m)))

-- the line of the reply to a command, or at the end
pub marked_reply : (format : Format) (c : Option Command) (items : List Item) (m : ℕ) → m ≤ 65536 → IsMarked (head c) (reply_text format c (reply_at items c m)) m
marked_reply format (Some (Change caller u)) items m few = done_line caller m few
marked_reply format (Some (Near caller k p within)) items m few =
    called caller (codes " near ") m _ few (cut_hits format (nearest items k p within)) (plain_test (codes " near ") refl) (plain_hits format (nearest items k p within))
marked_reply format (Some (Nears caller k ps)) items m few =
    called caller (codes " nears ") m _ few (cut_lists format (nears items k ps)) (plain_test (codes " nears ") refl) (plain_lists format (nears items k ps))
marked_reply format (Some (Inside caller k c)) items m few = items_line format caller (codes "box") m (count items c) (inside items c k) few (plain_test (codes " box ") refl)
marked_reply format (Some (Ball caller k r p)) items m few =
    items_line format caller (codes "ball") m (length (ball items p r)) (take k (ball items p r)) few (plain_test (codes " ball ") refl)
marked_reply format (Some (Lonely caller k r)) items m few =
    items_line format caller (codes "lonely") m (length (lonely items r)) (take k (lonely items r)) few (plain_test (codes " lonely ") refl)
marked_reply format (Some (Clusters caller k r)) items m few =
    counted_line caller (codes " clusters ") m (length (clusters items r)) (flat_map group_text (take k (clusters items r))) few (plain_test (codes " clusters ") refl)
    (plain_groups (take k (clusters items r)))
marked_reply format (Some (Pose caller rules p)) items m few = done_line caller m few
marked_reply format (Some Sync) items m few = totals_line (codes "sync") m (live_count items) (suspended_count items) few (plain_test (codes "sync ") refl)
marked_reply format None items m few = totals_line (codes "end") m (live_count items) (suspended_count items) few (plain_test (codes "end ") refl)

-- the lines of replies spell the marks that these are made under
pub spell_replies : (format : Format) (voxel : ℕ) (h : List Update) (cs : List Command) (marks : List ℕ) → length marks ≡ length cs + 1 → AllByRecursion (λ m. m ≤ 65536) marks
    → SpellMarks (heads cs) (reply_lines format cs (replies_from voxel h cs marks)) marks
spell_replies format voxel h [] [] many few = absurd (omega arith)
spell_replies format voxel h [] (m ∷ []) many few = (marked_reply format None (held_at voxel h m) m few.0, tt)
spell_replies format voxel h [] (m ∷ n ∷ marks) many few = absurd (omega arith)
spell_replies format voxel h (c ∷ cs) [] many few = absurd (omega arith)
spell_replies format voxel h (c ∷ cs) (m ∷ marks) many few = (
  marked_reply format (Some c) (held_at voxel h m) m few.0,
  spell_replies format voxel h cs marks (omega arith) few.1,
)

-- joined_lines they are the text
pub joined_replies : (format : Format) (cs : List Command) (rs : List Reply) → joined_lines (reply_lines format cs rs) ≡ lines_text format cs rs
joined_replies format [] [] = refl
joined_replies format [] (r ∷ rs) = append-nil (reply_text format None r)
joined_replies format (c ∷ cs) [] = refl
joined_replies format (c ∷ cs) (r ∷ rs) = ap (λ (xs : List ℕ). reply_text format (Some c) r ++ xs) (joined_replies format cs rs)

-- the reply to a pose is that to the change that it submits
head_plain : (regions : List (Option RegionAt)) (c : Command) → head (Some (plain_command regions c)) ≡ head (Some c)
head_plain regions (Change caller u) = refl
head_plain regions (Near caller k p within) = refl
head_plain regions (Nears caller k ps) = refl
head_plain regions (Inside caller k c) = refl
head_plain regions (Ball caller k r p) = refl
head_plain regions (Lonely caller k r) = refl
head_plain regions (Clusters caller k r) = refl
head_plain regions (Pose caller rules p) = refl
head_plain regions Sync = refl

pub heads-plain_from : (regions : List (Option RegionAt)) (cs : List Command) → heads (plain_from regions cs) ≡ heads cs
heads-plain_from regions [] = refl
heads-plain_from regions (c ∷ cs) = rw (head_plain regions c, heads-plain_from (regions_after regions c) cs) refl

pub reply_lines-plain_from : (format : Format) (regions : List (Option RegionAt)) (cs : List Command) (rs : List Reply)
    → reply_lines format (plain_from regions cs) rs ≡ reply_lines format cs rs
reply_lines-plain_from format regions [] rs = refl
reply_lines-plain_from format regions (c ∷ cs) [] = refl
reply_lines-plain_from format regions (c ∷ cs) (r ∷ rs) = rw (reply_plain format regions c r, reply_lines-plain_from format (regions_after regions c) cs rs) refl
