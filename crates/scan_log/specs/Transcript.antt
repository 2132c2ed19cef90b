-- The replies to a script, and their text.
use Rattle.std.specs.Prelude.{ℕ, ◌+◌, List, [], ◌∷◌, ◌++◌, map, take, length, codes, decimal, nat_lt, if◌then◌else◌}
use Rattle.std.specs.List.{flat_map}
use Rattle.std.specs.declared.option.Option.{Option}
use Rattle.std.specs.declared.option.Option.TheVariants.{None, Some}
use Rattle.point_geom.specs.Place.{Place}
use Rattle.map_fold.specs.declared.hits.Hit.{Hit}
use Rattle.map_items.specs.declared.item.Item.{Item}
use Rattle.map_fold.specs.declared.reply.NearReply.{NearReply}
use Rattle.map_fold.specs.declared.reply.NearsReply.{NearsReply}
use Rattle.map_fold.specs.declared.reply.BoxReply.{BoxReply}
use Rattle.map_fold.specs.declared.reply.ClusterReply.{ClusterReply}
use Rattle.map_fold.specs.declared.group.Group.{Group}
use Rattle.map_items.specs.declared.update.Update.{Update}
use Rattle.map_fold.specs.Answers.{nearest, nears, inside, count}
use Rattle.map_items.specs.Contents.{live_count, suspended_count}
use Rattle.map_fold.specs.Neighbours.{ball, lonely}
use Rattle.map_fold.specs.Clusters.{clusters}
use Rattle.map_items.specs.Fold.{fold}
use Rattle.scan_log.specs.Commands.{command_update, updates_made}
use Rattle.scan_log.specs.declared.format.Format.{Format}
use Rattle.scan_log.specs.declared.command.Command.{Command}
use Rattle.scan_log.specs.declared.command.Command.TheVariants.{Change, Near, Nears, Inside, Ball, Lonely, Clusters, Pose, Sync}
use Rattle.scan_log.specs.declared.reply.Reply.{Reply}
use Rattle.scan_log.specs.declared.reply.Reply.TheVariants as reply
use Rattle.scan_log.specs.Scripts.{ScriptAt}
use Rattle.scan_log.specs.Poses.{plain_script}
use Rattle.scan_log.specs.Spelling.{caller_field, point_fields, scanned_fields}

-- These are about commands among which each pose is the deletion that it submits, and not about a pose itself.

-- how many of the commands are updates
abbrev pub updates_in : List Command → ℕ
updates_in cs = length (updates_made cs)

-- an update before the first whose mark is greater
abbrev pub put_update : ℕ → Update → List (ℕ × Update) → List (ℕ × Update)
put_update m u [] = (m, u) ∷ []
put_update m u (h ∷ hs) = if nat_lt h.0 m then h ∷ put_update m u hs else (m, u) ∷ h ∷ hs

-- the list with a command's update, if it makes one
abbrev pub put_if : ℕ → Option Update → List (ℕ × Update) → List (ℕ × Update)
put_if m (Some u) hs = put_update m u hs
put_if m None hs = hs

-- the updates of the commands with their marks, in the order of these
abbrev pub marked_updates : List Command → List ℕ → List (ℕ × Update)
marked_updates (c ∷ cs) (m ∷ marks) = put_if m (command_update c) (marked_updates cs marks)
marked_updates [] marks = []
marked_updates cs [] = []

-- the updates alone
abbrev pub history : List Command → List ℕ → List Update
history cs marks = map (λ h. h.1) (marked_updates cs marks)

-- what is held after the first m updates
abbrev pub held_at : ℕ → List Update → ℕ → List Item
held_at voxel h m = (fold voxel (take m h)).items

-- how many of these items are live and how many suspended, where the mark is m
abbrev pub totals_on : List Item → ℕ → Reply
totals_on items m = reply.Totals m (live_count items) (suspended_count items)

-- the totals of what is held after the first m updates
abbrev pub totals_reply : ℕ → List Update → ℕ → Reply
totals_reply voxel h m = totals_on (held_at voxel h m) m

-- how many items were found, and the first k of them
abbrev pub found_reply : ℕ → List Item → ℕ → BoxReply
found_reply m items k = record { mark = m; count = length items; items = take k items }

-- how many clusters were found, and the first k of them
abbrev pub clusters_reply : ℕ → List Group → ℕ → ClusterReply
clusters_reply m groups k = record { mark = m; count = length groups; groups = take k groups }

-- the reply to a command where these items are held, and its mark is m
abbrev pub reply_on : List Item → Command → ℕ → Reply
reply_on items (Change caller u) m = reply.Done m
reply_on items (Near caller k p within) m = reply.Near (record { mark = m; hits = nearest items k p within })
reply_on items (Nears caller k ps) m = reply.Nears (record { mark = m; lists = nears items k ps })
reply_on items (Inside caller k c) m = reply.Inside (record { mark = m; count = count items c; items = inside items c k })
reply_on items (Ball caller k r p) m = reply.Ball (found_reply m (ball items p r) k)
reply_on items (Lonely caller k r) m = reply.Lonely (found_reply m (lonely items r) k)
reply_on items (Clusters caller k r) m = reply.Clusters (clusters_reply m (clusters items r) k)
reply_on items (Pose caller rules p) m = reply.Done m
reply_on items Sync m = totals_on items m

-- the reply to a command after as many updates as its mark is
abbrev pub reply_to : ℕ → List Update → Command → ℕ → Reply
reply_to voxel h c m = reply_on (held_at voxel h m) c m

-- one reply for each command, and one for the end
abbrev pub replies_from : ℕ → List Update → List Command → List ℕ → List Reply
replies_from voxel h (c ∷ cs) (m ∷ marks) = reply_to voxel h c m ∷ replies_from voxel h cs marks
replies_from voxel h [] (m ∷ marks) = totals_reply voxel h m ∷ []
replies_from voxel h cs [] = []

-- the replies to a script under these marks
abbrev pub replies : ScriptAt → List ℕ → List Reply
replies s marks = replies_from s.sizes.voxel (history s.commands marks) s.commands marks

-- the mark that a reply carries
abbrev pub mark_of : Reply → ℕ
mark_of (reply.Done m) = m
mark_of (reply.Near r) = r.mark
mark_of (reply.Nears r) = r.mark
mark_of (reply.Inside r) = r.mark
mark_of (reply.Ball r) = r.mark
mark_of (reply.Lonely r) = r.mark
mark_of (reply.Clusters r) = r.mark
mark_of (reply.Totals m live suspended) = m

-- the mark of a command in the log's order, after n updates
abbrev pub mark_from : ℕ → Option Update → ℕ
mark_from n (Some u) = n + 1
mark_from n None = n

-- the marks of a run in the log's order, after n updates
abbrev pub serial_marks_from : ℕ → List Command → List ℕ
serial_marks_from n [] = n ∷ []
serial_marks_from n (c ∷ cs) = mark_from n (command_update c) ∷ serial_marks_from (mark_from n (command_update c)) cs

-- the marks of a script that runs in the log's order
abbrev pub serial_marks : ScriptAt → List ℕ
serial_marks s = serial_marks_from 0 s.commands

-- a space, and the field
abbrev pub spaced : List ℕ → List ℕ
spaced field = 32 ∷ field

-- each field after a space
abbrev pub all_spaced : List (List ℕ) → List ℕ
all_spaced fields = flat_map spaced fields

-- x y z, each after a space
abbrev pub point_text : Place → List ℕ
point_text p = all_spaced (point_fields p)

-- x y z, and the intensity where the version has any, each after a space
abbrev pub scanned_text : Format → Place → List ℕ
scanned_text format p = all_spaced (scanned_fields format p)

-- n x y z d, after a bar, with the intensity before d where a log has any
abbrev pub hit_text : Format → Hit → List ℕ
hit_text format h = codes " | " ++ decimal h.number ++ scanned_text format h.point ++ spaced (decimal h.dist2)

-- n x y z, after a bar, and the intensity where a log has any
abbrev pub item_text : Format → Item → List ℕ
item_text format i = codes " | " ++ decimal i.number ++ scanned_text format i.point

-- @c ok M
abbrev pub done_text : ℕ → ℕ → List ℕ
done_text caller mark = caller_field caller ++ codes " ok " ++ decimal mark ++ 10 ∷ []

-- @c near M, and the hits
abbrev pub near_text : Format → ℕ → NearReply → List ℕ
near_text format caller r = caller_field caller ++ codes " near " ++ decimal r.mark ++ flat_map (hit_text format) r.hits ++ 10 ∷ []

-- a stroke, and the hits
abbrev pub list_text : Format → List Hit → List ℕ
list_text format hits = codes " /" ++ flat_map (hit_text format) hits

-- @c nears M, and the hits of each place
abbrev pub nears_text : Format → ℕ → NearsReply → List ℕ
nears_text format caller r = caller_field caller ++ codes " nears " ++ decimal r.mark ++ flat_map (list_text format) r.lists ++ 10 ∷ []

-- @c, the word of a search that counts items, M C, and the items
abbrev pub items_text : Format → ℕ → List ℕ → BoxReply → List ℕ
items_text format caller word r =
    caller_field caller ++ spaced word ++ spaced (decimal r.mark) ++ spaced (decimal r.count) ++ flat_map (item_text format) r.items ++ 10 ∷ []

-- n s, after a bar
abbrev pub group_text : Group → List ℕ
group_text g = codes " | " ++ decimal g.least ++ spaced (decimal g.size)

-- @c clusters M C, and the clusters
abbrev pub clusters_text : ℕ → ClusterReply → List ℕ
clusters_text caller r =
    caller_field caller ++ codes " clusters " ++ decimal r.mark ++ spaced (decimal r.count) ++ flat_map group_text r.groups ++ 10 ∷ []

-- live A suspended B
abbrev pub counts_text : ℕ → ℕ → List ℕ
counts_text live suspended = codes " live " ++ decimal live ++ codes " suspended " ++ decimal suspended ++ 10 ∷ []

-- the word, M, and the counts
abbrev pub totals_text : List ℕ → ℕ → ℕ → ℕ → List ℕ
totals_text word mark live suspended = word ++ spaced (decimal mark) ++ counts_text live suspended

-- the line of a reply to a command, or without one at the end
abbrev pub reply_text : Format → Option Command → Reply → List ℕ
reply_text format (Some (Change caller u)) (reply.Done mark) = done_text caller mark
reply_text format (Some (Near caller k p within)) (reply.Near r) = near_text format caller r
reply_text format (Some (Nears caller k ps)) (reply.Nears r) = nears_text format caller r
reply_text format (Some (Inside caller k c)) (reply.Inside r) = items_text format caller (codes "box") r
reply_text format (Some (Ball caller k r p)) (reply.Ball found) = items_text format caller (codes "ball") found
reply_text format (Some (Lonely caller k r)) (reply.Lonely found) = items_text format caller (codes "lonely") found
reply_text format (Some (Clusters caller k r)) (reply.Clusters found) = clusters_text caller found
reply_text format (Some (Pose caller rules p)) (reply.Done mark) = done_text caller mark
reply_text format (Some Sync) (reply.Totals mark live suspended) = totals_text (codes "sync") mark live suspended
reply_text format None (reply.Totals mark live suspended) = totals_text (codes "end") mark live suspended
reply_text format c r = []

-- the lines of the replies, one after another
abbrev pub lines_text : Format → List Command → List Reply → List ℕ
lines_text format (c ∷ cs) (r ∷ rs) = reply_text format (Some c) r ++ lines_text format cs rs
lines_text format [] (r ∷ rs) = reply_text format None r
lines_text format cs [] = []

-- the transcript of a script under these marks: the reply to each pose is that to the deletion that it submits
abbrev pub text : ScriptAt → List ℕ → List ℕ
text s marks = lines_text s.format s.commands (replies (plain_script s) marks)
