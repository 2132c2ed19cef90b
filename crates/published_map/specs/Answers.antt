-- What a call with a pass returns, and leaves of what the pass has seen.
use Rattle.std.specs.Prelude.{◌≡◌, ℕ, ◌+◌, ◌<◌, List, length, Option, Result, Ok, Err}
use Rattle.point_geom.specs.Place.{Place, Bounds}
use Rattle.map_items.specs.declared.entry.Entry.{Entry}
use Rattle.map_fold.specs.declared.reply.NearReply.{NearReply}
use Rattle.map_fold.specs.declared.reply.BoxReply.{BoxReply}
use Rattle.map_items.specs.declared.update.Update.{Update}
use Rattle.map_fold.specs.Answers.{nearest, inside, count}
use Rattle.map_items.specs.Fold.{fold, points_in}
use Rattle.rebuild_parts.specs.History.{updates}
use Rattle.rebuild_parts.specs.declared.fault.StateFault.{StateFault}
use Rattle.rebuild_parts.specs.declared.fault.StateFault.TheVariants.{TooManyUpdates, TooManyPoints, NoMemory}
use Rattle.shown_versions.specs.Marks.{Seen, Grown, Added}
use Rattle.shown_versions.specs.Versions.{held}
use Rattle.map_items.specs.declared.limits.TheConstants.{MAX_POINTS}
use Rattle.rebuild_core.specs.declared.plan.TheConstants.{MAX_UPDATES}

-- An update ends what its pass has seen. A refusal by a limit shows the history that is full; on `NoMemory` all stays.
abbrev pub Updated : ℕ → Result ℕ StateFault → Seen → Seen → Update → Type 0
Updated voxel (Ok n) p q u = Added p q u n
Updated voxel (Err (TooManyUpdates len)) p q u = Grown p q × (len ≡ length q.seen) × (len ≡ MAX_UPDATES)
Updated voxel (Err (TooManyPoints next asked)) p q u =
    Grown p q × (next ≡ (fold voxel (updates q.seen)).next) × (asked ≡ points_in u) × (MAX_POINTS < next + asked)
Updated voxel (Err NoMemory) p q u = q ≡ p

-- the nearest points of what the history leaves, at its length
abbrev pub near_reply : ℕ → List Entry → ℕ → Place → Option ℕ → NearReply
near_reply voxel h k q within = record { mark = length h; hits = nearest (held voxel h) k q within }

-- what is in the box of what the history leaves, at its length
abbrev pub box_reply : ℕ → List Entry → Bounds → ℕ → BoxReply
box_reply voxel h c most = record { mark = length h; count = count (held voxel h) c; items = inside (held voxel h) c most }
