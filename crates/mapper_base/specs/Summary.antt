-- The line of a run's sums.
use Rattle.std.specs.Prelude.{ℕ, ◌+◌, ◌-◌, List, [], ◌∷◌, ◌++◌, length, slice_get, codes, decimal, None, Some}
use Rattle.std.specs.declared.option.Option.{Option}
use Rattle.scan_log.specs.declared.reply.Reply.{Reply}
use Rattle.scan_log.specs.declared.reply.Reply.TheVariants.{Done, Near, Nears, Inside, Ball, Lonely, Clusters, Totals}
use Rattle.scan_log.specs.Scripts.{ScriptAt, points_of}
use Rattle.scan_log.specs.Poses.{plain_script}
use Rattle.scan_log.specs.Transcript.{replies, serial_marks}
use Rattle.mapper_base.specs.Generated.{generated}

-- the hits of a reply to a single search
abbrev pub hits_in_reply : Reply → ℕ
hits_in_reply (Near r) = length r.hits
hits_in_reply (Done mark) = 0
hits_in_reply (Nears r) = 0
hits_in_reply (Inside r) = 0
hits_in_reply (Ball r) = 0
hits_in_reply (Lonely r) = 0
hits_in_reply (Clusters r) = 0
hits_in_reply (Totals mark live suspended) = 0

-- the hits of all single searches
abbrev pub hits_in : List Reply → ℕ
hits_in [] = 0
hits_in (r ∷ rs) = hits_in_reply r + hits_in rs

-- how many points are held
pub record Held : Type 0 where
  pub live : ℕ
  pub suspended : ℕ

-- as the reply at the end has it
abbrev pub told_by : Option Reply → Held
told_by (Some (Totals mark live suspended)) = record { live = live; suspended = suspended }
told_by (Some (Done mark)) = record { live = 0; suspended = 0 }
told_by (Some (Near r)) = record { live = 0; suspended = 0 }
told_by (Some (Nears r)) = record { live = 0; suspended = 0 }
told_by (Some (Inside r)) = record { live = 0; suspended = 0 }
told_by (Some (Ball r)) = record { live = 0; suspended = 0 }
told_by (Some (Lonely r)) = record { live = 0; suspended = 0 }
told_by (Some (Clusters r)) = record { live = 0; suspended = 0 }
told_by None = record { live = 0; suspended = 0 }

-- how many points are held when all commands are done: the last reply has it
abbrev pub held_at_end : List Reply → Held
held_at_end rs = told_by (slice_get rs (length rs - 1))

-- a word, and its number
abbrev pub sum_text : List ℕ → ℕ → List ℕ
sum_text word n = word ++ decimal n

-- drive N commands C points P live A suspended B hits H
abbrev pub summary_text : ℕ → ScriptAt → List Reply → List ℕ
summary_text n s rs =
    sum_text (codes "drive ") n ++ sum_text (codes " commands ") (length s.commands) ++ sum_text (codes " points ") (points_of s.commands)
    ++ sum_text (codes " live ") (held_at_end rs).live ++ sum_text (codes " suspended ") (held_at_end rs).suspended
    ++ sum_text (codes " hits ") (hits_in rs) ++ 10 ∷ []

-- the line of a script of n scans, with the replies of a run in its order
abbrev pub summary_of : ℕ → ScriptAt → List ℕ
summary_of n s = summary_text n s (replies (plain_script s) (serial_marks (plain_script s)))

-- the line of the generated script of n scans
abbrev pub summary : ℕ → List ℕ
summary n = summary_of n (generated n)
