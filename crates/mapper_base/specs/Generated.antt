-- The generated script: a robot that moves a metre along x from scan to scan, and sees points around it.
use Rattle.std.specs.Prelude.{ℕ, zero, suc, ◌+◌, ◌*◌, ◌/◌, ◌%◌, ◌^◌, ◌==◌, pos, ◌-ℤ◌, neg_ℤ, List, [], ◌∷◌, ◌++◌, take, drop, None, Some, if◌then◌else◌}
use Rattle.point_geom.specs.Place.{Place, Bounds}
use Rattle.map_items.specs.declared.update.Update.TheVariants.{Thin, Delete}
use Rattle.scan_log.specs.declared.command.Command.{Command}
use Rattle.scan_log.specs.declared.command.Command.TheVariants.{Change, Near, Sync}
use Rattle.scan_log.specs.declared.format.Format.TheVariants.{One}
use Rattle.scan_log.specs.Scripts.{ScriptAt}

-- the number that comes after the number s
abbrev pub next : ℕ → ℕ
next s = (s * 1664525 + 1013904223) % 2 ^ 32

-- the draw that a number gives
abbrev pub drawn : ℕ → ℕ
drawn s = s / 65536

-- the next k draws, after the number s
unfoldable pub next_draws : ℕ → ℕ → List ℕ
next_draws zero s = []
next_draws (suc k) s = drawn (next s) ∷ next_draws k (next s)

-- the number after k draws
unfoldable pub after : ℕ → ℕ → ℕ
after zero s = s
after (suc k) s = after k (next s)

-- a point of scan i, from three draws
unfoldable pub point : ℕ → ℕ → ℕ → ℕ → Place
point i a b c = record { x = pos (1000 * i + a % 60001) -ℤ pos 30000; y = pos (b % 60001) -ℤ pos 30000; z = pos (c % 6001) -ℤ pos 3000; intensity = 0 }

-- the points of scan i, each from the next three draws
unfoldable pub points_of_draws : ℕ → List ℕ → List Place
points_of_draws i (a ∷ b ∷ c ∷ ds) = point i a b c ∷ points_of_draws i ds
points_of_draws i ds = []

-- where the robot is at scan i
abbrev pub robot : ℕ → Place
robot i = record { x = pos (1000 * i); y = pos 0; z = pos 0; intensity = 0 }

-- what is 30 to 60 metres behind it
abbrev pub box_behind : ℕ → Bounds
box_behind i = record {
  lo = record { x = pos (1000 * i) -ℤ pos 60000; y = neg_ℤ (pos 30000); z = neg_ℤ (pos 3000) };
  hi = record { x = pos (1000 * i) -ℤ pos 30000; y = pos 30001; z = pos 3001 };
}

-- each tenth scan drops what is far behind
abbrev pub deletions : ℕ → List Command
deletions i = if i % 10 == 9 then Change 1 (Delete (box_behind i ∷ [])) ∷ [] else []

-- scan i: its points, a question of each of two callers, and a barrier
abbrev pub scan_commands : ℕ → List Place → List Command
scan_commands i seen = Change 1 (Thin seen) ∷ Near 1 5 (robot i) None ∷ Near 2 5 (robot i) (Some 2000) ∷ deletions i ++ Sync ∷ []

-- n scans from scan i on, each of the next 2000 points, which are 6000 draws
unfoldable pub commands_from : ℕ → ℕ → List ℕ → List Command
commands_from i zero ds = []
commands_from i (suc n) ds = scan_commands i (points_of_draws i (take 6000 ds)) ++ commands_from (i + 1) n (drop 6000 ds)

-- the script of n scans, of version 1, whose draws begin after the number 1
abbrev pub generated : ℕ → ScriptAt
generated n = record { format = One; sizes = record { voxel = 500; large = 1500 }; commands = commands_from 0 n (next_draws (6000 * n) 1) }
