-- Whose a command is, and which update it makes.
use Rattle.std.specs.Prelude.{◌≡◌, ℕ, ◌==◌, Bool, true, false, List, [], ◌∷◌, ◌++◌, IfSome, IsSomeAnd}
use Rattle.std.specs.Option.{option_to_list}
use Rattle.std.specs.declared.option.Option.{Option}
use Rattle.std.specs.declared.option.Option.TheVariants.{None, Some}
use Rattle.map_items.specs.declared.update.Update.{Update}
use Rattle.scan_log.specs.declared.command.Command.{Command}
use Rattle.scan_log.specs.declared.command.Command.TheVariants.{Change, Near, Nears, Inside, Ball, Lonely, Clusters, Pose, Sync}

-- the command's caller; a barrier has none
abbrev pub command_caller : Command → Option ℕ
command_caller (Change caller u) = Some caller
command_caller (Near caller k p within) = Some caller
command_caller (Nears caller k ps) = Some caller
command_caller (Inside caller k c) = Some caller
command_caller (Ball caller k r p) = Some caller
command_caller (Lonely caller k r) = Some caller
command_caller (Clusters caller k r) = Some caller
command_caller (Pose caller rules p) = Some caller
command_caller Sync = None

-- the update that it makes, if it makes one. A pose has become the change that it submits before anything is run.
abbrev pub command_update : Command → Option Update
command_update (Change caller u) = Some u
command_update (Near caller k p within) = None
command_update (Nears caller k ps) = None
command_update (Inside caller k c) = None
command_update (Ball caller k r p) = None
command_update (Lonely caller k r) = None
command_update (Clusters caller k r) = None
command_update (Pose caller rules p) = None
command_update Sync = None

-- the updates that the commands make, in order
abbrev pub updates_made : List Command → List Update
updates_made [] = []
updates_made (c ∷ cs) = option_to_list (command_update c) ++ updates_made cs

-- it is this one
abbrev pub is_own : ℕ → Option ℕ → Bool
is_own x (Some caller) = caller == x
is_own x None = false

-- it is this one, or none
abbrev pub is_own_or_none : ℕ → Option ℕ → Bool
is_own_or_none x (Some caller) = caller == x
is_own_or_none x None = true

-- it is this caller's
abbrev pub is_by : ℕ → Command → Bool
is_by x c = is_own x (command_caller c)

-- it is this caller's, or a barrier
abbrev pub is_for : ℕ → Command → Bool
is_for x c = is_own_or_none x (command_caller c)

-- it is this caller's, as a fact
abbrev pub IsBy : Command → ℕ → Type 0
IsBy c x = IsSomeAnd (command_caller c) (λ caller. caller ≡ x)

-- it is this caller's or a barrier, as a fact
abbrev pub Concerns : ℕ → Command → Type 0
Concerns x c = IfSome (command_caller c) (λ caller. caller ≡ x)
