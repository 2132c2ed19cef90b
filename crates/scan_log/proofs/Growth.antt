-- A script that grows by the commands of the lines.
use Rattle.std.proofs.Common.{◌≡◌, ℕ, ◌+◌, ◌-◌, ◌≤◌, List, [], ◌∷◌, ◌++◌, length, Result, Ok, Err, refl, sym, ap, ◌∙◌, arith, append_assoc, length-append}
use Rattle.std.specs.List.{AllByRecursion}
use Rattle.scan_log.specs.declared.format.Format.{Format}
use Rattle.scan_log.specs.declared.format.Format.TheVariants.{Two}
use Rattle.scan_log.specs.declared.command.Command.{Command}
use Rattle.scan_log.specs.Steps.{◌>>=◌}
use Rattle.scan_log.specs.Faults.{FaultAt}
use Rattle.scan_log.specs.Reading.{line_command, commands_of}
use Rattle.scan_log.specs.Scripts.{ScriptAt, IsScript, IsCommand, asked, submitted, points_of, hits_of, with_command}
use Rattle.scan_log.proofs.Logs.{line_takes}
use Rattle.scan_log.proofs.Wider.{command_widens}

-- the script with these commands at its end
abbrev pub extended : ScriptAt → Result (List Command) FaultAt → Result ScriptAt FaultAt
extended s (Ok cs) = Ok (record s { commands = s.commands ++ cs })
extended s (Err e) = Err e

-- The script was read, and with what the lines give it is the whole.
pub record ReadSoFar (s : ScriptAt) (room hits : ℕ) (lines : List (ℕ × List ℕ)) (whole : Result ScriptAt FaultAt) : Type 0 where
  pub limits : IsScript s
  pub counted : points_of s.commands + room ≡ 4194304
  pub listed : hits_of s.commands + hits ≡ 16777216
  pub left : extended s (commands_of s.format (length s.commands) room hits lines) ≡ whole

-- what holds of each element and of one more
AllByRecursion-push : {X : Type 0} (P : X → Type 0) (xs : List X) (y : X) → AllByRecursion P xs → P y
    → AllByRecursion P (xs ++ y ∷ [])
AllByRecursion-push P [] y each last = (last, tt)
AllByRecursion-push P (x ∷ xs) y each last = (each.0, AllByRecursion-push P xs y each.1 last)

pub points_of-push : (cs : List Command) (c : Command) → points_of (cs ++ c ∷ []) ≡ points_of cs + submitted c
points_of-push [] c = omega arith
points_of-push (d ∷ cs) c = omega (arith, points_of-push cs c)

pub hits_of-push : (cs : List Command) (c : Command) → hits_of (cs ++ c ∷ []) ≡ hits_of cs + asked c
hits_of-push [] c = omega arith
hits_of-push (d ∷ cs) c = omega (arith, hits_of-push cs c)

extended-more : (s : ScriptAt) (c : Command) (read : Result (List Command) FaultAt)
    → extended s (read >>= λ cs. Ok (c ∷ cs)) ≡ extended (with_command s c) read
extended-more s c (Ok cs) = ap (λ (xs : List Command). Ok (record s { commands = xs })) (sym (append_assoc s.commands (c ∷ []) cs))
extended-more s c (Err e) = refl

-- One more command was read: it keeps the script in its limits, and the rest is as before.
pub record ReadOneMore (s : ScriptAt) (room hits : ℕ) (lines : List (ℕ × List ℕ)) (whole : Result ScriptAt FaultAt) (c : Command) : Type 0 where
  pub good : IsCommand Two c
  pub fits : submitted c ≤ room
  pub held : asked c ≤ hits
  pub limits : IsScript (with_command s c)
  pub after : ReadSoFar (with_command s c) (room - submitted c) (hits - asked c) lines whole

pub read_more : (s : ScriptAt) (room hits n : ℕ) (line : List ℕ) (lines : List (ℕ × List ℕ)) (whole : Result ScriptAt FaultAt) (c : Command)
    → ReadSoFar s room hits ((n, line) ∷ lines) whole → line_command s.format (length s.commands) room hits line ≡ Ok c
    → ReadOneMore s room hits lines whole c
read_more s room hits n line lines whole c r is =
    let t = line_takes s.format (length s.commands) room hits line c is in
    let more : length (s.commands ++ c ∷ []) ≡ length s.commands + 1 = length-append s.commands (c ∷ []) in
    let points = points_of-push s.commands c in
    let asks = hits_of-push s.commands c in
    let fits : submitted c ≤ room = t.command.room in
    let held : asked c ≤ hits = t.held in
    let limits : IsScript (with_command s c) = record {
      sizes = r.limits.sizes;
      each = AllByRecursion-push (IsCommand s.format) s.commands c r.limits.each t.command.limits;
      few = omega (arith, more, t.few);
      room = omega (arith, points, r.counted, fits);
      hits = omega (arith, asks, r.listed, held);
    } in
    record {
      good = command_widens s.format c t.command.limits;
      fits = fits;
      held = held;
      limits = limits;
      after = record {
        limits = limits;
        counted = omega (arith, points, r.counted, fits);
        listed = omega (arith, asks, r.listed, held);
        left = rw more (sym (rw is (extended-more s c (commands_of s.format (length s.commands + 1) (room - submitted c) (hits - asked c) lines))) ∙ r.left);
      };
    }
