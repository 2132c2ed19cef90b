-- A log is read exactly where it is spelled, and its first fault is what reading meets.
use Rattle.std.proofs.Common.{◌≡◌, ℕ, ◌+◌, ◌-◌, ◌<◌, ◌≤◌, Bool, true, false, cond, List, [], ◌∷◌, map, length, refl, sym, ap, ◌∙◌, arith, Option, Result, Ok, Err, nat_lt}
use Rattle.std.specs.Prelude.{filter, nat_eq, nat_le}
use Rattle.std.specs.List.{AllByRecursion}
use Rattle.std.specs.Result.{result_err}
use Rattle.std.proofs.lemmas.Bool.Decides.{nat_tests}
use Rattle.std.proofs.lemmas.List.Splits.{length-slice_split}
use Rattle.map_items.specs.Sizes.{Sizes}
use Rattle.scan_log.specs.declared.format.Format.{Format}
use Rattle.scan_log.specs.declared.command.Command.{Command}
use Rattle.scan_log.specs.declared.fault.LogCause.{LogCause}
use Rattle.scan_log.specs.declared.fault.LogCause.TheVariants.{TooManyCommands, TooManyHits}
use Rattle.scan_log.specs.Steps.{◌>>=◌, given}
use Rattle.scan_log.specs.Lines.{lines_of, is_kept_line, kept_from, fields_of}
use Rattle.scan_log.specs.Faults.{FaultAt, ◌orelse◌, fault_unless, command_fault, fields_points, fields_hits, at_line, commands_fault, named_format, lines_fault, line_feeds, first_fault}
use Rattle.scan_log.specs.Reading.{command_of, header_of, on_line, few_hits, line_command, commands_of, body_of, script_of, log_of}
use Rattle.scan_log.specs.Scripts.{ScriptAt, IsScript, IsCommand, asked, submitted, points_of, hits_of}
use Rattle.scan_log.specs.Spelling.{LinesSpell, SpellsLines, Spells}
use Rattle.scan_log.proofs.StepLemmas.{passed, bound, orelse-None, orelse_assoc, result_err-given, result_err-bind, result_err-last}
use Rattle.scan_log.proofs.FieldFaults.{result_err-command_of, result_err-header_of, header_named}
use Rattle.scan_log.proofs.TakesCommand.{TakesCommand, command_takes, header_takes}
use Rattle.scan_log.proofs.Again.{command_of-spelled, header_of-header_fields}

-- the lines without their numbers
abbrev texts : List (ℕ × List ℕ) → List (List ℕ)
texts lines = map (λ l. l.1) lines

-- numbers are all that numbered lines have more
texts-kept_from : (n : ℕ) (lines : List (List ℕ)) → texts (kept_from n lines) ≡ filter is_kept_line lines
texts-kept_from n [] = refl
texts-kept_from n (line ∷ lines) =
    elim (is_kept_line line) as (λ b. texts (cond b ((n, line) ∷ kept_from (n + 1) lines) (kept_from (n + 1) lines))
    ≡ cond b (line ∷ filter is_kept_line lines) (filter is_kept_line lines)) [
      | true ↦ ap (λ (ls : List (List ℕ)). line ∷ ls) (texts-kept_from (n + 1) lines)
      | false ↦ texts-kept_from (n + 1) lines
    ]

-- what was read of a line
off_line : {A : Type 0} (n : ℕ) (r : Result A LogCause) (x : A) → on_line n r ≡ Ok x → r ≡ Ok x
off_line n (Ok y) x e = let is : y ≡ x = cc in ap Ok is
off_line n (Err c) x e = cc

result_err-on_line : {A : Type 0} (n : ℕ) (r : Result A LogCause) → result_err (on_line n r) ≡ at_line n (result_err r)
result_err-on_line n (Ok x) = refl
result_err-on_line n (Err c) = refl

-- the commands are spelled, and in their limits
record TakesCommands (format : Format) (count room hits : ℕ) (lines : List (List ℕ)) (cs : List Command) : Type 0 where
  spelled : LinesSpell format lines cs
  each : AllByRecursion (IsCommand format) cs
  few : count + length cs ≤ 65536
  fit : points_of cs ≤ room
  held : hits_of cs ≤ hits

-- The command of a line, and what it shows.
pub record TakesLine (format : Format) (count room hits : ℕ) (line : List ℕ) (c : Command) : Type 0 where
  pub few : count < 65536
  pub command : TakesCommand format room (fields_of line) c
  pub held : asked c ≤ hits

pub line_takes : (format : Format) (count room hits : ℕ) (line : List ℕ) (c : Command) → line_command format count room hits line ≡ Ok c
    → TakesLine format count room hits line c
line_takes format count room hits line c e =
    let p = passed (nat_lt count 65536) TooManyCommands _ c e in
    let d = bound (command_of format room (fields_of line)) (few_hits hits) c p.1 in
    let q = passed (nat_le (asked d.0) hits) TooManyHits (Ok d.0) c d.2 in
    let is : d.0 ≡ c = cc q.1 in
    rw (← is) (record {
      few = grind (arith, nat_tests, p.0);
      command = command_takes format room (fields_of line) d.0 d.1;
      held = grind (arith, nat_tests, q.0);
    })

commands_take : (format : Format) (count room hits : ℕ) (lines : List (ℕ × List ℕ)) (cs : List Command) → count ≤ 65536 → commands_of format count room hits lines ≡ Ok cs
    → TakesCommands format count room hits (texts lines) cs
commands_take format count room hits [] cs h e =
    let is : [] ≡ cs = cc in rw (← is) (record { spelled = tt; each = tt; few = omega (arith, h); fit = omega arith; held = omega arith })
commands_take format count room hits ((n, line) ∷ lines) cs h e =
    let c = bound (on_line n (line_command format count room hits line)) _ cs e in
    let here = line_takes format count room hits line c.0 (off_line n _ c.0 c.1) in
    let r = bound (commands_of format (count + 1) (room - submitted c.0) (hits - asked c.0) lines) _ cs c.2 in
    let later = commands_take format (count + 1) (room - submitted c.0) (hits - asked c.0) lines r.0 (omega (arith, here.few)) r.1 in
    let is : c.0 ∷ r.0 ≡ cs = cc r.2 in
    rw (← is) (record {
      spelled = (here.command.spelled, later.spelled);
      each = (here.command.limits, later.each);
      few = omega (arith, later.few);
      fit = omega (arith, later.fit, here.command.room);
      held = omega (arith, later.held, here.held);
    })

commands_again : (format : Format) (count room hits : ℕ) (lines : List (ℕ × List ℕ)) (cs : List Command) → TakesCommands format count room hits (texts lines) cs
    → commands_of format count room hits lines ≡ Ok cs
commands_again format count room hits [] [] t = refl
commands_again format count room hits [] (c ∷ cs) t = absurd t.spelled
commands_again format count room hits (l ∷ lines) [] t = absurd t.spelled
commands_again format count room hits ((n, line) ∷ lines) (c ∷ cs) t =
    let few = t.few in
    let fit = t.fit in
    let held = t.held in
    let room_left : nat_le (asked c) hits ≡ true = (let k : asked c ≤ hits = omega (arith, held) in grind (arith, nat_tests)) in
    let e : nat_lt count 65536 ≡ true = (let k : count < 65536 = omega (arith, few) in grind (arith, nat_tests)) in
    let here : command_of format room (fields_of line) ≡ Ok c = command_of-spelled format room (fields_of line) c t.spelled.0 t.each.0 (omega (arith, fit)) in
    let later = commands_again format (count + 1) (room - submitted c) (hits - asked c) lines cs (record {
      spelled = t.spelled.1;
      each = t.each.1;
      few = omega (arith, few);
      fit = omega (arith, fit);
      held = omega (arith, held);
    }) in
    rw (e, here, room_left, later) refl

-- hits that were asked for before, and those that there is room for
hits_test : (n used hits : ℕ) → used + hits ≡ 16777216 → nat_le n hits ≡ nat_le (used + n) 16777216
hits_test n used hits h = grind (arith, nat_tests)

result_err-few_hits : (used hits : ℕ) (c : Command) → used + hits ≡ 16777216
    → result_err (few_hits hits c) ≡ fault_unless (nat_le (used + asked c) 16777216) TooManyHits
result_err-few_hits used hits c h =
    result_err-given (nat_le (asked c) hits) TooManyHits (Ok c) ∙ orelse-None _
    ∙ ap (λ (b : Bool). fault_unless b TooManyHits) (hits_test (asked c) used hits h)

-- the fault of a command's line
result_err-fields : (format : Format) (count before room used hits : ℕ) (fields : List (List ℕ)) → before + room ≡ 4194304 → used + hits ≡ 16777216 → 0 < length fields
    → result_err (given (nat_lt count 65536) TooManyCommands (command_of format room fields >>= few_hits hits)) ≡ command_fault format count before used fields
result_err-fields format count before room used hits [] h k some = absurd (omega (arith, some))
result_err-fields format count before room used hits (first ∷ fields) h k some =
    let many = fault_unless (nat_lt count 65536) TooManyCommands in
    let last = fault_unless (nat_le (used + fields_hits (first ∷ fields)) 16777216) TooManyHits in
    result_err-given (nat_lt count 65536) TooManyCommands (command_of format room (first ∷ fields) >>= few_hits hits)
    ∙ ap (λ (d : Option LogCause). many orelse d)
    (result_err-bind (command_of format room (first ∷ fields)) (few_hits hits) last (λ c is.
    result_err-few_hits used hits c k
    ∙ ap (λ (n : ℕ). fault_unless (nat_le (used + n) 16777216) TooManyHits) (sym (command_takes format room (first ∷ fields) c is).listed))
    ∙ ap (λ (d : Option LogCause). d orelse last) (result_err-command_of format before room first fields h))
    ∙ sym (orelse_assoc many _ last)

result_err-line_command : (format : Format) (count before room used hits : ℕ) (line : List ℕ) → before + room ≡ 4194304 → used + hits ≡ 16777216
    → result_err (line_command format count room hits line) ≡ command_fault format count before used (fields_of line)
result_err-line_command format count before room used hits line h k =
    let some = length-slice_split (λ b. nat_eq b 32) line in
    result_err-fields format count before room used hits (fields_of line) h k (omega (arith, some))

result_err-commands_of : (format : Format) (count before room used hits : ℕ) (lines : List (ℕ × List ℕ)) → before + room ≡ 4194304 → used + hits ≡ 16777216
    → result_err (commands_of format count room hits lines) ≡ commands_fault format count before used lines
result_err-commands_of format count before room used hits [] h k = refl
result_err-commands_of format count before room used hits ((n, line) ∷ lines) h k =
    let points = before + fields_points format (fields_of line) in
    let more = used + fields_hits (fields_of line) in
    let rest = commands_fault format (count + 1) points more lines in
    result_err-bind (on_line n (line_command format count room hits line)) _ rest (λ c is.
    let l = line_takes format count room hits line c (off_line n _ c is) in
    let t = l.command in
    result_err-last (commands_of format (count + 1) (room - submitted c) (hits - asked c) lines) _
    ∙ result_err-commands_of format (count + 1) points (room - submitted c) more (hits - asked c) lines
    (omega (arith, h, t.room, t.counted)) (omega (arith, k, l.held, t.listed)))
    ∙ ap (λ (d : Option FaultAt). d orelse rest)
    (result_err-on_line n (line_command format count room hits line) ∙ ap (at_line n) (result_err-line_command format count before room used hits line h k))

result_err-body_of : (format : Format) (sizes : Sizes) (lines : List (ℕ × List ℕ)) → result_err (body_of format sizes lines) ≡ commands_fault format 0 0 0 lines
result_err-body_of format sizes lines =
    result_err-last (commands_of format 0 4194304 16777216 lines) _ ∙ result_err-commands_of format 0 0 4194304 0 16777216 lines refl refl

result_err-script_of : (feeds : ℕ) (lines : List (ℕ × List ℕ)) → result_err (script_of feeds lines) ≡ lines_fault feeds lines
result_err-script_of feeds [] = refl
result_err-script_of feeds ((n, header) ∷ lines) =
    let fields = fields_of header in
    result_err-bind (on_line n (header_of fields)) _ (commands_fault (named_format fields) 0 0 0 lines)
    (λ head is. result_err-body_of head.0 head.1 lines ∙ ap (λ (f : Format). commands_fault f 0 0 0 lines) (header_named fields head (off_line n _ head is)))
    ∙ ap (λ (d : Option FaultAt). d orelse commands_fault (named_format fields) 0 0 0 lines)
    (result_err-on_line n (header_of fields) ∙ ap (at_line n) (result_err-header_of fields))

-- what reading meets is the first fault
pub result_err-log_of : (bytes : List ℕ) → result_err (log_of bytes) ≡ first_fault bytes
unfolding log_of
result_err-log_of bytes = result_err-script_of (line_feeds bytes) (kept_from 1 (lines_of bytes))

script_takes : (feeds : ℕ) (lines : List (ℕ × List ℕ)) (s : ScriptAt) → script_of feeds lines ≡ Ok s
    → SpellsLines (texts lines) s × IsScript s
script_takes feeds [] s e = cc
script_takes feeds ((n, header) ∷ lines) s e =
    let head = bound (on_line n (header_of (fields_of header))) _ s e in
    let cs = bound (commands_of head.0.0 0 4194304 16777216 lines) _ s head.2 in
    let is : record { format = head.0.0; sizes = head.0.1; commands = cs.0 } ≡ s = cc cs.2 in
    let first = header_takes (fields_of header) head.0 (off_line n _ head.0 head.1) in
    let t = commands_take head.0.0 0 4194304 16777216 lines cs.0 (omega arith) cs.1 in
    rw (← is) ((first.0, t.spelled), record { sizes = first.1; each = t.each; few = omega (arith, t.few); room = t.fit; hits = t.held })

script_again : (feeds : ℕ) (lines : List (ℕ × List ℕ)) (s : ScriptAt) → SpellsLines (texts lines) s → IsScript s → script_of feeds lines ≡ Ok s
script_again feeds [] s spell is = absurd spell
script_again feeds ((n, header) ∷ lines) s spell is =
    let first : header_of (fields_of header) ≡ Ok (s.format, s.sizes) = ap header_of spell.0 ∙ header_of-header_fields s.format s.sizes is.sizes in
    let rest = commands_again s.format 0 4194304 16777216 lines s.commands (record { spelled = spell.1; each = is.each; few = omega (arith, is.few); fit = is.room; held = is.hits }) in
    rw (first, rest) refl

-- what is read of a log is spelled by it
pub log_takes : (bytes : List ℕ) (s : ScriptAt) → log_of bytes ≡ Ok s → Spells bytes s
unfolding log_of
log_takes bytes s e =
    let t = script_takes (line_feeds bytes) (kept_from 1 (lines_of bytes)) s e in
    (rw (texts-kept_from 1 (lines_of bytes)) at t.0, t.1)

-- what a log spells is read of it
pub log_of-spelled : (bytes : List ℕ) (s : ScriptAt) → Spells bytes s → log_of bytes ≡ Ok s
unfolding log_of
log_of-spelled bytes s spell =
    script_again (line_feeds bytes) (kept_from 1 (lines_of bytes)) s (rw texts-kept_from spell.0) spell.1
