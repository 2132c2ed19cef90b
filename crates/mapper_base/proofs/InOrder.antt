-- A script that runs in the log's order.
use Rattle.std.proofs.Common.{◌≡◌, ℕ, ◌+◌, ◌≤◌, List, [], ◌∷◌, ◌++◌, length, take, refl, sym, ap, ◌∙◌, arith, append_assoc, length-append, Option, Some, None}
use Rattle.std.proofs.lemmas.List.{length-map, take-append-le}
use Rattle.std.specs.Option.{option_to_list}
use Rattle.map_items.specs.declared.entry.Entry.{Entry}
use Rattle.map_items.specs.declared.update.Update.{Update}
use Rattle.map_items.specs.Sizes.{Sizes}
use Rattle.rebuild_parts.specs.History.{updates}
use Rattle.rebuild_core.specs.Lawful.{StateAt, new_state}
use Rattle.scan_log.specs.Commands.{command_update, updates_made}
use Rattle.scan_log.specs.declared.command.Command.{Command}
use Rattle.scan_log.specs.declared.reply.Reply.{Reply}
use Rattle.scan_log.specs.Plain.{IsPlainScript}
use Rattle.scan_log.specs.Scripts.{ScriptAt, points_of}
use Rattle.scan_log.specs.Transcript.{history, mark_from, serial_marks, serial_marks_from, replies, replies_from, reply_to}
use Rattle.scan_log.proofs.Serial.{serial_history}
use Rattle.mapper_base.specs.Turns.{Follows, reply_of}
use Rattle.mapper_base.proofs.Passed.{reply_take}

made_first : (made : Option Update) (us : List Update) → option_to_list made ++ us ≡ (option_to_list made ++ []) ++ us
made_first (Some u) us = refl
made_first None us = refl

-- the first command's update is before the others
updates_cons : (c : Command) (cs : List Command) → updates_made (c ∷ cs) ≡ updates_made (c ∷ []) ++ updates_made cs
updates_cons c cs = made_first (command_update c) (updates_made cs)

one_made : (made : Option Update) → length (option_to_list made ++ []) ≤ 1
one_made (Some u) = omega arith
one_made None = omega arith

-- a command has one update at most
at_most_one : (c : Command) → length (updates_made (c ∷ [])) ≤ 1
at_most_one c = one_made (command_update c)

mark_counts : (n m : ℕ) (made : Option Update) → m ≡ n + length (option_to_list made ++ []) → mark_from n made ≡ m
mark_counts n m (Some u) e = sym e
mark_counts n m None e = omega (arith, e)

-- the first mark counts the first command's update, and the others go on from there
marks_cons : (n m : ℕ) (c : Command) (cs : List Command) → m ≡ n + length (updates_made (c ∷ [])) → serial_marks_from n (c ∷ cs) ≡ m ∷ serial_marks_from m cs
marks_cons n m c cs e = ap (λ k. k ∷ serial_marks_from k cs) (mark_counts n m (command_update c) e)

-- what comes after the first updates doesn't matter to a reply at their number
reply_early : (voxel n : ℕ) (us vs : List Update) (c : Command) → length us ≡ n → reply_to voxel (us ++ vs) c n ≡ reply_to voxel us c n
reply_early voxel n us vs c long =
    let le : n ≤ length us = omega (arith, long) in
    let early : take n (us ++ vs) ≡ take n us = take-append-le n us vs le in
    reply_take voxel n (us ++ vs) us c early

-- How far a run has come: the updates that were made and those of the remaining commands are the script's, and the replies so far
-- and those to the remaining commands are all.
pub record Ran (s : ScriptAt) (left : List Command) (t : StateAt) (rs : List Reply) : Type 0 where
  pub settings : t.settings ≡ s.sizes
  pub made : updates t.history ++ updates_made left ≡ updates_made s.commands
  pub few : length t.history + length left ≤ 65536
  pub room : t.next + points_of left ≤ 4194304
  pub told : rs ++ replies_from s.sizes.voxel (updates_made s.commands) left (serial_marks_from (length t.history) left) ≡ replies s (serial_marks s)

pub ran_start : (s : ScriptAt) (t : StateAt) → IsPlainScript s → t ≡ new_state s.sizes → Ran s s.commands t []
ran_start s t h e = rw e (record {
  settings = refl;
  made = refl;
  few = omega (arith, h.few);
  room = omega (arith, h.room);
  told = ap (λ us. replies_from s.sizes.voxel us s.commands (serial_marks s)) (sym (serial_history 0 s.commands));
})

pub ran_next : (c : Command) (s : ScriptAt) (left : List Command) (t u : StateAt) (rs : List Reply) (r : Reply)
    → Ran s (c ∷ left) t rs → Follows c t u → r ≡ reply_of u c → Ran s left u (rs ++ r ∷ [])
ran_next c s left t u rs r ran follows answered =
    let h = updates_made s.commands in
    let n = length u.history in
    let own = updates_made (c ∷ []) in
    let long : length (updates u.history) ≡ n = length-map u.history (λ (e : Entry). e.update) in
    let made : updates u.history ++ updates_made left ≡ h =
    ap (λ us. us ++ updates_made left) follows.made ∙ append_assoc (updates t.history) own (updates_made left) ∙ ap (λ us. updates t.history ++ us) (sym (updates_cons c left)) ∙ ran.made in
    let grown : n ≡ length t.history + length own =
    sym long ∙ ap length follows.made ∙ length-append (updates t.history) own ∙ ap (λ k. k + length own) (length-map t.history (λ (e : Entry). e.update)) in
    let replied : r ≡ reply_to s.sizes.voxel h c n =
    answered ∙ ap (λ (z : Sizes). reply_to z.voxel (updates u.history) c n) (follows.settings ∙ ran.settings)
    ∙ sym (reply_early s.sizes.voxel n (updates u.history) (updates_made left) c long)
    ∙ ap (λ us. reply_to s.sizes.voxel us c n) made in
    record {
      settings = follows.settings ∙ ran.settings;
      made = made;
      few = omega (arith, grown, at_most_one c, ran.few);
      room = omega (arith, follows.next, ran.room);
      told =
          append_assoc rs (r ∷ []) _
          ∙ ap (λ x. rs ++ x ∷ replies_from s.sizes.voxel h left (serial_marks_from n left)) replied
          ∙ ap (λ ms. rs ++ replies_from s.sizes.voxel h (c ∷ left) ms)
          (sym (marks_cons (length t.history) n c left grown)) ∙ ran.told;
    }
