-- What follows from the way in which a run ended.
use Rattle.std.proofs.Common.{◌≡◌, ℕ, ◌≤◌, ◌+◌, inl, inr, Bool, true, false, List, length, Option, None, Some, IfSome, refl, ap, ◌∙◌, subst, arith, length-append}
use Rattle.std.specs.Prelude.{if◌then◌else◌}
use Rattle.std.specs.Io.KnownBytes.{Appends, Consumes}
use Rattle.scan_log.specs.Scripts.{ScriptAt}
use Rattle.scan_log.specs.Spelling.{Spells}
use Rattle.scan_log.specs.Faults.{FaultAt, first_fault, is_limit}
use Rattle.scan_log.specs.declared.fault.LogCause.{LogCause}
use Rattle.scan_log.specs.Refusal.{IsFirstFault}
use Rattle.scan_log.specs.Legal.{AreLegalLines, IsLegalTranscript}
use Rattle.scan_log.specs.Transcript.{text}
use Rattle.scan_log.specs.Written.{script_text}
use Rattle.mapper_base.specs.declared.ending.Ending.{Ending}
use Rattle.mapper_base.specs.declared.ending.Ending.TheVariants.{Done, Usage, ReadFault, TooLong, Bad, WriteFault, NoMemory}
use Rattle.mapper_base.specs.declared.status.Status.TheVariants as status
use Rattle.mapper_base.specs.declared.command_line.words.Ask.{Ask}
use Rattle.mapper_base.specs.declared.command_line.words.Ask.TheVariants.{Run, Serial, Make, Drive, Check}
use Rattle.mapper_base.specs.Asks.{Asks, AskForRun, AskForScans, AskNothing, AskOfLog, IsOfLog, log_of, most_of}
use Rattle.mapper_base.specs.Causes.{Says, NotRead, IsDoneOn, IsTextOf, HasPrinted, HasRefused, Ended}
use Rattle.mapper_base.specs.Done.{IsChecked, IsDriven, IsScriptMade, IsTranscribed, IsTranscribedInOrder}
use Rattle.mapper_base.specs.Endings.{IsOrNoMemory, status_of}
use Rattle.mapper_base.specs.Inputs.{IsOverLimit}
use Rattle.byte_streams.specs.Outside.{NoFault, HasRead, AppendsFront}
use Rattle.mapper_base.specs.Seen.{RunSeen, LogSeen}
use Rattle.mapper_base.specs.Summary.{summary_of}
use Rattle.mapper_base.specs.Verdicts.{IsFound}
use Rattle.mapper_base.proofs.OneAsk.{same_ask}

-- a fault's status isn't the one of all done
bad_status : (b : Bool) → (if b then status.OverLimit else status.BadLog) ≡ status.Done → ⊥
bad_status true e = cc
bad_status false e = cc

-- only one way has the status of all done
done_way : (s : RunSeen) (e : Ending) → Ended s e → status_of e ≡ status.Done → HasPrinted s (Appends s.out.held s.out.held_after)
done_way s Done h e = h
done_way s Usage h e = absurd (cc)
done_way s ReadFault h e = absurd (cc)
done_way s TooLong h e = absurd (cc)
done_way s (Bad line cause) h e = absurd (bad_status (is_limit cause) e)
done_way s WriteFault h e = absurd (cc)
done_way s NoMemory h e = absurd (cc)

if_some : {X : Type 0} (o : Option X) (P Q : X → Type 0) → ((x : X) → P x → Q x) → IfSome o P → IfSome o Q
if_some None P Q f h = tt
if_some (Some x) P Q f h = f x h

if_both : {X : Type 0} (o : Option X) (P Q R : X → Type 0) → ((x : X) → P x → Q x → R x) → IfSome o P → IfSome o Q → IfSome o R
if_both None P Q R f h k = tt
if_both (Some x) P Q R f h k = f x h k

-- what was printed is the text of what is asked for
asked_text : (s : RunSeen) (so_far : List ℕ → Type 0) (a : Ask) (p : HasPrinted s so_far) → Asks a s.words → IsTextOf a s.log p.lines
asked_text s so_far a p asked = subst (λ b. IsTextOf b s.log p.lines) (same_ask p.ask a s.words p.asked asked) p.text

-- what was refused is what is asked for
asked_cause : (s : RunSeen) (e : Ending) (a : Ask) → HasRefused s e → Asks a s.words → NotRead a s.log e
asked_cause s e a h asked = subst (λ b. NotRead b s.log e) (same_ask h.ask a s.words h.asked.0 asked) h.unread

-- what is done of a log is done on the log's script
said_of : (a : Ask) (log : LogSeen) (x : ScriptAt) → IsOfLog a → IsDoneOn a log x → Says a log x
said_of Run log x of h = h
said_of Serial log x of h = h
said_of (Make n) log x of h = absurd of
said_of (Drive n) log x of h = absurd of
said_of (Check n) log x of h = h

legal_text : (s : RunSeen) (x : ScriptAt) (lines : List ℕ) → Says Run s.log x → AreLegalLines x lines → Appends s.out.held s.out.held_after lines → IsTranscribed s.log s.out
legal_text s x lines said legal written =
    let transcript = if_some s.log.left _ (λ bytes. IsLegalTranscript bytes lines)
    (λ bytes q. record { script = x; spelled = q.1.0; told = legal.told; legal = legal.legal; lines = legal.text }) said.1 in
    (said.0, (lines, transcript, written))

-- where a run was asked for and all was done, the log was read to its end, and a legal transcript of it was written
pub done_legal : (s : RunSeen) (e : Ending) → Ended s e → status_of e ≡ status.Done → AskForRun s.words → IsTranscribed s.log s.out
done_legal s e h done (inl asked) =
    let p = done_way s e h done in
    let t = asked_text s (Appends s.out.held s.out.held_after) Run p asked in
    legal_text s t.script p.lines t.said t.printed p.written
done_legal s e h done (inr asked) =
    let p = done_way s e h done in
    let t = asked_text s (Appends s.out.held s.out.held_after) Serial p asked in
    legal_text s t.script p.lines t.said t.printed.0 p.written

-- and for the words of a serial run it is the text of the marks in the log's order
pub done_serial : (s : RunSeen) (e : Ending) → Ended s e → status_of e ≡ status.Done → Asks Serial s.words → IsTranscribedInOrder s.log s.out
done_serial s e h done asked =
    let p = done_way s e h done in
    let t = asked_text s (Appends s.out.held s.out.held_after) Serial p asked in
    (t.script, if_some s.log.left _ _ (λ bytes q. q.1.0) t.said.1, subst (Appends s.out.held s.out.held_after) t.printed.1 p.written)

-- the log of the generated script was written
pub done_made : (s : RunSeen) (e : Ending) (n : ℕ) → Ended s e → status_of e ≡ status.Done → Asks (Make n) s.words → IsScriptMade n s.out
done_made s e n h done asked =
    let p = done_way s e h done in
    let t = asked_text s (Appends s.out.held s.out.held_after) (Make n) p asked in
    subst (Appends s.out.held s.out.held_after) (t.printed ∙ ap script_text t.said) p.written

-- the line of its sums was written
pub done_driven : (s : RunSeen) (e : Ending) (n : ℕ) → Ended s e → status_of e ≡ status.Done → Asks (Drive n) s.words → IsDriven n s.out
done_driven s e n h done asked =
    let p = done_way s e h done in
    let t = asked_text s (Appends s.out.held s.out.held_after) (Drive n) p asked in
    subst (Appends s.out.held s.out.held_after) (t.printed ∙ ap (summary_of n) t.said) p.written

-- where a check was asked for and all was done, the input was read to its end, and the line of its verdict was written
pub done_checked : (s : RunSeen) (e : Ending) (n : ℕ) → Ended s e → status_of e ≡ status.Done → Asks (Check n) s.words → IsChecked n s.log s.out
done_checked s e n h done asked =
    let p = done_way s e h done in
    let t = asked_text s (Appends s.out.held s.out.held_after) (Check n) p asked in
    let found = if_both s.log.left _ _ (λ bytes. IsFound n bytes t.printed.verdict)
    (λ bytes q v. record { script = t.script; spelled = q.1.0; verdict = v }) t.said.1 t.printed.found in
    (t.said.0, (t.printed.verdict, found, subst (Appends s.out.held s.out.held_after) t.printed.told p.written))

-- a log that has a fault spells no script
unsaid : (a : Ask) (log : LogSeen) (x : ScriptAt) (bytes : List ℕ) (f : FaultAt) → Says a log x → log.left ≡ Some bytes → first_fault (log_of a bytes) ≡ Some f → ⊥
unsaid a log x bytes f said told fault =
    let h = subst (λ o. IfSome o (λ b. (length b ≤ most_of a) × (Spells (log_of a b) x × (first_fault (log_of a b) ≡ None)))) told said.1 in
    let none : first_fault (log_of a bytes) ≡ None = h.1.1 in
    cc (none, fault)

-- no more bytes were read than there were
unlong : (left left_after : Option (List ℕ)) (bytes : List ℕ) (most : ℕ) → left ≡ Some bytes → length bytes ≤ most → HasRead left left_after (λ n. n ≡ most + 1) → ⊥
unlong left left_after bytes most told few (read, consumed, long) =
    let all = consumed_few left_after bytes read (subst (λ o. Consumes o left_after read) told consumed) in
    omega (arith, all, few, long)
  where
    consumed_few : (after : Option (List ℕ)) (bytes read : List ℕ) → Consumes (Some bytes) after read → length read ≤ length bytes
    consumed_few None bytes read h = absurd h
    consumed_few (Some rest) bytes read h = omega (arith, ap length h, length-append read rest)

-- nothing was printed of a log that has a fault
unprinted : (s : RunSeen) (so_far : List ℕ → Type 0) (a : Ask) (bytes : List ℕ) (f : FaultAt) → HasPrinted s so_far → AskOfLog a s.words → s.log.left ≡ Some bytes
    → first_fault (log_of a bytes) ≡ Some f → ⊥
unprinted s so_far a bytes f p asked told fault =
    let t = asked_text s so_far a p asked.0 in
    unsaid a s.log t.script bytes f (said_of a s.log t.script asked.1 t.said) told fault

-- a log whose first fault is no limit is a bad one
pub bad_way : (s : RunSeen) (e : Ending) (a : Ask) (bytes : List ℕ) (f : FaultAt) → Ended s e → AskOfLog a s.words → s.log.left ≡ Some bytes → length bytes ≤ most_of a
    → first_fault (log_of a bytes) ≡ Some f → is_limit f.cause ≡ false → NoFault s.log.faults s.log.faults_after → IsOrNoMemory (status_of e) status.BadLog
bad_way s Done a bytes f h asked told few fault small sure = absurd (unprinted s (Appends s.out.held s.out.held_after) a bytes f h asked told fault)
bad_way s Usage a bytes f h asked told few fault small sure = absurd (h.0 a asked.0)
bad_way s ReadFault a bytes f h asked told few fault small sure = absurd (sure (asked_cause s ReadFault a h asked.0).1)
bad_way s TooLong a bytes f h asked told few fault small sure =
    absurd (unlong s.log.left s.log.left_after bytes (most_of a) told few (asked_cause s TooLong a h asked.0))
bad_way s (Bad line cause) a bytes f h asked told few fault small sure =
    let unread = asked_cause s (Bad line cause) a h asked.0 in
    let first = subst (λ o. IfSome o (λ b. (length b ≤ most_of a) × IsFirstFault (log_of a b) line cause)) told unread.1 in
    let same : cause ≡ f.cause = (let e = first.1.fault in cc) in
    inl (rw (same, small) refl)
bad_way s WriteFault a bytes f h asked told few fault small sure = absurd (unprinted s (AppendsFront s.out.held s.out.held_after) a bytes f h.0 asked told fault)
bad_way s NoMemory a bytes f h asked told few fault small sure = inr refl

-- words that ask for nothing end in `Usage`
pub nothing_way : (s : RunSeen) (e : Ending) → Ended s e → AskNothing s.words → IsOrNoMemory (status_of e) status.Usage
nothing_way s Done h nothing = absurd (nothing h.ask h.asked)
nothing_way s Usage h nothing = inl refl
nothing_way s ReadFault h nothing = absurd (nothing h.ask h.asked.0)
nothing_way s TooLong h nothing = absurd (nothing h.ask h.asked.0)
nothing_way s (Bad line cause) h nothing = absurd (nothing h.ask h.asked.0)
nothing_way s WriteFault h nothing = absurd (nothing h.0.ask h.0.asked)
nothing_way s NoMemory h nothing = inr refl

-- a log that is spelled is done
pub spelled_way : (s : RunSeen) (e : Ending) (a : Ask) (bytes : List ℕ) (x : ScriptAt) → Ended s e → AskOfLog a s.words → s.log.left ≡ Some bytes → length bytes ≤ most_of a
    → Spells (log_of a bytes) x → NoFault s.log.faults s.log.faults_after → NoFault s.out.faults s.out.faults_after → IsOrNoMemory (status_of e) status.Done
spelled_way s Done a bytes x h asked told few spelled sure out = inl refl
spelled_way s Usage a bytes x h asked told few spelled sure out = absurd (h.0 a asked.0)
spelled_way s ReadFault a bytes x h asked told few spelled sure out = absurd (sure (asked_cause s ReadFault a h asked.0).1)
spelled_way s TooLong a bytes x h asked told few spelled sure out =
    absurd (unlong s.log.left s.log.left_after bytes (most_of a) told few (asked_cause s TooLong a h asked.0))
spelled_way s (Bad line cause) a bytes x h asked told few spelled sure out =
    let unread = asked_cause s (Bad line cause) a h asked.0 in
    let first = subst (λ o. IfSome o (λ b. (length b ≤ most_of a) × IsFirstFault (log_of a b) line cause)) told unread.1 in
    absurd (first.1.unspelled x spelled)
spelled_way s WriteFault a bytes x h asked told few spelled sure out = absurd (out h.1)
spelled_way s NoMemory a bytes x h asked told few spelled sure out = inr refl

-- what asks for generated scans asks for no log
not_both : (words : List (List ℕ)) (a : Ask) → AskForScans words → AskOfLog a words → ⊥
not_both words a (n, inl made) asked = subst IsOfLog (same_ask a (Make n) words asked.0 made) asked.1
not_both words a (n, inr driven) asked = subst IsOfLog (same_ask a (Drive n) words asked.0 driven) asked.1

scans_asked : (words : List (List ℕ)) → AskForScans words → AskNothing words → ⊥
scans_asked words (n, inl made) nothing = nothing (Make n) made
scans_asked words (n, inr driven) nothing = nothing (Drive n) driven

-- what is generated is done
pub scans_way : (s : RunSeen) (e : Ending) → Ended s e → AskForScans s.words → NoFault s.out.faults s.out.faults_after → IsOrNoMemory (status_of e) status.Done
scans_way s Done h asked out = inl refl
scans_way s Usage h asked out = absurd (scans_asked s.words asked h.0)
scans_way s ReadFault h asked out = absurd (not_both s.words h.ask asked h.asked)
scans_way s TooLong h asked out = absurd (not_both s.words h.ask asked h.asked)
scans_way s (Bad line cause) h asked out = absurd (not_both s.words h.ask asked h.asked)
scans_way s WriteFault h asked out = absurd (out h.1)
scans_way s NoMemory h asked out = inr refl

-- such a log spells no script
over_unsaid : (a : Ask) (log : LogSeen) (x : ScriptAt) (bytes : List ℕ) → Says a log x → log.left ≡ Some bytes → IsOverLimit a bytes → ⊥
over_unsaid a log x bytes said told (inl long) =
    let h = subst (λ o. IfSome o (λ b. (length b ≤ most_of a) × (Spells (log_of a b) x × (first_fault (log_of a b) ≡ None)))) told said.1 in
    omega (arith, h.0, long)
over_unsaid a log x bytes said told (inr fault) = unsaid a log x bytes fault.0 said told fault.1

over_bad : (a : Ask) (line : ℕ) (cause : LogCause) (bytes : List ℕ) → length bytes ≤ most_of a → IsFirstFault (log_of a bytes) line cause → IsOverLimit a bytes → is_limit cause ≡ true
over_bad a line cause bytes few first (inl long) = absurd (omega (arith, few, long))
over_bad a line cause bytes few first (inr fault) =
    let found = fault.1 in
    let same : cause ≡ fault.0.cause = (let e = first.fault in cc) in
    rw same fault.2

over_unprinted : (s : RunSeen) (so_far : List ℕ → Type 0) (a : Ask) (bytes : List ℕ) → HasPrinted s so_far → AskOfLog a s.words → s.log.left ≡ Some bytes → IsOverLimit a bytes → ⊥
over_unprinted s so_far a bytes p asked told over =
    let t = asked_text s so_far a p asked.0 in
    over_unsaid a s.log t.script bytes (said_of a s.log t.script asked.1 t.said) told over

-- a log that is over a limit ends in `OverLimit`
pub over_way : (s : RunSeen) (e : Ending) (a : Ask) (bytes : List ℕ) → Ended s e → AskOfLog a s.words → s.log.left ≡ Some bytes → IsOverLimit a bytes
    → NoFault s.log.faults s.log.faults_after → IsOrNoMemory (status_of e) status.OverLimit
over_way s Done a bytes h asked told over sure = absurd (over_unprinted s (Appends s.out.held s.out.held_after) a bytes h asked told over)
over_way s Usage a bytes h asked told over sure = absurd (h.0 a asked.0)
over_way s ReadFault a bytes h asked told over sure = absurd (sure (asked_cause s ReadFault a h asked.0).1)
over_way s TooLong a bytes h asked told over sure = inl refl
over_way s (Bad line cause) a bytes h asked told over sure =
    let unread = asked_cause s (Bad line cause) a h asked.0 in
    let first = subst (λ o. IfSome o (λ b. (length b ≤ most_of a) × IsFirstFault (log_of a b) line cause)) told unread.1 in
    inl (rw (over_bad a line cause bytes first.0 first.1 over) refl)
over_way s WriteFault a bytes h asked told over sure = absurd (over_unprinted s (AppendsFront s.out.held s.out.held_after) a bytes h.0 asked told over)
over_way s NoMemory a bytes h asked told over sure = inr refl
