-- All bytes either spell one script or have a first fault.
use Rattle.std.proofs.Common.{◌≡◌, ℕ, List, None, inl, inr, Result, Ok, Err, IfOk, IfErr, refl, sym, ap, ◌∙◌, OnOk}
use Rattle.std.specs.Result.{result_err}
use Rattle.scan_log.specs.declared.fault.ParseFault.{ParseFault}
use Rattle.scan_log.specs.declared.fault.ParseFault.TheVariants.{Bad, NoMemory}
use Rattle.scan_log.specs.Faults.{FaultAt, first_fault}
use Rattle.scan_log.specs.Outcomes.{LogGives}
use Rattle.scan_log.specs.Reading.{log_of}
use Rattle.scan_log.specs.Refusal.{IsFirstFault, IsParseFault, IsSpelledOnce, IsSpelledOrFaulty}
use Rattle.scan_log.specs.Scripts.{ScriptAt}
use Rattle.scan_log.specs.Spelling.{Spells}
use Rattle.scan_log.proofs.Logs.{log_takes, log_of-spelled, result_err-log_of}

-- what was read is all that is spelled
read_once : (bytes : List ℕ) (s : ScriptAt) → log_of bytes ≡ Ok s → IsSpelledOnce bytes
read_once bytes s e = record {
  script = s;
  spelled = log_takes bytes s e;
  only = λ t h. (let same : Ok t ≡ log_of bytes = sym (log_of-spelled bytes t h) in cc (same, e));
  sound = sym (result_err-log_of bytes) ∙ ap result_err e;
}

-- where a fault was met nothing is spelled
met_fault : (bytes : List ℕ) (f : FaultAt) → log_of bytes ≡ Err f → IsFirstFault bytes f.line f.cause
met_fault bytes f e = record {
  fault = sym (result_err-log_of bytes) ∙ ap result_err e;
  unspelled = λ s h. (let read = log_of-spelled bytes s h in cc (read, e));
}

pub either : (bytes : List ℕ) → IsSpelledOrFaulty bytes
either bytes = go (log_of bytes) refl
  where
    go : (r : Result ScriptAt FaultAt) → log_of bytes ≡ r → IsSpelledOrFaulty bytes
    go (Ok s) e = inl (read_once bytes s e)
    go (Err f) e = inr (f, met_fault bytes f e)

-- what `parse` promises follows from what reading gives
pub found : (bytes : List ℕ) (r : Result ScriptAt ParseFault) → LogGives r (log_of bytes) → IfOk r (Spells bytes)
unfolding read_once
found bytes (Ok s) gives = (read_once bytes s gives).spelled
found bytes (Err fault) gives = tt

pub only : (bytes : List ℕ) (r : Result ScriptAt ParseFault) → LogGives r (log_of bytes)
    → IfOk r (λ s. (t : ScriptAt) → Spells bytes t → t ≡ s)
unfolding read_once
only bytes (Ok s) gives = (read_once bytes s gives).only
only bytes (Err fault) gives = tt

pub sound : (bytes : List ℕ) (r : Result ScriptAt ParseFault) → LogGives r (log_of bytes) → OnOk r (first_fault bytes ≡ None)
sound bytes (Ok s) gives = (read_once bytes s gives).sound
sound bytes (Err fault) gives = tt

pub fault : (bytes : List ℕ) (r : Result ScriptAt ParseFault) → LogGives r (log_of bytes) → IfErr r (IsParseFault bytes)
fault bytes (Ok s) gives = tt
fault bytes (Err (Bad n cause)) gives = met_fault bytes (record { line = n; cause = cause }) gives
fault bytes (Err NoMemory) gives = tt
