-- What is seen of a run from outside: its words, what it read, and what it wrote.
use Rattle.std.specs.Prelude.{ℕ, Bool, List}
use Rattle.std.specs.declared.option.Option.{Option}
use Rattle.byte_streams.specs.declared.outside.Source.{Ghosts as SourceOf}
use Rattle.byte_streams.specs.declared.outside.Sink.{Ghosts as SinkOf}

-- what is seen of the log: the bytes remaining before and after, whether the last read was the end, and the counts of faults
pub record LogSeen : Type 0 where
  pub left : Option (List ℕ)
  pub left_after : Option (List ℕ)
  pub ended : Bool
  pub faults : ℕ
  pub faults_after : ℕ

-- what is seen of out: the bytes held before and after, and the counts of faults
pub record OutSeen : Type 0 where
  pub held : Option (List ℕ)
  pub held_after : Option (List ℕ)
  pub faults : ℕ
  pub faults_after : ℕ

-- what is seen of a run: its words as bytes, the log, and out
pub record RunSeen : Type 0 where
  pub words : List (List ℕ)
  pub log : LogSeen
  pub out : OutSeen

-- what a source shows of the log, of before and after
abbrev pub log_seen : {R : Type 0} → SourceOf R → R → R → LogSeen
log_seen source old new = record { left = source.left old; left_after = source.left new; ended = source.ended new; faults = source.faults old; faults_after = source.faults new }

-- what a sink shows of out
abbrev pub out_seen : {W : Type 0} → SinkOf W → W → W → OutSeen
out_seen sink old new = record { held = sink.held old; held_after = sink.held new; faults = sink.faults old; faults_after = sink.faults new }

-- a run with these words, this log and this out
abbrev pub run_seen : List (List ℕ) → LogSeen → OutSeen → RunSeen
run_seen words log out = record { words = words; log = log; out = out }
