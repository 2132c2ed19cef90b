-- Sources and sinks in memory.
use Rattle.std.specs.Prelude.{ℕ, ◌==◌, Bool, false, true, List, ◌++◌, take, drop, Result, Ok, Err}
use Rattle.std.specs.List.{list_any}
use Rattle.byte_streams.specs.declared.outside.Failed.{Failed}
use Rattle.byte_streams.specs.declared.outside.SinkFault.{SinkFault}
use Rattle.byte_streams.specs.declared.outside.SinkFault.TheVariants as fault
use Rattle.byte_streams.specs.Outside.{one_higher, is_end}

-- a source that never fails: the remaining bytes, and whether its last read returned the end of input
pub record Feed : Type 0 where
  pub left : List ℕ
  pub ended : Bool

-- a source that gives pieces, and fails at the calls that are listed
pub record PiecedFeed : Type 0 where
  pub left : List ℕ
  pub piece : ℕ
  pub failing : List ℕ
  pub calls : ℕ
  pub faults : ℕ
  pub ended : Bool

-- a sink that takes pieces, and fails at the calls that are listed
pub record PiecedSink : Type 0 where
  pub held : List ℕ
  pub piece : ℕ
  pub failing : List ℕ
  pub calls : ℕ
  pub faults : ℕ

-- the call after `calls` calls is listed
abbrev pub is_next_listed : ℕ → List ℕ → Bool
is_next_listed calls failing = list_any (λ n. n == one_higher calls) failing

-- the source after a read into `room` bytes
abbrev pub after_read : PiecedFeed → ℕ → Result ℕ Failed → PiecedFeed
after_read s room (Ok n) = record s { left = drop n s.left; calls = one_higher s.calls; ended = is_end {E = Failed} (Ok n) room }
after_read s room (Err e) = record s { calls = one_higher s.calls; faults = one_higher s.faults; ended = false }

-- a write failed, and not by `NoMemory`
abbrev pub has_failed : Result ℕ SinkFault → Bool
has_failed (Ok n) = false
has_failed (Err fault.Failed) = true
has_failed (Err fault.NoMemory) = false

-- the sink after a write of the bytes
abbrev pub after_write : PiecedSink → List ℕ → Result ℕ SinkFault → PiecedSink
after_write s bytes (Ok n) = record s { held = s.held ++ take n bytes; calls = one_higher s.calls }
after_write s bytes (Err fault.Failed) = record s { calls = one_higher s.calls; faults = one_higher s.faults }
after_write s bytes (Err fault.NoMemory) = record s { calls = one_higher s.calls }
