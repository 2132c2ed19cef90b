-- What a handle owns: a box of a content, or nothing. Cited by private functions alone.
use Rattle.std.specs.Prelude.{Option, None, Some}
use base.Fml.{Fml, ftrue}
use base.Stored.{Coded}
use denote.RawPtr.{Ptr}
use Rattle.std.specs.Box.Ownership.{box_owns}
use Rattle.std.specs.Coded.{coded_option}
use Rattle.std.specs.Global.{Global}
use Rattle.std_heap.specs.contracts.GlobalAllocator.TheImpl.{ghosts}
use Rattle.map_c.specs.contracts.handles.content.Content.{the_row}

-- what a content is to a clause
abbrev pub Contents : Type 0
Contents = the_row.Denot

-- what a handle owns at its pointer: a box of the content, which this allocator frees, or nothing
abbrev pub held_owns : Global → Ptr → Option Contents → Fml
held_owns alloc p None = ftrue
held_owns alloc p (Some c) = box_owns (ghosts.dealloc_token alloc) the_row p c

-- how contracts store what a handle holds: as a content, or as nothing
abbrev pub held_coded : Coded (Option Contents)
held_coded = coded_option the_row.coded
