-- A handle crosses with the content that it holds, and with the right to free its block.
use Rattle.std.specs.Prelude.{Option, None, Some}
use denote.RawPtr.{Ptr}
use Rattle.std.specs.Global.{Global}
use mir.Raw.{raw}
use denote.Memory.{lone}
use denote.Struct.Struct.{exits_of}
use denote.Struct.Owning.{shape, fields, to}
use base.Shift.{Keyless}
use denote.Param.Send.{IsSend, AllSend, owning_send, struct_send, sendable}
use Rattle.std.proofs.Crossing as heap
use Rattle.std_alloc.proofs.SendSync.{quiet, lies}
use Rattle.std_heap.proofs.Global.TheSendSync as handle
use Rattle.map_c.specs.contracts.handles.content.Content as Content
use Rattle.map_c.proofs.Crossing.{content_send}
use Rattle.map_c.specs.RawContent as held
use Rattle.map_c.specs.contracts.handles.raw_content.RawContent.{the_row, the_type}

crosses : (alloc : Global) (p : Ptr) (c : Option held.Contents) → Keyless (held.held_owns alloc p c)
crosses alloc p None = tt
crosses alloc p (Some c) = (lies Content.the_row content_send p c, heap.frees.frees alloc (raw (lone Content.the_row.mir)) p)

pub send : IsSend the_row
send =
    let all : AllSend (fields the_type) = (search sendable, (handle.the_field_send, tt)) in
    owning_send the_type all (λ d. crosses d.alloc d.at d.content)
    (λ k. quiet (to the_type) (exits_of k (fields the_type)) ((struct_send (shape the_type) all).leaving k))
