use denote.Param.Send.{sendable}
use Rattle.std.proofs.Crossing as std
use Rattle.map_c.proofs.handles.raw_content.RawContent.TheSendSync as held
use Rattle.map_c.proofs.handles.handle.Handle.TheSendSync as handle
use Rattle.map_c.proofs.handles.handle._sends.Goals as goal

pub send-requires-send-T : goal.send-requires-send-T
send-requires-send-T c κs = search (handle.the_send, held.the_send, std.crosses, sendable) depth 20
