-- A handle that holds a content owns what a box of it owns.
use mir.Syntax.{impl, tnil, dnil}
use mathlib.Core.List.{[]}
use denote.Signature.{Slot, plain}
use Rattle.std_alloc.proofs.BoxSteps.Form.{Bx}
use Rattle.std_heap.specs.contracts.Global as Heap
use Rattle.std_heap.specs.contracts.GlobalAllocator.TheImpl.{ghosts, dict}
use Rattle.std_heap.proofs.Global.TheLaws as heap
use Rattle.map_c.specs.contracts.handles.content.Content as Content
use Rattle.map_c.proofs.handles.content.Content.TheLaws as content
use Rattle.map_c.specs.contracts.handles.parts.Parts as Parts
use Rattle.map_c.specs.contracts.handles.raw_content.RawContent as RawContent

abbrev pub E : Bx
E = record { row = Content.the_row; laws = content.the_row_laws; al = record { row = Heap.the_row; laws = heap.the_row_laws; g = ghosts; d = dict; drops = impl [] tnil dnil } }

abbrev pub FromParts : Slot 0
FromParts = plain (λ _. Parts.the_row Content.the_row Heap.the_row ghosts)

abbrev pub FromHeld : Slot 0
FromHeld = plain (λ _. RawContent.the_row)
