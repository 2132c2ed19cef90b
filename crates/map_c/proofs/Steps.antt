-- What a call leaves in its handles, where their contents are known.
use Rattle.std.proofs.Common.{◌≡◌, ap, refl, Bool, Some}
use Rattle.rebuild_core.specs.Known.{undone}
use Rattle.rebuild_core.specs.Detach.{IsLogAfter}
use Rattle.rebuild_core.specs.Lawful.{StateAt}
use Rattle.rebuild_core.specs.Swap.{IsSwapStep, MaySwap}
use Rattle.map_c.specs.declared.handles.content.Content.{Content}
use Rattle.map_c.specs.declared.handles.content.Content.TheVariants as content
use Rattle.map_c.specs.Building.{built_in}
use Rattle.map_c.specs.BuiltSubtree.{BuiltSubtreeAt}
use Rattle.map_c.specs.Maps.{map_in}
use Rattle.map_c.specs.Swapping.{IsLeft, IsSwapped}

pub swapped_in : (force : Bool) (c v : Content) (s t : StateAt) (d : BuiltSubtreeAt) → c ≡ content.Map s → v ≡ content.Built d → MaySwap d.built force s → IsSwapStep d.built s t
    → IsSwapped force (Some c) (Some (content.Map t)) (Some v)
swapped_in force c v s t d e f may step =
    record { before = s; after = t; held = ap (λ x. map_in (Some x)) e; holds = refl; value = d; given = ap (λ x. built_in (Some x)) f; may = may; step = step }

-- what a value has missed, next to it
pub left_in : (c v : Content) (s : StateAt) (d e : BuiltSubtreeAt) → c ≡ content.Map s → v ≡ content.Built d → IsLogAfter d.built s e.left → e.built ≡ d.built → e.large ≡ d.large
    → IsLeft (Some c) (Some v) (Some (content.Built e))
left_in c v s d e p q h built large =
    let is : e ≡ record d { left = undone d.built h.part } = rw (← h.after, ← built, ← large) refl in
    record { state = s; held = ap (λ x. map_in (Some x)) p; value = d; given = ap (λ x. built_in (Some x)) q; part = h.part; of = h.of; holds = ap (λ x. Some (content.Built x)) is }
