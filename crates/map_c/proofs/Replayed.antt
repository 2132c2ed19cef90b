-- What replaying leaves in a handle whose content is known.
use Rattle.std.proofs.Common.{◌≡◌, ap, refl, [], Some}
use Rattle.rebuild_parts.specs.Built.{BuiltAt, IsReplayOf}
use Rattle.map_c.specs.declared.handles.content.Content.{Content}
use Rattle.map_c.specs.declared.handles.content.Content.TheVariants as content
use Rattle.map_c.specs.Building.{IsReplayed, built_in}
use Rattle.map_c.specs.BuiltSubtree.{BuiltSubtreeAt}

pub replayed_in : (c : Content) (d : BuiltSubtreeAt) (b : BuiltAt) → c ≡ content.Built d → IsReplayOf d.built d.left b
    → IsReplayed (Some c) (Some (content.Built (record { built = b; left = []; large = d.large })))
replayed_in c d b e h = record { before = d; after = b; held = ap (λ x. built_in (Some x)) e; holds = refl; done = h }
