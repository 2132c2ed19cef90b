use Rattle.std.proofs.Common.{List, sym, subst}
use mathlib.Core.List.{IsPrefix}
use Rattle.map_items.specs.declared.entry.Entry.{Entry}
use Rattle.shown_versions.proofs.Keeping.{publishes}
use Rattle.shown_versions.proofs.steps.published_by_rule.Goals as goal

pub publish_as-requires : goal.publish_as-requires
publish_as-requires g c next is =
    let now : List Entry = c.args.writer.desk.shown.value in
    publishes _ _ now next (subst (λ (z : List Entry). IsPrefix now z) (sym is) c.requires.grows)
