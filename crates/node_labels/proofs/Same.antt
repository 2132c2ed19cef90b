-- When labels and actions are the same.
use Rattle.std.proofs.Common.{◌≡◌, refl, ap}
use Rattle.std.specs.Bool.{Decides}
use Rattle.std.specs.Cmp.Derive.{both_true}
use Rattle.std.proofs.lemmas.Bool.{and_parts}
use Rattle.node_labels.specs.declared.label.Label.{Label}
use Rattle.node_labels.specs.declared.label.Label.TheVariants.{Live, Suspended, Dropped}
use Rattle.node_labels.specs.declared.tag.Tag.{Tag}
use Rattle.node_labels.proofs.Laws.{tags_alike}
use Rattle.node_labels.specs.contracts.label.LabelPartialEq.TheImpl as label
use Rattle.node_labels.specs.contracts.tag.TagPartialEq.TheImpl as tag

-- labels are the same where `==` says so
pub label_Decides : (a b : Label) → Decides (label.eq-value.it a b) (a ≡ b)
label_Decides Live Live = ((λ e. refl), λ e. refl)
label_Decides Live Suspended = ((λ e. absurd (cc)), λ e. absurd (cc))
label_Decides Live Dropped = ((λ e. absurd (cc)), λ e. absurd (cc))
label_Decides Suspended Live = ((λ e. absurd (cc)), λ e. absurd (cc))
label_Decides Suspended Suspended = ((λ e. refl), λ e. refl)
label_Decides Suspended Dropped = ((λ e. absurd (cc)), λ e. absurd (cc))
label_Decides Dropped Live = ((λ e. absurd (cc)), λ e. absurd (cc))
label_Decides Dropped Suspended = ((λ e. absurd (cc)), λ e. absurd (cc))
label_Decides Dropped Dropped = ((λ e. refl), λ e. refl)

-- actions are the same where `==` says so
pub tag_Decides : (a b : Tag) → Decides (tag.eq-value.it a b) (a ≡ b)
tag_Decides a b =
    let x = label_Decides a.live b.live in
    let y = label_Decides a.suspended b.suspended in
    ((λ e. let p = and_parts _ _ e in tags_alike a b (x.0 p.0) (y.0 p.1)), λ e. both_true (x.1 (ap (λ (t : Tag). t.live) e)) (y.1 (ap (λ (t : Tag). t.suspended) e)))
