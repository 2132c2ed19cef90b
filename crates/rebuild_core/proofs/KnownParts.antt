-- Built values, and the parts that they are of.
use Rattle.std.proofs.Common.{◌≡◌, ℕ, ◌≤◌, List, [], ◌∷◌, ◌++◌, length, drop, ap, sym, ◌∙◌, subst, arith, Some}
use Rattle.std.specs.Prelude.{◌==◌}
use Rattle.std.proofs.lemmas.Bool.{cond_both}
use Rattle.std.proofs.lemmas.List.{take-append-drop}
use Rattle.map_items.specs.Ops.{Fit, replay}
use Rattle.map_items.proofs.Replays.{fit_second, replay-append}
use Rattle.kd_tree.specs.Shape.{Shape}
use Rattle.kd_tree.specs.Contents.{contents}
use Rattle.rebuild_parts.specs.Built.{BuiltAt, IsLawfulBuilt}
use Rattle.rebuild_core.specs.Known.{IsPartOf, undone}
use Rattle.rebuild_core.specs.Lawful.{IsLawful, StateAt}
use Rattle.kd_update.specs.Detached.{AreEachLawful, IsLawfulPart, PartAt, part_of}

-- a value and its part

of_lawful : (large next last : ℕ) (t : Shape) (ticket : ℕ) (ps : List PartAt) (p : PartAt) → part_of ticket ps ≡ Some p → AreEachLawful large next last t ps → IsLawfulPart large next last t p
of_lawful large next last t ticket [] p e k = absurd cc
of_lawful large next last t ticket (r ∷ ps) p e k =
    cond_both (ticket == r.ticket) (Some r) (part_of ticket ps) (λ o. o ≡ Some p → IsLawfulPart large next last t p) (λ _ f. let same : r ≡ p = cc in subst (IsLawfulPart large next last t) same k.0)
    (λ _ f. of_lawful large next last t ticket ps p f k.1) e

-- the value's part is lawful
pub built_part : (s : StateAt) (b : BuiltAt) (p : PartAt) → IsLawful s → IsPartOf b s.parts p → IsLawfulPart s.settings.large s.next s.last s.tree p
built_part s b p k o = of_lawful s.settings.large s.next s.last s.tree b.ticket s.parts p o.found k.parts.each

pub log_parts : (b : BuiltAt) (ps : List PartAt) (p : PartAt) → IsPartOf b ps p → p.log ≡ b.done ++ undone b p
log_parts b ps p o = sym (take-append-drop (length b.done) p.log) ∙ ap (λ z. z ++ drop (length b.done) p.log) o.begins

-- what isn't done fits what was built
pub undone_fit : (s : StateAt) (b : BuiltAt) (p : PartAt) → IsLawful s → IsLawfulBuilt b → IsPartOf b s.parts p → Fit (contents b.tree) (undone b p)
undone_fit s b p k h o =
    let part = built_part s b p k o in
    let all : Fit p.items (b.done ++ undone b p) = subst (Fit p.items) (log_parts b s.parts p o) part.fit in
    let rest = fit_second p.items b.done (undone b p) all in
    subst (λ m. Fit m (undone b p)) (ap (λ m. replay m b.done) (sym o.items) ∙ sym h.replayed) rest

-- and once it is done, the value holds what the subtree holds
pub undone_same : (s : StateAt) (b : BuiltAt) (p : PartAt) (k : IsLawful s) → IsLawfulBuilt b
    → (o : IsPartOf b s.parts p) → replay (contents b.tree) (undone b p) ≡ contents (built_part s b p k o).there.node
undone_same s b p k h o =
    ap (λ m. replay m (undone b p)) (h.replayed ∙ ap (λ m. replay m b.done) o.items)
    ∙ sym (replay-append p.items b.done (undone b p)) ∙ ap (replay p.items) (sym (log_parts b s.parts p o)) ∙ sym (built_part s b p k o).replayed
