use Rattle.std.proofs.Common.{◌≡◌, List, Option, Some, None, ap, sym, ◌∙◌, subst}
use Rattle.std.specs.Prelude.{◌↔◌, IsNone}
use Rattle.rebuild_core.specs.Detach.{IsDetachedAt, IsNoneToDetach}
use Rattle.rebuild_core.specs.Lawful.{Stored}
use Rattle.kd_update.specs.Detached.{PartAt, part_in, paths}
use Rattle.rebuild_core.proofs.Detaching.{first_free_path, none_free}
use Rattle.rebuild_core.proofs.state.MapState.detach_path.Goals as goal

pub returns-in-Some-clause-none : goal.returns-in-Some-clause-none
returns-in-Some-clause-none c =
    let s = c.args.self.now.state in
    let parts = c.as_slice-parts.ensures.value ∙ ap (λ (x : Stored). x.state.parts) c.self.view_is in
    let here : part_in c.args.slot s.parts ≡ Some c.in-Some.part.now = sym (ap (part_in c.args.slot) parts) ∙ sym c.in-Some.ensures in
    subst (λ (o : Option PartAt). IsNone (Some c.part.inside.path) ↔ IsNoneToDetach o s) (sym here) ((λ none. absurd cc), (λ none. absurd none))

pub returns-in-Some-clause-some : goal.returns-in-Some-clause-some
returns-in-Some-clause-some c =
    let s = c.args.self.now.state in
    let parts = c.as_slice-parts.ensures.value ∙ ap (λ (x : Stored). x.state.parts) c.self.view_is in
    let here : part_in c.args.slot s.parts ≡ Some c.in-Some.part.now = sym (ap (part_in c.args.slot) parts) ∙ sym c.in-Some.ensures in
    subst (λ (o : Option PartAt). IsDetachedAt o s c.part.inside.path) (sym here) (ap (λ (p : PartAt). p.path) c.part.view_is)

pub returns-clause-none : goal.returns-clause-none
returns-clause-none c =
    let parts = c.as_slice-parts.ensures.value ∙ ap (λ (x : Stored). x.state.parts) c.self.view_is in
    let none : part_in c.args.slot c.args.self.now.state.parts ≡ None = sym (ap (part_in c.args.slot) parts) ∙ sym c.in_default.ensures in
    let large = c.large-large.ensures.value ∙ ap (λ (x : Stored). x.state.settings.large) c.self.view_is in
    let clear = c.as_slice.ensures.value ∙ c.in_ok-paths.ensures ∙ ap (λ (ps : List PartAt). paths ps) parts in
    none_free c.args.self.now.state _ _ _ _ _ none large clear (ap (λ (x : Stored). x.state.tree) c.self.view_is) c.first_free_breach.ensures.criteria

pub returns-clause-some : goal.returns-clause-some
returns-clause-some c =
    let parts = c.as_slice-parts.ensures.value ∙ ap (λ (x : Stored). x.state.parts) c.self.view_is in
    let none : part_in c.args.slot c.args.self.now.state.parts ≡ None = sym (ap (part_in c.args.slot) parts) ∙ sym c.in_default.ensures in
    let large = c.large-large.ensures.value ∙ ap (λ (x : Stored). x.state.settings.large) c.self.view_is in
    let clear = c.as_slice.ensures.value ∙ c.in_ok-paths.ensures ∙ ap (λ (ps : List PartAt). paths ps) parts in
    first_free_path c.args.self.now.state _ _ _ _ _ none large clear (ap (λ (x : Stored). x.state.tree) c.self.view_is) c.first_free_breach.ensures.first
