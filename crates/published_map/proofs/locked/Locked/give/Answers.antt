use Rattle.std.proofs.Common.{◌≡◌, ℕ, List, refl, sym, ◌∙◌, ap, subst}
use Rattle.map_items.specs.declared.entry.Entry.{Entry}
use Rattle.rebuild_core.specs.Lawful.{Stored}
use Rattle.shown_versions.specs.Marks.{at_places, AreOwnPlaces}
use Rattle.published_map.proofs.Marking.{marked_longer, pass_longer, places_longer}
use Rattle.published_map.proofs.Hearing.{caught, begins}
use Rattle.published_map.proofs.locked.Locked.give.Goals as goal

pub invariant_of-pass : goal.invariant_of-pass
invariant_of-pass g c =
    let i = c.pass.invariant in
    let e = c.read_newest.ensures in
    let got : c.read_newest.result ≡ c.published.result.now = e.same in
    let longer = caught _ _ _ _ i.reader e.begins (sym got) in
    pass_longer _ _ _ _ _ _ _ _ i longer (begins _ _ (got ∙ sym e.at))

pub returns-clause-grown : goal.returns-clause-grown
returns-clause-grown g c =
    let i = c.pass.invariant in
    let e = c.read_newest.ensures in
    let got : c.read_newest.result ≡ c.published.result.now = e.same in
    let longer = caught _ _ _ _ i.reader e.begins (sym got) in
    rw (← c.pass.view_is) (refl, longer, places_longer _ _ _ 0 _ longer i.marked)

pub returns-clause-seen : goal.returns-clause-seen
returns-clause-seen g c =
    let e = c.read_newest.ensures in
    let got : c.read_newest.result ≡ c.published.result.now = e.same in
    let shown : c.published.result.now ≡ c.self.inside.state.state.history = c.published.ensures ∙ c.self.invariant.2.published in
    got ∙ (shown ∙ ap (λ (s : Stored). s.state.history) c.self.view_is)

pub returns-clause-made : goal.returns-clause-made
returns-clause-made g c =
    let i = c.pass.invariant in
    let e = c.read_newest.ensures in
    let got : c.read_newest.result ≡ c.published.result.now = e.same in
    let shown : c.published.result.now ≡ c.self.inside.state.state.history = c.published.ensures ∙ c.self.invariant.2.published in
    let longer = caught _ _ _ _ i.reader e.begins (sym got) in
    let ks : List ℕ = c.pass.inside.marks.items in
    let whole = got ∙ (shown ∙ ap (λ (s : Stored). s.state.history) c.self.view_is) in
    let m = subst (λ (z : List Entry). AreOwnPlaces c.pass.inside.caller z 0 ks × (at_places c.read_newest.result ks ≡ at_places z ks)) whole (marked_longer _ _ _ 0 _ longer i.marked, refl) in
    (ks, m.0, m.1)
