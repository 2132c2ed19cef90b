use Rattle.std.proofs.Common.{◌≡◌, ◌∙◌, sym, length, rules}
use Rattle.shown_versions.proofs.Counting.{places_length}
use Rattle.published_map.proofs.pass.Pass.updates.Goals as goal

pub returns : goal.returns
returns g c =
    let count : c.len.result ≡ length c.self.inside.marks.items = search rules in
    rw (← c.self.view_is) (count ∙ sym (places_length _ _ 0 _ c.self.invariant.marked))
