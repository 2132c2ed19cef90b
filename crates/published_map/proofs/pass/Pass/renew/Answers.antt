use Rattle.std.proofs.Common.{refl, sym}
use Rattle.published_map.proofs.Marking.{pass_longer, places_longer}
use Rattle.published_map.proofs.Hearing.{caught, begins}
use Rattle.published_map.proofs.pass.Pass.renew.Goals as goal

pub invariant_of-self : goal.invariant_of-self
invariant_of-self g c =
    let i = c.self.invariant in
    let s = c.in-Some.ensures in
    let longer = caught _ _ _ _ i.reader s.keeps s.seen in
    pass_longer _ _ _ _ _ _ _ _ i longer (begins _ _ (sym s.seen))

pub returns-in-Some : goal.returns-in-Some
returns-in-Some g c =
    let i = c.self.invariant in
    let s = c.in-Some.ensures in
    let longer = caught _ _ _ _ i.reader s.keeps s.seen in
    rw (← c.self.view_is) (refl, longer, places_longer _ _ _ 0 _ longer i.marked)
