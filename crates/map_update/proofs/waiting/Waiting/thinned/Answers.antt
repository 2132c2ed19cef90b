use Rattle.std.proofs.Common.{◌≡◌, ℕ, ◌<◌, ◌≤◌, ◌++◌, ◌∙◌, [], ◌∷◌, inl, inr, Bool, true, false, List, Some, ap, length, refl, subst, sym}
use Rattle.std.specs.Prelude.{IfSome, IsNone}
use Rattle.std.specs.declared.option.Option.{Option}
use Rattle.std.proofs.lemmas.Bool.{true≢false}
use Rattle.std.proofs.lemmas.List.Elements.{All-weaker}
use Rattle.std.proofs.lemmas.Result.{IfOk-weaker}
use Rattle.point_geom.specs.Place.{Bounds}
use Rattle.point_geom.specs.Boxes.{holds, voxel}
use Rattle.point_geom.proofs.Laws.{voxel_held}
use Rattle.node_labels.specs.Labels.{is_live, thin_tag}
use Rattle.node_labels.specs.declared.label.Label.TheVariants.{Live}
use Rattle.map_items.specs.declared.item.Item.{Item}
use Rattle.map_fold.specs.Answers.{inside_all}
use Rattle.map_items.specs.Contents.{comes_before, in_box, live_at, mark, put, thin}
use Rattle.map_items.specs.Ops.{IsUnheld}
use Rattle.map_fold.proofs.Centre.{live_is}
use Rattle.map_fold.proofs.Found.{member-filter}
use Rattle.kd_search.specs.Best.{IsBest}
use Rattle.kd_mark.proofs.Results.{ok_both}
use Rattle.kd_update.proofs.Grown.{live_of}
use Rattle.map_update.specs.Waiting.{IsJoined, contents_of}
use Rattle.map_update.proofs.Entering.{entered_none, entered_same, winner_below, winner_new}
use Rattle.map_items.proofs.Numbered.{contents_rise}
use Rattle.map_update.proofs.Thinnings.{ThinsAs, lost_thins}
use Rattle.map_update.proofs.Winners.{alone_inside, held_wins, new_wins}
use Rattle.map_update.specs.declared.waiting.Waiting.{Waiting}
use Rattle.map_update.proofs.waiting.Waiting.thinned.Goals as goal
use Rattle.map_update.proofs.waiting.Waiting.thinned.Goals.{After-lost}

-- an item lies in its voxel
inside : (edge : ℕ) (i : Item) (box : Bounds) → 1 ≤ edge → box ≡ voxel edge i.point → holds box i.point ≡ true
inside edge i box from same = ap (λ (b : Bounds). holds b i.point) same ∙ voxel_held edge i.point from

-- the best of a box, said of a voxel that is the box
best_on : (m : List Item) (box cube : Bounds) (o : Option Item) (i : Item) → box ≡ cube → IfSome o (IsBest m box) → o ≡ Some i → IsBest m cube i
best_on m box cube o i same k is = let first : IfSome (Some i) (IsBest m box) = subst (λ (z : Option Item). IfSome z (IsBest m box)) is k in subst (λ (c : Bounds). IsBest m c i) same first

-- and whether a live item comes before another there
first_on : (i j : Item) (box cube : Bounds) (r : Bool) → box ≡ cube → i.label ≡ Live → r ≡ comes_before box i j → comes_before cube (live_at i.number i.point) j ≡ r
first_on i j box cube r same live e =
    ap (λ (b : Bounds). comes_before b (live_at i.number i.point) j) (sym same) ∙ ap (λ (x : Item). comes_before box x j) (sym (live_of i live)) ∙ sym e

pub returns-in_default-clause-held : goal.returns-in_default-clause-held
returns-in_default-clause-held c =
    let edge = c.args.settings.now.voxel in
    let i = c.args.entrant.now.item in
    let m = contents_of c.args.self in
    let default : IsNone c.rivals-best.result.best = subst (λ (o : Option Item). IsNone o) (sym c.in_default.is) refl in
    let none : inside_all m (voxel edge i.point) ≡ [] = ap (inside_all m) (sym c.requires.cube) ∙ c.rivals-best.ensures.none.0 default in
    IfOk-weaker c.with.result _ (λ w. contents_of w ≡ thin edge m i.number i.point) (λ w e. e ∙ sym (entered_none edge c.args.high i.number m i.point c.requires.waiting.held none)) c.with.ensures.held

pub returns-in_default-clause-joined : goal.returns-in_default-clause-joined
returns-in_default-clause-joined c =
    let i = c.args.entrant.now.item in
    let there = inside c.args.settings.now.voxel i c.args.entrant.now.cube c.voxel-edge.ensures.sizes.voxel_from c.requires.cube in
    ok_both c.with.result _ _ (IsJoined c.args.entrant.now.cube c.args.self) (λ w same e. record { cuboids = inl same; items = inr (i, there, e) }) c.with.ensures.same c.with.ensures.one

-- what is thinned where the new item wins
clears : (c : After-lost) → ThinsAs (contents_of c.args.self) c.args.entrant.now.cube c.lost.result
clears c =
    let m = contents_of c.args.self in
    let box = c.args.entrant.now.cube in
    let best = best_on m box box c.rivals-best.result.best c.in-Some.best refl c.rivals-best.ensures.best c.in-Some.is in
    lost_thins c.args.high m box c.lost.result c.in-Some.best c.rivals-best.result.count c.requires.waiting.held best c.rivals-best.ensures.count c.lost.ensures

pub cleared-requires-clause-clear : goal.cleared-requires-clause-clear
cleared-requires-clause-clear c =
    let k = clears (goal.at.cleared-requires-clause-clear c).After-lost in
    let box = c.args.entrant.now.cube in
    let small = c.lost.result in
    record {
      none = All-weaker (λ u. in_box box u ≡ false) (λ u. in_box small u ≡ false) (λ u out. outside u (in_box small u) refl k out) c.args.self.items.items c.requires.clear.none;
      apart = λ i there. c.requires.clear.apart i (k.part i there);
    }
  where
    outside : (u : Item) (b : Bool) → in_box c.lost.result u ≡ b → ThinsAs (contents_of c.args.self) c.args.entrant.now.cube c.lost.result → in_box c.args.entrant.now.cube u ≡ false → in_box c.lost.result u ≡ false
    outside u true e k out = absurd (true≢false (sym (k.part u e) ∙ out))
    outside u false e k out = e

pub with-requires-then-comes_before-clause-new : goal.with-requires-then-comes_before-clause-new
with-requires-then-comes_before-clause-new c =
    let edge = c.args.settings.now.voxel in
    let i = c.args.entrant.now.item in
    let m = contents_of c.args.self in
    let cube = voxel edge i.point in
    let best = best_on m c.args.entrant.now.cube cube c.rivals-best.result.best c.in-Some.best c.requires.cube c.rivals-best.ensures.best c.in-Some.is in
    let before = first_on i c.in-Some.best c.args.entrant.now.cube cube c.comes_before.result c.requires.cube c.requires.live c.comes_before.ensures ∙ c.if-comes_before.true in
    let wins = new_wins edge i.number m i.point c.in-Some.best (contents_rise 0 c.args.high m c.requires.waiting.held) c.requires.new best before in
    let left = c.in_ok-cleared.ensures.held ∙ (clears (goal.at.with-requires-then-comes_before-clause-new c).After-lost).same ∙ ap (λ (b : Bounds). mark m (in_box b) thin_tag) c.requires.cube in
    let new = winner_new edge c.args.high i.number m i.point c.requires.waiting.held c.requires.new in
    subst (IsUnheld i.number) (sym left) (subst (λ (j : Item). IsUnheld j.number (mark m (in_box cube) thin_tag)) wins new)

pub returns-then-comes_before-clause-held : goal.returns-then-comes_before-clause-held
returns-then-comes_before-clause-held c =
    let edge = c.args.settings.now.voxel in
    let i = c.args.entrant.now.item in
    let m = contents_of c.args.self in
    let cube = voxel edge i.point in
    let best = best_on m c.args.entrant.now.cube cube c.rivals-best.result.best c.in-Some.best c.requires.cube c.rivals-best.ensures.best c.in-Some.is in
    let before = first_on i c.in-Some.best c.args.entrant.now.cube cube c.comes_before.result c.requires.cube c.requires.live c.comes_before.ensures ∙ c.if-comes_before.true in
    let wins = new_wins edge i.number m i.point c.in-Some.best (contents_rise 0 c.args.high m c.requires.waiting.held) c.requires.new best before in
    let left = c.in_ok-cleared.ensures.held ∙ (clears (goal.at.returns-then-comes_before-clause-held c).After-lost).same ∙ ap (λ (b : Bounds). mark m (in_box b) thin_tag) c.requires.cube in
    IfOk-weaker c.with-then-comes_before.result _ (λ w. contents_of w ≡ thin edge m i.number i.point)
    (λ w e. e ∙ ap (λ (xs : List Item). put xs i.number i.point) left ∙ ap (λ (j : Item). put (mark m (in_box cube) thin_tag) j.number j.point) (sym wins)) c.with-then-comes_before.ensures.held

pub returns-then-comes_before-clause-joined : goal.returns-then-comes_before-clause-joined
returns-then-comes_before-clause-joined c =
    let i = c.args.entrant.now.item in
    let box = c.args.entrant.now.cube in
    let there = inside c.args.settings.now.voxel i box c.voxel-edge.ensures.sizes.voxel_from c.requires.cube in
    ok_both c.with-then-comes_before.result _ _ (IsJoined box c.args.self)
    (λ w same e. record {
      cuboids = inr (c.lost.result, (clears (goal.at.returns-then-comes_before-clause-joined c).After-lost).part, same ∙ c.in_ok-cleared.ensures.one);
      items = inr (i, there, e ∙ ap (λ (ws : List Item). ws ++ i ∷ []) c.in_ok-cleared.ensures.same);
    }) c.with-then-comes_before.ensures.same c.with-then-comes_before.ensures.one

pub returns-then-comes_before-clause-draft : goal.returns-then-comes_before-clause-draft
returns-then-comes_before-clause-draft c = IfOk-weaker c.with-then-comes_before.result _ (λ (w : Waiting). w.draft ≡ c.args.self.draft) (λ w same. same ∙ c.in_ok-cleared.ensures.draft) c.with-then-comes_before.ensures.draft

pub returns-then-count-eq1-clause-joined : goal.returns-then-count-eq1-clause-joined
returns-then-count-eq1-clause-joined c = record { cuboids = inl refl; items = inl refl }

pub returns-then-count-eq1-clause-held : goal.returns-then-count-eq1-clause-held
returns-then-count-eq1-clause-held c =
    let edge = c.args.settings.now.voxel in
    let i = c.args.entrant.now.item in
    let m = contents_of c.args.self in
    let cube = voxel edge i.point in
    let best = best_on m c.args.entrant.now.cube cube c.rivals-best.result.best c.in-Some.best c.requires.cube c.rivals-best.ensures.best c.in-Some.is in
    let behind = first_on i c.in-Some.best c.args.entrant.now.cube cube c.comes_before.result c.requires.cube c.requires.live c.comes_before.ensures ∙ c.if-comes_before.false in
    let one : length (inside_all m cube) ≡ 1 = ap (λ (b : Bounds). length (inside_all m b)) (sym c.requires.cube) ∙ sym c.rivals-best.ensures.count ∙ c.if-count-eq1.true in
    sym (entered_same edge c.args.high i.number m i.point c.in-Some.best c.requires.waiting.held c.requires.below c.requires.new (alone_inside m cube c.in-Some.best best one) behind)

pub with-requires-2-clause-live : goal.with-requires-2-clause-live
with-requires-2-clause-live c =
    let m = contents_of c.args.self in
    let box = c.args.entrant.now.cube in
    let best = best_on m box box c.rivals-best.result.best c.in-Some.best refl c.rivals-best.ensures.best c.in-Some.is in
    live_is c.in-Some.best.label (member-filter (λ (i : Item). is_live i.label) c.in-Some.best m best.live).1

pub with-requires-2-clause-below : goal.with-requires-2-clause-below
with-requires-2-clause-below c =
    let edge = c.args.settings.now.voxel in
    let i = c.args.entrant.now.item in
    let m = contents_of c.args.self in
    let cube = voxel edge i.point in
    let best = best_on m c.args.entrant.now.cube cube c.rivals-best.result.best c.in-Some.best c.requires.cube c.rivals-best.ensures.best c.in-Some.is in
    let behind = first_on i c.in-Some.best c.args.entrant.now.cube cube c.comes_before.result c.requires.cube c.requires.live c.comes_before.ensures ∙ c.if-comes_before.false in
    subst (λ (j : Item). j.number < c.args.high) (held_wins edge i.number m i.point c.in-Some.best
    (contents_rise 0 c.args.high m c.requires.waiting.held) c.requires.new best behind)
    (winner_below edge c.args.high i.number m i.point c.requires.waiting.held c.requires.below)

pub with-requires-2-clause-new : goal.with-requires-2-clause-new
with-requires-2-clause-new c =
    let edge = c.args.settings.now.voxel in
    let i = c.args.entrant.now.item in
    let m = contents_of c.args.self in
    let cube = voxel edge i.point in
    let best = best_on m c.args.entrant.now.cube cube c.rivals-best.result.best c.in-Some.best c.requires.cube c.rivals-best.ensures.best c.in-Some.is in
    let behind = first_on i c.in-Some.best c.args.entrant.now.cube cube c.comes_before.result c.requires.cube c.requires.live c.comes_before.ensures ∙ c.if-comes_before.false in
    let left = c.in_ok-cleared-2.ensures.held ∙ ap (λ (b : Bounds). mark m (in_box b) thin_tag) c.requires.cube in
    let new = winner_new edge c.args.high i.number m i.point c.requires.waiting.held c.requires.new in
    subst (IsUnheld c.in-Some.best.number) (sym left) (subst
    (λ (j : Item). IsUnheld j.number (mark m (in_box cube) thin_tag)) (held_wins edge i.number m i.point
    c.in-Some.best (contents_rise 0 c.args.high m c.requires.waiting.held) c.requires.new best behind) new)

pub returns-clause-held : goal.returns-clause-held
returns-clause-held c =
    let edge = c.args.settings.now.voxel in
    let i = c.args.entrant.now.item in
    let m = contents_of c.args.self in
    let cube = voxel edge i.point in
    let old = c.in-Some.best in
    let best = best_on m c.args.entrant.now.cube cube c.rivals-best.result.best old c.requires.cube c.rivals-best.ensures.best c.in-Some.is in
    let behind = first_on i old c.args.entrant.now.cube cube c.comes_before.result c.requires.cube c.requires.live c.comes_before.ensures ∙ c.if-comes_before.false in
    let left = c.in_ok-cleared-2.ensures.held ∙ ap (λ (b : Bounds). mark m (in_box b) thin_tag) c.requires.cube in
    IfOk-weaker c.with-2.result _ (λ w. contents_of w ≡ thin edge m i.number i.point)
    (λ w e. e ∙ ap (λ (xs : List Item). put xs old.number old.point) left
    ∙ ap (λ (j : Item). put (mark m (in_box cube) thin_tag) j.number j.point)
    (sym (held_wins edge i.number m i.point old (contents_rise 0 c.args.high m c.requires.waiting.held)
    c.requires.new best behind))) c.with-2.ensures.held

pub returns-clause-joined : goal.returns-clause-joined
returns-clause-joined c =
    let i = c.in-Some.best in
    let box = c.args.entrant.now.cube in
    let best = best_on (contents_of c.args.self) box box c.rivals-best.result.best i refl c.rivals-best.ensures.best c.in-Some.is in
    ok_both c.with-2.result _ _ (IsJoined box c.args.self)
    (λ w same e. record {
      cuboids = inr (box, λ u k. k, same ∙ c.in_ok-cleared-2.ensures.one);
      items = inr (i, best.held, e ∙ ap (λ (ws : List Item). ws ++ i ∷ []) c.in_ok-cleared-2.ensures.same);
    }) c.with-2.ensures.same c.with-2.ensures.one

pub returns-clause-draft : goal.returns-clause-draft
returns-clause-draft c = IfOk-weaker c.with-2.result _ (λ (w : Waiting). w.draft ≡ c.args.self.draft) (λ w same. same ∙ c.in_ok-cleared-2.ensures.draft) c.with-2.ensures.draft
