use Rattle.std.proofs.Common.{Some, sym, ap, subst, ◌≡◌, ◌∙◌, [], ◌∷◌, length, take, drop, arith}
use Rattle.kd_tree.specs.Shape.{Head, nodes}
use Rattle.kd_tree.specs.Walk.{walk}
use Rattle.kd_search.proofs.Tops.{walk_top}
use Rattle.kd_search.proofs.Walks.{walk_in_extent}
use Rattle.neighbour_sets.specs.Growth.{put_all_new}
use Rattle.neighbour_sets.specs.Spent.{AreSpent}
use Rattle.map_fold.specs.Neighbours.{near}
use Rattle.neighbour_sets.proofs.Near.{near_missed}
use Rattle.neighbour_sets.proofs.Grown.{put_in_turn}
use Rattle.neighbour_sets.proofs.Spending.{near_seen, spent_empty, spent_first, spent_joined, spent_more, spent_parts, grown_kept, whole_seen}
use Rattle.neighbour_sets.proofs.growing.+reach_under.Goals as goal

pub returns-in_default-clause-reached : goal.returns-in_default-clause-reached
returns-in_default-clause-reached t c =
    let none : nodes c.args.tree.now ≡ 0 = sym c.requires.flags ∙ c.in_default.ensures.cases in
    near_seen c.args.front.now c.args.ball.now.center c.args.ball.now.limit (walk c.args.pending c.args.tree.now) (spent_empty c.args.front.now.seen c.args.pending c.args.tree.now none)

pub returns-then-own-clause-reached : goal.returns-then-own-clause-reached
returns-then-own-clause-reached t c =
    let f = c.args.front.now in
    let cut = c.in-Some.ensures.cases.0 in
    let own = c.in-Some.own.now in
    let children = c.in-Some.children.now in
    let long : length (own ∷ children) ≡ nodes c.args.tree.now = ap length (sym cut) ∙ c.requires.flags in
    let k = subst (AreSpent f.seen c.args.pending c.args.tree.now) cut c.requires.spent in
    near_seen f c.args.ball.now.center c.args.ball.now.limit (walk c.args.pending c.args.tree.now) (spent_first f.seen c.args.pending c.args.tree.now own children long k c.if-own.true)

pub returns-then-not-meets-clause-reached : goal.returns-then-not-meets-clause-reached
returns-then-not-meets-clause-reached t c =
    let inside = walk_in_extent (Some c.in-Some-extent.extent) c.args.pending c.args.tree.now c.in-Some-extent.ensures.value in
    ap (put_all_new c.args.front.now) (sym (near_missed c.args.ball.now.center c.args.ball.now.limit
    c.in-Some-extent.extent (walk c.args.pending c.args.tree.now) inside
    (sym c.meets.ensures ∙ c.if-not-meets.true)))

pub reach_under-requires : goal.reach_under-requires
reach_under-requires t c =
    let f = c.args.front.now in
    let q = c.args.ball.now.center in
    let d = c.args.ball.now.limit in
    let item = c.relabelled-item.result in
    let top = c.in-Some-top.top in
    let head : Head = record { item = top.item; axis = top.axis; pending = top.pending } in
    let below = c.then-below.result in
    let is = c.in-Some-top.ensures.some in
    let cut = c.in-Some.ensures.cases.0 in
    let own = c.in-Some.own.now in
    let children = c.in-Some.children.now in
    let long : length (own ∷ children) ≡ nodes c.args.tree.now = ap length (sym cut) ∙ c.requires.flags in
    let k = subst (AreSpent f.seen c.args.pending c.args.tree.now) cut c.requires.spent in
    let parts = spent_parts f.seen c.args.pending head top.left.now top.right.now c.args.tree.now own children below is c.then-below.ensures.value long k in
    let kept = grown_kept f c.reach.new.front (near (item ∷ []) q d) c.in_ok-reach.ensures in
    let left = c.split_at_mut-left.result.0.now in (
      omega (arith, ap nodes is),
      (
        c.split_at_mut-left.ensures.front_len ∙ c.size.ensures.value,
        spent_more f.seen c.reach.new.front.seen kept below top.left.now left
            (subst (AreSpent f.seen below top.left.now) (sym (c.split_at_mut-left.ensures.front ∙ ap (λ n. take n children) c.size.ensures.value)) parts.left),
      ),
    )

pub reach_under-requires-2 : goal.reach_under-requires-2
reach_under-requires-2 t c =
    let f = c.args.front.now in
    let q = c.args.ball.now.center in
    let d = c.args.ball.now.limit in
    let item = c.relabelled-item.result in
    let top = c.in-Some-top.top in
    let head : Head = record { item = top.item; axis = top.axis; pending = top.pending } in
    let below = c.then-below.result in
    let is = c.in-Some-top.ensures.some in
    let cut = c.in-Some.ensures.cases.0 in
    let own = c.in-Some.own.now in
    let children = c.in-Some.children.now in
    let long : length (own ∷ children) ≡ nodes c.args.tree.now = ap length (sym cut) ∙ c.requires.flags in
    let k = subst (AreSpent f.seen c.args.pending c.args.tree.now) cut c.requires.spent in
    let parts = spent_parts f.seen c.args.pending head top.left.now top.right.now c.args.tree.now own children below is c.then-below.ensures.value long k in
    let kept = grown_kept f c.reach.new.front (near (item ∷ []) q d) c.in_ok-reach.ensures in
    let right = c.split_at_mut-left.result.1.now in
    let kept_on = grown_kept c.reach.new.front c.reach_under.new.front (near (walk below top.left.now) q d) c.in_ok-left.ensures.reached in (
      omega (arith, ap nodes is),
      (
        omega (arith, c.split_at_mut-left.ensures.back_len, c.size.ensures.value, parts.long),
        spent_more f.seen c.reach_under.new.front.seen (λ n h. kept_on n (kept n h)) below top.right.now right
            (subst (AreSpent f.seen below top.right.now) (sym (c.split_at_mut-left.ensures.back ∙ ap (λ n. drop n children) c.size.ensures.value)) parts.right),
      ),
    )

pub returns-clause-reached : goal.returns-clause-reached
returns-clause-reached t c =
    let top = c.in-Some-top.top in
    let below = c.then-below.result in
    let item = c.relabelled-item.result in
    let parts = walk_top c.args.tree.now c.args.pending top item below c.in-Some-top.ensures.some c.relabelled-item.ensures c.then-below.ensures.value in
    put_in_turn c.args.ball.now.center c.args.ball.now.limit item (walk below top.left.now) (walk below top.right.now) (walk c.args.pending c.args.tree.now) c.args.front.now _ _ _
    parts c.in_ok-reach.ensures c.in_ok-left.ensures.reached c.in_ok-right.ensures.reached

pub returns-in_default-clause-whole : goal.returns-in_default-clause-whole
returns-in_default-clause-whole t c =
    let none : nodes c.args.tree.now ≡ 0 = sym c.requires.flags ∙ c.in_default.ensures.cases in λ e. spent_empty c.args.front.now.seen c.args.pending c.args.tree.now none

pub returns-then-own-clause-whole : goal.returns-then-own-clause-whole
returns-then-own-clause-whole t c =
    let f = c.args.front.now in
    let cut = c.in-Some.ensures.cases.0 in
    let own = c.in-Some.own.now in
    let children = c.in-Some.children.now in
    let long : length (own ∷ children) ≡ nodes c.args.tree.now = ap length (sym cut) ∙ c.requires.flags in
    let k = subst (AreSpent f.seen c.args.pending c.args.tree.now) cut c.requires.spent in λ e. spent_first f.seen c.args.pending c.args.tree.now own children long k c.if-own.true

pub returns-clause-whole : goal.returns-clause-whole
returns-clause-whole t c =
    let top = c.in-Some-top.top in
    let below = c.then-below.result in
    let item = c.relabelled-item.result in
    let now = c.reach_under-2.new.front in
    let parts = walk_top c.args.tree.now c.args.pending top item below c.in-Some-top.ensures.some c.relabelled-item.ensures c.then-below.ensures.value in
    let kept = grown_kept c.reach_under.new.front now (near (walk below top.right.now) c.args.ball.now.center c.args.ball.now.limit) c.in_ok-right.ensures.reached in
    whole_seen c.reach_under.new.front.seen now.seen item (walk below top.left.now) (walk below top.right.now) (walk c.args.pending c.args.tree.now) c.is_over.result c.in_ok-left.left
    c.in_ok-right.right c.all-whole.result parts kept c.is_over.ensures c.in_ok-left.ensures.whole c.in_ok-right.ensures.whole c.all-whole.ensures

pub returns-clause-spent : goal.returns-clause-spent
returns-clause-spent t c =
    let top = c.in-Some-top.top in
    let head : Head = record { item = top.item; axis = top.axis; pending = top.pending } in
    let below = c.then-below.result in
    let item = c.relabelled-item.result in
    let now = c.reach_under-2.new.front in
    let parts = walk_top c.args.tree.now c.args.pending top item below c.in-Some-top.ensures.some c.relabelled-item.ensures c.then-below.ensures.value in
    let kept = grown_kept c.reach_under.new.front now (near (walk below top.right.now) c.args.ball.now.center c.args.ball.now.limit) c.in_ok-right.ensures.reached in
    let whole =
    whole_seen c.reach_under.new.front.seen now.seen item (walk below top.left.now) (walk below top.right.now) (walk c.args.pending c.args.tree.now) c.is_over.result c.in_ok-left.left
    c.in_ok-right.right c.all-whole.result parts kept c.is_over.ensures c.in_ok-left.ensures.whole c.in_ok-right.ensures.whole c.all-whole.ensures in
    spent_joined now.seen c.args.pending head top.left.now top.right.now c.args.tree.now c.all-whole.result c.reach_under.new.spent c.reach_under-2.new.spent below
    c.in-Some-top.ensures.some c.then-below.ensures.value c.in_ok-left.ensures.flags
    (spent_more c.reach_under.new.front.seen now.seen kept below top.left.now c.reach_under.new.spent c.in_ok-left.ensures.spent) c.in_ok-right.ensures.spent whole
