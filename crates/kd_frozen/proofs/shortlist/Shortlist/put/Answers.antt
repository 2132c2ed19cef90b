use Rattle.std.proofs.Common.{◌≡◌, ◌+◌, ◌-◌, ◌∙◌, ap, get_or, length, sym, take, subst, arith, List}
use Rattle.std.proofs.lemmas.List.{get_or_default}
use Rattle.map_fold.specs.declared.hits.Hit.{Hit}
use Rattle.map_fold.specs.Answers.{put_hit}
use Rattle.map_fold.specs.Nearest.{AreRanked}
use Rattle.kd_frozen.specs.Shortlist.{hit_at, hits_of}
use Rattle.kd_frozen.proofs.Holes.{front_ranked, hits_length, placed_ranked, put_full, put_past}
use Rattle.kd_frozen.proofs.shortlist.Shortlist.put.Goals as goal
use Rattle.kd_frozen.proofs.shortlist.Shortlist.put.Goals.{Else-len-k}

-- as many are held as the list says
counted : (c : Else-len-k) → length c.args.self.now ≡ c.self.inside.len
counted c = sym (ap length c.self.view_is) ∙ hits_length c.self.inside.nears c.self.inside.len (omega (arith, c.self.invariant.0, c.self.invariant.1))

-- of a list that is full
full : (c : Else-len-k) → c.self.inside.len ≡ c.args.k
full c = omega (arith, counted c, c.requires.few, c.if-len-k.false)

full_view : (c : Else-len-k) → hits_of (take c.args.k c.self.inside.nears) ≡ c.args.self.now
full_view c = ap (λ n. hits_of (take n c.self.inside.nears)) (sym (full c)) ∙ c.self.view_is

full_ranked : (c : Else-len-k) → AreRanked (hits_of (take c.args.k c.self.inside.nears))
full_ranked c = subst AreRanked (ap (λ n. hits_of (take n c.self.inside.nears)) (full c)) c.self.invariant.2

front : (c : Else-len-k) → AreRanked (hits_of (take (c.args.k - 1) c.self.inside.nears))
front c =
    let nears = c.self.inside.nears in
    let k = c.args.k in
    let x = get_or nears (k - 1) c.args.near.now in
    front_ranked nears k x c.requires.k_from (omega (arith, c.requires.k_to, c.self.invariant.1)) (get_or_default nears (k - 1) c.args.near.now x (omega (arith, c.requires.k_to, c.requires.k_from, c.self.invariant.1))) (full_ranked c)

pub invariant_of-self : goal.invariant_of-self
invariant_of-self c =
    let list = c.self.inside in
    let s = c.put_among in
    (omega (arith, c.requires.k_to, c.if-len-k.true), s.ensures.length ∙ c.self.invariant.1, placed_ranked s.new.nears list.nears (list.len + 1) list.len c.args.near.now c.self.invariant.2 s.ensures.put)

pub put_among-requires-then-not-comes_before-clause-ranked : goal.put_among-requires-then-not-comes_before-clause-ranked
put_among-requires-then-not-comes_before-clause-ranked c = front (goal.at.put_among-requires-then-not-comes_before-clause-ranked c).Else-len-k

pub invariant_of-self-then-not-comes_before : goal.invariant_of-self-then-not-comes_before
invariant_of-self-then-not-comes_before c =
    let list = c.self.inside in
    let k = c.args.k in
    let s = c.put_among-then-not-comes_before in
    let held = (goal.at.invariant_of-self-then-not-comes_before c).Else-len-k in
    let last : list.len ≡ k - 1 + 1 = omega (arith, full held, c.requires.k_from) in
    let placed = ap (λ n. hits_of (take n s.new.nears)) last ∙ s.ensures.put in
    (c.self.invariant.0, s.ensures.length ∙ c.self.invariant.1, placed_ranked s.new.nears list.nears list.len (k - 1) c.args.near.now (front held) placed)

pub returns-then-not-comes_before : goal.returns-then-not-comes_before
returns-then-not-comes_before c =
    let nears = c.self.inside.nears in
    let k = c.args.k in
    let near = c.args.near.now in
    let s = c.put_among-then-not-comes_before in
    let x = get_or nears (k - 1) near in
    let is = get_or_default nears (k - 1) near x (omega (arith, c.requires.k_to, c.requires.k_from, c.self.invariant.1)) in
    let held = (goal.at.returns-then-not-comes_before c).Else-len-k in
    ap (λ n. hits_of (take n s.new.nears)) (full held)
    ∙ put_full nears s.new.nears k x near c.requires.k_from (omega (arith, c.requires.k_to, c.self.invariant.1)) s.ensures.length is (sym (c.comes_before.ensures near) ∙ c.if-not-comes_before.true) s.ensures.put
    ∙ ap (λ (z : List Hit). take k (put_hit (hit_at near) z)) (full_view held)

pub returns-else-not-comes_before : goal.returns-else-not-comes_before
returns-else-not-comes_before c =
    let nears = c.self.inside.nears in
    let k = c.args.k in
    let near = c.args.near.now in
    let x = get_or nears (k - 1) near in
    let is = get_or_default nears (k - 1) near x (omega (arith, c.requires.k_to, c.requires.k_from, c.self.invariant.1)) in
    let held = (goal.at.returns-else-not-comes_before c).Else-len-k in
    sym (full_view held)
    ∙ put_past nears k x near c.requires.k_from (omega (arith, c.requires.k_to, c.self.invariant.1)) is (full_ranked held) (sym (c.comes_before.ensures near) ∙ c.if-not-comes_before.false)
    ∙ ap (λ (z : List Hit). take k (put_hit (hit_at near) z)) (full_view held)
