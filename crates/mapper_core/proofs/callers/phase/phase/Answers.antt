use Rattle.std.proofs.Common.{◌≡◌, ℕ, ◌++◌, ◌+◌, ◌-◌, take-add, ◌∙◌, ap, length, take, drop, sym, subst, arith}
use Rattle.std.specs.List.{AllByRecursion}
use Rattle.shown_versions.specs.Marks.{IsDistinct}
use Rattle.scan_log.specs.Plain.{IsPlain}
use Rattle.mapper_core.specs.Mine.{Ran, Turned}
use Rattle.mapper_core.specs.Meetings.{IsOfCallers, AreReplies, Standing}
use Rattle.mapper_core.proofs.CameBack.{AllBack, back_callers, turned_back, turned_caller}
use Rattle.mapper_core.proofs.Meeting.{standing_distinct, standing_phase, told_mine, grown_length}
use Rattle.mapper_core.proofs.AtEnd.{AreFew, all_ran}
use Rattle.mapper_core.proofs.Slices.{all_take, all_drop, take_length_le, points_take}
use Rattle.mapper_core.proofs.callers.phase.phase.Goals as goal

pub run_each-requires-clause-plain : goal.run_each-requires-clause-plain
run_each-requires-clause-plain g c κs within = all_take IsPlain (c.args.to - c.args.from) _ (all_drop IsPlain c.args.from c.args.commands.now c.requires.plain)

pub all_meet-passes-requires-clause-all : goal.all_meet-passes-requires-clause-all
all_meet-passes-requires-clause-all g c =
    let back = turned_back g.L.MapName.voxel _ c.args.passes.items c.in_ok-passes.passes.items c.in_ok-turns.turns.items c.in_ok-passes.queues.items c.in_ok-turns.ensures c.in_ok-passes.ensures in
    back.passes ∙ c.requires.all

pub all_meet-passes-requires-clause-distinct : goal.all_meet-passes-requires-clause-distinct
all_meet-passes-requires-clause-distinct g c =
    let voxel = g.L.MapName.voxel in
    let between = take (c.args.to - c.args.from) (drop c.args.from c.args.commands.now) in
    let back : AllBack (Turned voxel between) c.args.passes.items c.in_ok-passes.passes.items c.in_ok-passes.queues.items =
    turned_back voxel between c.args.passes.items c.in_ok-passes.passes.items c.in_ok-turns.turns.items c.in_ok-passes.queues.items c.in_ok-turns.ensures c.in_ok-passes.ensures in
    subst IsDistinct (sym (back_callers (Turned voxel between) c.args.passes.items c.in_ok-passes.passes.items c.in_ok-passes.queues.items (turned_caller voxel between) back))
    (standing_distinct voxel _ _ _ c.requires.standing)

pub merge-requires : goal.merge-requires
merge-requires g c =
    let voxel = g.L.MapName.voxel in
    let cs = c.args.commands.now in
    let before = take c.args.from cs in
    let between = take (c.args.to - c.args.from) (drop c.args.from cs) in
    let ps = c.args.passes.items in
    let qs = c.in_ok-passes.passes.items in
    let ss = c.all_meet-passes.result.items in
    let lists = c.in_ok-passes.queues.items in
    let back : AllBack (Turned voxel between) ps qs lists = turned_back voxel between ps qs c.in_ok-turns.turns.items lists c.in_ok-turns.ensures c.in_ok-passes.ensures in
    let long : c.args.from + (c.args.to - c.args.from) ≡ c.args.to = (let le = c.requires.from_to in omega arith) in
    let whole : before ++ between ≡ take c.args.to cs = sym (take-add c.args.from (c.args.to - c.args.from) cs) ∙ ap (λ n. take n cs) long in
    let few : AreFew (take c.args.to cs) = record {
      few = (let a = take_length_le c.args.to cs in let b = c.requires.commands in omega arith);
      room = (let a = points_take c.args.to cs in let b = c.requires.room in omega arith);
    } in
    let ran : AllBack (Ran voxel between) ps qs lists =
    all_ran voxel before between ps qs ss lists c.args.replies.now (subst AreFew (sym whole) few)
    c.requires.standing back c.all_meet-passes.ensures in
    let told = told_mine voxel before between ps qs ss lists c.args.replies.now c.requires.standing ran c.all_meet-passes.ensures in
    let many : length lists ≡ g.L.MapName.callers = ran.queues ∙ c.requires.all in
    subst (λ z. (v : ℕ) × AreReplies v between z) (sym c.as_mut_slice.ensures.value) (
      voxel,
      record {
        history = c.all_meet-passes.ensures.1.0;
        lasts = λ x. length c.requires.standing.history;
        most = length c.all_meet-passes.ensures.1.0;
        mine = told.0;
        below = λ x. told.1;
        owned = subst (λ n. AllByRecursion (IsOfCallers n) between) (sym many) c.requires.named;
      },
    )

pub returns-clause-all : goal.returns-clause-all
returns-clause-all g c =
    let back = turned_back g.L.MapName.voxel _ c.args.passes.items c.in_ok-passes.passes.items c.in_ok-turns.turns.items c.in_ok-passes.queues.items c.in_ok-turns.ensures c.in_ok-passes.ensures in
    grown_length c.in_ok-passes.passes.items c.all_meet-passes.result.items c.all_meet-passes.ensures.0 ∙ back.passes ∙ c.requires.all

pub returns-clause-standing : goal.returns-clause-standing
returns-clause-standing g c =
    let voxel = g.L.MapName.voxel in
    let cs = c.args.commands.now in
    let before = take c.args.from cs in
    let between = take (c.args.to - c.args.from) (drop c.args.from cs) in
    let ps = c.args.passes.items in
    let qs = c.in_ok-passes.passes.items in
    let ss = c.all_meet-passes.result.items in
    let lists = c.in_ok-passes.queues.items in
    let old = c.args.replies.now in
    let back : AllBack (Turned voxel between) ps qs lists = turned_back voxel between ps qs c.in_ok-turns.turns.items lists c.in_ok-turns.ensures c.in_ok-passes.ensures in
    let long : c.args.from + (c.args.to - c.args.from) ≡ c.args.to = (let le = c.requires.from_to in omega arith) in
    let whole : before ++ between ≡ take c.args.to cs = sym (take-add c.args.from (c.args.to - c.args.from) cs) ∙ ap (λ n. take n cs) long in
    let few : AreFew (take c.args.to cs) = record {
      few = (let a = take_length_le c.args.to cs in let b = c.requires.commands in omega arith);
      room = (let a = points_take c.args.to cs in let b = c.requires.room in omega arith);
    } in
    let ran : AllBack (Ran voxel between) ps qs lists = all_ran voxel before between ps qs ss lists old (subst AreFew (sym whole) few) c.requires.standing back c.all_meet-passes.ensures in
    let lent : AllBack (Ran voxel between) ps qs c.as_mut_slice.result.now = subst (λ z. AllBack (Ran voxel between) ps qs z) (sym c.as_mut_slice.ensures.value) ran in
    let done = standing_phase voxel before between ps qs ss c.as_mut_slice.result.now c.merge.new.queues old c.merge.new.replies
    c.requires.standing lent c.all_meet-passes.ensures (c.in_ok-merge.ensures voxel) in
    subst (λ z. Standing voxel z ss c.merge.new.replies) whole done
