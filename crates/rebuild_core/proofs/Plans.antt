-- Plans that leave a lawful state.
use Rattle.std.proofs.Common.{◌≡◌, ℕ, ◌+◌, ◌*◌, ◌<◌, ◌≤◌, List, [], ◌∷◌, ◌++◌, length, length-append, append-nil, refl, ap, sym, ◌∙◌, arith, subst, Some}
use Rattle.std.specs.Prelude.{All}
use Rattle.map_items.specs.Fold.{points_in, step}
use Rattle.map_items.specs.declared.op.Op.{Op}
use Rattle.map_items.specs.declared.update.Update.{Update}
use Rattle.kd_tree.specs.Shape.{Shape, numbers}
use Rattle.kd_tree.specs.Sound.{IsSound}
use Rattle.kd_tree.specs.Contents.{contents}
use Rattle.kd_tree.specs.Criteria.{AllMeetCriteria}
use Rattle.kd_mark.specs.declared.watch.Watch.{Watch}
use Rattle.kd_mark.specs.Refresh.{AreAmong}
use Rattle.kd_mark.specs.Several.{IsBalancedClear}
use Rattle.kd_mark.specs.Watches.{HaveRoom}
use Rattle.kd_mark.proofs.Several.{balanced_clear}
use Rattle.kd_mark.proofs.Update.{criteria_balanced}
use Rattle.map_items.specs.declared.entry.Entry.{Entry}
use Rattle.rebuild_parts.specs.History.{entry_by}
use Rattle.rebuild_core.specs.Lawful.{IsLawful, StateAt}
use Rattle.rebuild_parts.specs.Seen.{VersionAt}
use Rattle.rebuild_parts.specs.Logs.{LogPlan, planned_parts}
use Rattle.kd_update.specs.Detached.{AreInSlots, AreLawfulParts, PartAt, paths, watches_of}
use Rattle.map_update.specs.Single.{RebuildsNothing, entered_nodes, only_op, unrebuilt}
use Rattle.rebuild_core.specs.StateView.{IsNextOf}
use Rattle.rebuild_core.specs.Steps.{IsPlanDraft, IsUnrebuiltUpdate, IsSettlePlan, IsUpdatePlan, PlannedAt, entered, plan_with}
use Rattle.rebuild_core.specs.declared.plan.PlanDraft.{PlanDraft}
use Rattle.map_update.proofs.Detached.{left_lawful, left_none}
use Rattle.map_update.proofs.Drafts.{among_below}
use Rattle.rebuild_core.proofs.Histories.{entries-push, fold-entry, next_entry}
use Rattle.map_update.proofs.Working.{watched_room}

slots_few : (from : ℕ) (ps : List PartAt) → from ≤ 5 → AreInSlots from ps → from + length ps ≤ 5
slots_few from [] low k = omega (arith, low)
slots_few from (p ∷ ps) low k = omega (arith, k.0, slots_few (p.slot + 1) ps (omega (arith, k.1)) k.2)

-- there are at most four parts
pub parts_few : (s : StateAt) → IsLawful s → length s.parts ≤ 4
parts_few s k = omega (arith, slots_few 1 s.parts (omega arith) k.parts.slots)

-- what a draft from a copy promises of one operation, the plan promises of the state
pub plan_shape : (u : Update) (op : Op) (s z : StateAt) (t new : Shape) (ws : List Watch) → s ≡ z → t ≡ s.tree
    → ws ≡ watches_of s.parts
    → (only_op s.next u ≡ Some op → HaveRoom ws → RebuildsNothing s.settings.large op t → new ≡ unrebuilt op t)
    → IsUnrebuiltUpdate u op z → new ≡ unrebuilt op z.tree
plan_shape u op s z t new ws is same seen k =
    let here : IsUnrebuiltUpdate u op s → new ≡ unrebuilt op s.tree =
    λ q. subst (λ (x : Shape). RebuildsNothing s.settings.large op x → new ≡ unrebuilt op x) same (k q.only (subst HaveRoom (sym seen) (watched_room s.parts q.room))) q.unrebuilt in
    subst (λ (x : StateAt). IsUnrebuiltUpdate u op x → new ≡ unrebuilt op x.tree) is here

pub plan_nodes_made : (u : Update) (op : Op) (s z : StateAt) (t : Shape) (m n new : ℕ) (ws : List Watch) → s ≡ z → t ≡ s.tree → m ≡ n → ws ≡ watches_of s.parts
    → (only_op s.next u ≡ Some op → HaveRoom ws → RebuildsNothing s.settings.large op t
    → new ≤ m + (5 * entered_nodes op t + 1)) → IsUnrebuiltUpdate u op z
    → new ≤ n + (5 * entered_nodes op z.tree + 1)
plan_nodes_made u op s z t m n new ws is same start seen k =
    let here : IsUnrebuiltUpdate u op s → new ≤ m + (5 * entered_nodes op s.tree + 1) =
    λ q. subst (λ (x : Shape). RebuildsNothing s.settings.large op x → new ≤ m + (5 * entered_nodes op x + 1)) same (k q.only (subst HaveRoom (sym seen) (watched_room s.parts q.room))) q.unrebuilt in
    let there : IsUnrebuiltUpdate u op z → new ≤ m + (5 * entered_nodes op z.tree + 1) = subst (λ (x : StateAt). IsUnrebuiltUpdate u op x → new ≤ m + (5 * entered_nodes op x.tree + 1)) is here in
    λ q. let h = there q in omega (arith, h, start)

-- A draft that was worked out from a lawful state makes a lawful state.
planned_lawful : (caller : ℕ) (u : Update) (s : StateAt) (d : PlanDraft) → IsLawful s → 1 ≤ caller → caller ≤ 8
    → length s.history < 1048576 → s.next + points_in u ≤ 4194304 → IsSound d.tree → IsPlanDraft u s d
    → IsLawful (record s {
      tree = d.tree;
      next = s.next + points_in u;
      version = record { tree = d.tree; next = s.next + points_in u; len = length s.history + 1 };
      history = s.history ++ entry_by caller u s.history ∷ [];
      parts = planned_parts d.logs.items s.parts;
    })
planned_lawful caller u s d k from to short few sound made = record {
  sizes = k.sizes;
  sound = sound;
  folded = made.stepped ∙ ap (step s.settings.voxel u) k.folded ∙ sym (fold-entry s.settings.voxel s.history (entry_by caller u s.history));
  few = few;
  below = made.below;
  short = omega (arith, short, length-append s.history (entry_by caller u s.history ∷ []));
  entries = entries-push s.history (entry_by caller u s.history) k.entries (record { caller_from = from; caller_to = to; seq = refl });
  parts = made.parts;
  balanced = made.balanced;
  shown = refl;
  shown_next = refl;
  shown_len = omega (arith, length-append s.history (entry_by caller u s.history ∷ []));
}

-- the plan of an update, with what its values are equal to
pub planned : (caller : ℕ) (u : Update) (s z : StateAt) (d : PlanDraft) (next : ℕ) (ver : VersionAt) (e : Entry)
    → IsLawful s → 1 ≤ caller → caller ≤ 8 → length s.history < 1048576 → next ≤ 4194304 → next ≡ s.next + points_in u
    → IsSound d.tree → IsPlanDraft u s d → ver ≡ record { tree = d.tree; next = next; len = length s.history + 1 } → e ≡ entry_by caller u s.history → s ≡ z
    → IsUpdatePlan caller u z (record { tree = d.tree; next = next; version = ver; entry = Some e; logs = d.logs.items })
planned caller u s z d next ver e k from to short few asked sound made shown by is =
    let P : PlannedAt =
    record {
      tree = d.tree;
      next = s.next + points_in u;
      version =
          record { tree = d.tree; next = s.next + points_in u; len = length s.history + 1 };
      entry =
          Some (entry_by caller u s.history);
      logs = d.logs.items;
    } in
    let plan : IsUpdatePlan caller u s P =
    record {
      lawful = planned_lawful caller u s d k from to short (omega (arith, few, asked)) sound made;
      stepped =
          made.stepped;
      entry = refl;
      parts = made.left;
    } in
    let V : ℕ → VersionAt = λ n. record { tree = d.tree; next = n; len = length s.history + 1 } in
    let with_next : IsUpdatePlan caller u s (record P { next = next; version = V next }) = subst (λ (n : ℕ). IsUpdatePlan caller u s (record P { next = n; version = V n })) (sym asked) plan in
    let with_version : IsUpdatePlan caller u s (record P { next = next; version = ver }) =
    subst (λ (x : VersionAt). IsUpdatePlan caller u s (record P { next = next; version = x })) (sym shown) with_next
    in
    let with_entry : IsUpdatePlan caller u s (record P { next = next; version = ver; entry = Some e }) =
    subst (λ (x : Entry). IsUpdatePlan caller u s (record P { next = next; version = ver; entry = Some x }))
    (sym by) with_version in
    subst (λ (x : StateAt). IsUpdatePlan caller u x (record P { next = next; version = ver; entry = Some e })) is with_entry

-- what is planned may be listed
pub next_of : (p q : PlannedAt) (s z : StateAt) → p ≡ q → s ≡ z → IsLawful (entered q z) → IsNextOf s.history p.entry
next_of p q s z e f k =
    let here = subst (λ (x : PlannedAt). IsLawful (entered x z)) (sym e) k in
    let there = subst (λ (x : StateAt). IsLawful (entered p x)) (sym f) here in
    next_entry s.history p.entry there.entries there.short

-- A lawful state stays lawful with another tree that holds the same, and with parts that are lawful in that.
pub held_lawful : (s : StateAt) (t : Shape) (ps : List PartAt) → IsLawful s → IsSound t → contents t ≡ contents s.tree
    → All (λ n. n < s.next) (numbers t) → AreLawfulParts s.settings.large s.next s.last t ps
    → IsBalancedClear s.settings.large (paths ps) t → IsLawful (record s { tree = t; version = record { tree = t; next = s.next; len = length s.history }; history = s.history ++ []; parts = ps })
held_lawful s t ps k sound held below lawful balanced =
    let one : IsLawful (record s { tree = t; version = record { tree = t; next = s.next; len = length s.history }; parts = ps }) = record {
      sizes = k.sizes;
      sound = sound;
      folded = ap (λ m. record { items = m; next = s.next }) held ∙ k.folded;
      few = k.few;
      below = below;
      short = k.short;
      entries = k.entries;
      parts = lawful;
      balanced = balanced;
      shown = refl;
      shown_next = refl;
      shown_len = refl;
    } in
    subst (λ (h : List Entry). IsLawful (record s { tree = t; version = record { tree = t; next = s.next; len = length s.history }; history = h; parts = ps })) (sym (append-nil s.history)) one

-- the plan of settling
pub settles : (s z : StateAt) (t : Shape) (logs : List LogPlan) → IsLawful s → IsSound t → contents t ≡ contents s.tree
    → AreAmong (numbers t) (numbers s.tree) → AllMeetCriteria 10 t → planned_parts logs s.parts ≡ [] → s ≡ z
    → IsSettlePlan z (plan_with t logs z)
settles s z t logs k sound held from criteria none is =
    let P : PlannedAt = plan_with t logs s in
    let all =
    held_lawful s t [] k sound held (among_below s.next (numbers t) (numbers s.tree) from k.below)
    (left_lawful s.settings.large s.next s.next s.last s.last s.tree t s.parts [] (left_none s.parts) k.parts tt)
    (balanced_clear s.settings.large t (criteria_balanced s.settings.large t criteria)) in
    let here : IsLawful (entered P s) = subst (λ (ps : List PartAt). IsLawful (record s { tree = t; version = P.version; history = s.history ++ []; parts = ps })) (sym none) all in
    let plan : IsSettlePlan s P = record { lawful = here; held = held; next = refl; none = refl; parts = none; criteria = criteria } in
    subst (λ (x : StateAt). IsSettlePlan x (plan_with t logs x)) is plan
