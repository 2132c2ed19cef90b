-- Plans of updates that leave the parts where they are, and what they log for them.
use Rattle.std.proofs.Common.{◌≡◌, ℕ, ◌<◌, List, [], ◌∷◌, refl, ap, sym, ◌∙◌, arith, subst, inl, inr, Some}
use Rattle.std.specs.Prelude.{All}
use Rattle.map_items.specs.Contents.{Member}
use Rattle.map_items.specs.Fold.{points_in}
use Rattle.map_items.specs.declared.op.Op.{Op}
use Rattle.map_items.specs.declared.op.Op.TheVariants.{Mark, Put}
use Rattle.map_items.specs.declared.update.Update.{Update}
use Rattle.kd_tree.specs.Shape.{Shape, levels, nodes, numbers}
use Rattle.kd_tree.specs.Apart.{AreAllApart, AreApart, IsClear}
use Rattle.kd_tree.specs.declared.path.Side.{Side}
use Rattle.kd_mark.specs.declared.watch.Watch.{Watch}
use Rattle.kd_mark.specs.Several.{IsBalancedClear}
use Rattle.kd_mark.specs.Watch.{logged_mark}
use Rattle.kd_update.specs.Watch.{logged_put}
use Rattle.kd_mark.specs.Watches.{HaveRoom, paths_in}
use Rattle.map_update.specs.Draft.{HasLogRoomFor, HasRoomFor, IsDraft, IsDraftLeft, plain_draft, with_op}
use Rattle.rebuild_core.specs.Lawful.{IsLawful, StateAt}
use Rattle.rebuild_parts.specs.Logs.{LogPlan, planned_parts}
use Rattle.kd_update.specs.Detached.{AreLawfulParts, AreLeft, PartAt, paths, watch_of, watches_of}
use Rattle.map_update.specs.Single.{most_ops, only_op, RebuildsNothing}
use Rattle.rebuild_core.specs.Stays.{HasOwnRoom, HasTreeRoom, StaysAmong, logged_by}
use Rattle.rebuild_core.specs.Steps.{IsUnrebuiltUpdate}
use Rattle.map_update.specs.declared.draft.Draft.{Draft}
use Rattle.kd_update.proofs.ApartPaths.{apart_itself}
use Rattle.map_update.proofs.Detached.{left_clear, left_logged}
use Rattle.map_update.proofs.Working.{marks-watched, paths-watched, puts-watched, watched_room}

watched_by : (op : Op) (t : Shape) (ps : List PartAt) → with_op op t (watches_of ps) ≡ watches_of (logged_by op t ps)
watched_by (Mark c a) t ps = marks-watched c a t ps
watched_by (Put n x) t ps = puts-watched n x t ps

left_by : (op : Op) (t : Shape) (ps : List PartAt) → AreLeft ps (logged_by op t ps)
left_by (Mark c a) t ps = left_logged (λ q. logged_mark c a q t) ps
left_by (Put n x) t ps = left_logged (λ q. logged_put n x q t) ps

watched_one : (p : PartAt) (ps : List PartAt) → Member p ps → Member (watch_of p) (watches_of ps)
watched_one p [] m = absurd m
watched_one p (q ∷ ps) (inl is) = inl (ap watch_of is)
watched_one p (q ∷ ps) (inr m) = inr (watched_one p ps m)

-- what a draft from a copy logs of one operation, the plan says of the parts
pub plan_logged : (u : Update) (op : Op) (s z : StateAt) (t : Shape) (ws : List Watch) (new : Draft) (logs : List LogPlan) → s ≡ z → t ≡ s.tree → ws ≡ watches_of s.parts
    → (only_op s.next u ≡ Some op → HaveRoom ws → RebuildsNothing s.settings.large op t → new ≡ plain_draft op (record { tree = t; watches = ws }))
    → ((qs : List PartAt) → AreLeft s.parts qs → new.watches ≡ watches_of qs → planned_parts logs s.parts ≡ qs) → IsUnrebuiltUpdate u op z → planned_parts logs z.parts ≡ logged_by op z.tree z.parts
plan_logged u op s z t ws new logs is same seen k plans =
    let here : IsUnrebuiltUpdate u op s → planned_parts logs s.parts ≡ logged_by op s.tree s.parts = λ q.
    let unrebuilt : RebuildsNothing s.settings.large op t = subst (RebuildsNothing s.settings.large op) (sym same) q.unrebuilt in
    let done = k q.only (subst HaveRoom (sym seen) (watched_room s.parts q.room)) unrebuilt in
    let watches : new.watches ≡ watches_of (logged_by op s.tree s.parts) =
    ap (λ (w : Draft). w.watches) done ∙ ap (λ (x : Shape). with_op op x ws) same ∙ ap (λ (xs : List Watch). with_op op s.tree xs) seen ∙ watched_by op s.tree s.parts in
    plans (logged_by op s.tree s.parts) (left_by op s.tree s.parts) watches in
    subst (λ (x : StateAt). IsUnrebuiltUpdate u op x → planned_parts logs x.parts ≡ logged_by op x.tree x.parts) is here

-- a copy of a lawful state's tree is a draft of its parts
draft_start : (s : StateAt) (t : Shape) (ws : List Watch) → IsLawful s → t ≡ s.tree → ws ≡ watches_of s.parts → IsDraft s.settings.large s.next s.last s.parts (record { tree = t; watches = ws })
draft_start s t ws k same seen = record {
  watched = seen;
  parts = subst (λ (x : Shape). AreLawfulParts s.settings.large s.next s.last x s.parts) (sym same) k.parts;
  balanced = subst (λ (x : Shape). IsBalancedClear s.settings.large (paths s.parts) x) (sym same) k.balanced;
  below = subst (λ (x : Shape). All (λ n. n < s.next) (numbers x)) (sym same) k.below;
}

-- parts that stay

path_one : (p : PartAt) (ps : List PartAt) → Member p ps → Member p.path (paths ps)
path_one p [] m = absurd m
path_one p (q ∷ ps) (inl is) = inl (ap (λ (x : PartAt). x.path) is)
path_one p (q ∷ ps) (inr m) = inr (path_one p ps m)

-- a path that is clear of others is none of them
not_one : (path : List Side) (qs : List (List Side)) → IsClear path qs → Member path qs → ⊥
not_one path [] clear m = m
not_one path (q ∷ qs) clear (inl is) = apart_itself path (subst (AreApart path) (sym is) clear.0)
not_one path (q ∷ qs) clear (inr m) = not_one path qs clear.1 m

stays_later : (p q : PartAt) (ps qs : List PartAt) → qs ≡ q ∷ ps → StaysAmong p ps → StaysAmong p qs
stays_later p q ps qs same k = record { log = k.log; there = subst (Member (record p { log = k.log })) (sym same) (inr k.there); begins = k.begins }

-- a part stays where its path is one of those that are left
part_stays : (p : PartAt) (ps qs : List PartAt) → AreLeft ps qs → AreAllApart (paths ps) → Member p ps → Member p.path (paths qs) → StaysAmong p qs
part_stays p [] qs k apart m there = absurd m
part_stays p (x ∷ ps) qs (inl k) apart (inl is) there =
    let here : Member x.path (paths qs) = subst (λ (y : PartAt). Member y.path (paths qs)) is there in
    absurd (not_one x.path (paths qs) (left_clear x.path ps qs k apart.0) here)
part_stays p (x ∷ ps) qs (inl k) apart (inr m) there = part_stays p ps qs k apart.1 m there
part_stays p (x ∷ ps) qs (inr k) apart (inl is) there =
    subst (λ (y : PartAt). StaysAmong y qs) (sym is) (record { log = k.0; there = subst (Member (record x { log = k.0 })) (sym k.2) (inl refl); begins = k.3 })
part_stays p (x ∷ ps) qs (inr k) apart (inr m) there =
    let here : Member p.path (x.path ∷ paths k.1) = subst (λ (rs : List PartAt). Member p.path (paths rs)) k.2 there in
    elim here [
      | inl is ↦ absurd (not_one x.path (paths ps) apart.0 (subst (λ (q : List Side). Member q (paths ps)) is (path_one p ps m)))
      | inr rest ↦ stays_later p (record x { log = k.0 }) k.1 qs k.2 (part_stays p ps k.1 k.4 apart.1 m rest)
    ]

-- the plan leaves parts of the state, and no others
pub plan_left : (s z : StateAt) (t : Shape) (ws : List Watch) (new : Draft) (logs : List LogPlan) (more : ℕ) → IsLawful s → s ≡ z → t ≡ s.tree → ws ≡ watches_of s.parts
    → ((last : ℕ) (ps : List PartAt) → IsDraft s.settings.large s.next last ps (record { tree = t; watches = ws }) → IsDraftLeft s.settings.large more last ps new)
    → ((qs : List PartAt) → AreLeft s.parts qs → new.watches ≡ watches_of qs → planned_parts logs s.parts ≡ qs) → AreLeft z.parts (planned_parts logs z.parts)
plan_left s z t ws new logs more lawful is same seen draft plans =
    let left = draft s.last s.parts (draft_start s t ws lawful same seen) in
    let here = subst (AreLeft s.parts) (sym (plans left.0 left.1 left.2.watched)) left.1 in
    subst (λ (x : StateAt). AreLeft x.parts (planned_parts logs x.parts)) is here

-- what a draft still watches stays a part in the plan
pub plan_kept : (u : Update) (s z : StateAt) (t : Shape) (ws : List Watch) (new : Draft) (logs : List LogPlan) (more : ℕ) → IsLawful s → s ≡ z → t ≡ s.tree → ws ≡ watches_of s.parts
    → ((last : ℕ) (ps : List PartAt) → IsDraft s.settings.large s.next last ps (record { tree = t; watches = ws }) → IsDraftLeft s.settings.large more last ps new)
    → (HasRoomFor (points_in u) (record { tree = t; watches = ws }) → (x : Watch) → Member x ws → HasLogRoomFor (most_ops u) x → Member x.path (paths_in new.watches))
    → ((qs : List PartAt) → AreLeft s.parts qs → new.watches ≡ watches_of qs → planned_parts logs s.parts ≡ qs)
    → HasTreeRoom u z → (p : PartAt) → Member p z.parts → HasOwnRoom u p → StaysAmong p (planned_parts logs z.parts)
plan_kept u s z t ws new logs more lawful is same seen draft kept plans =
    let left = draft s.last s.parts (draft_start s t ws lawful same seen) in
    let logs_are : planned_parts logs s.parts ≡ left.0 = plans left.0 left.1 left.2.watched in
    let here : HasTreeRoom u s → (p : PartAt) → Member p s.parts → HasOwnRoom u p → StaysAmong p (planned_parts logs s.parts) = λ r p m own.
    let room : HasRoomFor (points_in u) (record { tree = t; watches = ws }) = record { low = omega (arith, r.low, ap levels same); few = omega (arith, r.few, ap nodes same) } in
    let path = kept room (watch_of p) (subst (Member (watch_of p)) (sym seen) (watched_one p s.parts m)) own in
    let there : Member p.path (paths left.0) = subst (λ (qs : List (List Side)). Member p.path qs) (ap paths_in left.2.watched ∙ paths-watched left.0) path in
    subst (StaysAmong p) (sym logs_are) (part_stays p s.parts left.0 left.1 lawful.parts.apart m there) in
    subst (λ (x : StateAt). HasTreeRoom u x → (p : PartAt) → Member p x.parts → HasOwnRoom u p → StaysAmong p (planned_parts logs x.parts)) is here
