-- Values that are swapped into a lawful state.
use Rattle.std.proofs.Common.{◌≡◌, ℕ, ◌+◌, ◌-◌, ◌<◌, Bool, true, false, List, [], ◌∷◌, ◌++◌, length, length-drop, map, refl, ap, sym, ◌∙◌, subst, inl, inr, arith}
use Rattle.std.specs.Prelude.{All, Contains, ◌↔◌}
use Rattle.std.proofs.lemmas.List.Elements.{All-append, All-cons, All-contains, All-contains_itself, All-nil, All-weaker, Contains-append_cases, Contains-append_left, Contains-append_right}
use Rattle.map_items.specs.declared.item.Item.{Item}
use Rattle.map_items.specs.declared.op.Op.{Op}
use Rattle.map_items.specs.Contents.{AreContents}
use Rattle.map_items.specs.Ops.{Fit, numbers_put, replay}
use Rattle.map_items.proofs.Replays.{numbers_put-append}
use Rattle.kd_tree.specs.Shape.{Shape, numbers}
use Rattle.kd_tree.specs.Sound.{IsSound}
use Rattle.kd_tree.specs.Contents.{contents}
use Rattle.kd_tree.specs.Criteria.{AllMeetCriteria}
use Rattle.kd_tree.specs.Apart.{AreAllApart, IsClear}
use Rattle.kd_mark.specs.Refresh.{AreAmong}
use Rattle.kd_update.specs.Replace.{HasRoomAt, StandsFor}
use Rattle.kd_mark.specs.Several.{AreLargeAt, AreSameAt, IsBalancedClear}
use Rattle.kd_mark.proofs.Several.{balanced_clear}
use Rattle.kd_mark.proofs.Update.{criteria_balanced}
use Rattle.rebuild_parts.specs.Built.{BuiltAt, IsLawfulBuilt}
use Rattle.rebuild_core.specs.Known.{IsPartOf, IsTreeOf, undone}
use Rattle.rebuild_core.specs.Lawful.{IsLawful, StateAt}
use Rattle.rebuild_parts.specs.Logs.{LogPlan, planned_parts}
use Rattle.kd_update.specs.Detached.{AreEachLawful, AreLawfulParts, AreLeft, PartAt, paths, without}
use Rattle.rebuild_core.specs.Steps.{plan_with}
use Rattle.rebuild_core.specs.Swap.{IsReplayedOnto, IsLeftBySwap, IsSwapPlan}
use Rattle.kd_update.proofs.ApartPaths.{clear_of_others, balanced_more, ones_moved}
use Rattle.map_update.proofs.Detached.{each_large, each_same, each_without, left_lawful, left_none, left_without}
use Rattle.rebuild_parts.proofs.OtherParts.{IsAmongOthers, part_among}
use Rattle.rebuild_core.proofs.Plans.{held_lawful}
use Rattle.rebuild_core.proofs.KnownParts.{built_part, log_parts, undone_fit, undone_same}

-- the value's part among the others
among : (s : StateAt) (b : BuiltAt) (p : PartAt) → IsPartOf b s.parts p → IsAmongOthers b.ticket s.parts p
among s b p o = part_among b.ticket s.parts p o.found

-- what was replayed may replace the part's subtree
pub swap_stands : (s : StateAt) (b : BuiltAt) (p : PartAt) (with : Shape) → IsLawful s → IsLawfulBuilt b
    → IsPartOf b s.parts p → contents with ≡ replay (contents b.tree) (undone b p) → StandsFor p.path s.tree with
swap_stands s b p with k h o held = let there = (built_part s b p k o).there in record { node = there.node; there = there.there; same = held ∙ undone_same s b p k h o }

-- what a value hasn't done fits its tree
pub swap_fit : (s : StateAt) (b : BuiltAt) (p : PartAt) (t : Shape) (ops : List Op) → IsLawful s → IsTreeOf b p s.parts t ops → Fit (contents t) ops
swap_fit s b p t ops k r = subst (λ (os : List Op). Fit (contents t) os) (sym r.undone) (subst (λ (x : Shape). Fit (contents x) (undone b p)) r.tree (undone_fit s b p k r.lawful r.of))

-- a value's tree that was replayed
pub swap_caught : (large : ℕ) (b : BuiltAt) (p : PartAt) (ps : List PartAt) (t with : Shape) (ops : List Op)
    → IsTreeOf b p ps t ops → IsReplayedOnto large (record b { tree = t }) ops with
    → IsReplayedOnto large b (undone b p) with
swap_caught large b p ps t with ops r k =
    subst (λ (os : List Op). IsReplayedOnto large b os with) r.undone
    (subst (λ (x : Shape). IsReplayedOnto large (record b { tree = x }) ops with) (sym r.tree) k)

pub swap_among : (b : BuiltAt) (p : PartAt) (ps : List PartAt) (t with : Shape) (ops : List Op) → IsTreeOf b p ps t ops
    → AreAmong (numbers with) (numbers_put ops ++ numbers t)
    → AreAmong (numbers with) (numbers_put (undone b p) ++ numbers b.tree)
swap_among b p ps t with ops r k =
    subst (λ (os : List Op). AreAmong (numbers with) (numbers_put os ++ numbers b.tree)) r.undone
    (subst (λ (x : Shape). AreAmong (numbers with) (numbers_put ops ++ numbers x)) (sym r.tree) k)

-- the other parts
swap_each : (s : StateAt) (b : BuiltAt) (p : PartAt) → IsLawful s → IsPartOf b s.parts p → AreEachLawful s.settings.large s.next s.last s.tree (without b.ticket s.parts)
swap_each s b p k o =
    let m = among s b p o in
    subst (AreEachLawful s.settings.large s.next s.last s.tree) (sym m.others)
    (each_without s.settings.large s.next s.last s.tree m.front p m.back (subst (AreEachLawful s.settings.large s.next s.last s.tree) m.all k.parts.each))

pub swap_there : (s : StateAt) (b : BuiltAt) (p : PartAt) → IsLawful s → IsPartOf b s.parts p → AreLargeAt s.settings.large (paths (without b.ticket s.parts)) s.tree
swap_there s b p k o = each_large s.settings.large s.next s.last s.tree (without b.ticket s.parts) (swap_each s b p k o)

pub swap_clear : (s : StateAt) (b : BuiltAt) (p : PartAt) → IsLawful s → IsPartOf b s.parts p → IsClear p.path (paths (without b.ticket s.parts))
swap_clear s b p k o =
    let m = among s b p o in
    subst (λ (ps : List PartAt). IsClear p.path (paths ps)) (sym m.others) (clear_of_others m.front p m.back (subst (λ (ps : List PartAt). AreAllApart (paths ps)) m.all k.parts.apart))

pub swap_outside : (s : StateAt) (b : BuiltAt) (p : PartAt) → IsLawful s → IsPartOf b s.parts p → IsBalancedClear s.settings.large (p.path ∷ paths (without b.ticket s.parts)) s.tree
swap_outside s b p k o =
    let m = among s b p o in
    let balanced = subst (λ (ps : List PartAt). IsBalancedClear s.settings.large (paths ps) s.tree) m.all k.balanced in
    subst (λ (ps : List PartAt). IsBalancedClear s.settings.large (p.path ∷ paths ps) s.tree) (sym m.others)
    (balanced_more s.settings.large (paths (m.front ++ p ∷ m.back)) (p.path ∷ paths (m.front ++ m.back)) s.tree
    (ones_moved m.front p m.back) balanced)

-- numbers

items_below : (low next n : ℕ) (m : List Item) → AreContents low next m → Contains (map (λ (i : Item). i.number) m) n → n < next
items_below low next n m k c = All-contains (λ x. x < next) (map (λ (i : Item). i.number) m) n (all low m k) c
  where
    all : (low : ℕ) (m : List Item) → AreContents low next m → All (λ x. x < next) (map (λ (i : Item). i.number) m)
    all low [] k = All-nil (λ x. x < next)
    all low (i ∷ m) k = All-cons (λ x. x < next) i.number (map (λ (j : Item). j.number) m) k.1 (all (i.number + 1) m k.3)

-- each number of what was replayed is below the next one
pub swap_below : (s : StateAt) (b : BuiltAt) (p : PartAt) (with : Shape) → IsLawful s → IsLawfulBuilt b
    → IsPartOf b s.parts p → AreAmong (numbers with) (numbers_put (undone b p) ++ numbers b.tree)
    → All (λ n. n < s.next) (numbers with)
swap_below s b p with k h o f = All-weaker (λ n. Contains (numbers with) n) (λ n. n < s.next) below (numbers with) (All-contains_itself (numbers with))
  where
    in_log : (n : ℕ) → Contains (numbers_put b.done ++ numbers_put (undone b p)) n → n < s.next
    in_log n c =
        let logs : numbers_put p.log ≡ numbers_put b.done ++ numbers_put (undone b p) = ap numbers_put (log_parts b s.parts p o) ∙ numbers_put-append b.done (undone b p) in
        All-contains (λ x. x < s.next) (numbers_put p.log) n (built_part s b p k o).below (subst (λ ns. Contains ns n) (sym logs) c)

    in_items : (n : ℕ) → Contains (map (λ (i : Item). i.number) b.items) n → n < s.next
    in_items n c = items_below 0 s.next n p.items (built_part s b p k o).items (subst (λ (m : List Item). Contains (map (λ (i : Item). i.number) m) n) o.items c)

    below : (n : ℕ) → Contains (numbers with) n → n < s.next
    below n c = elim (Contains-append_cases (numbers_put (undone b p)) (numbers b.tree) n (f n c)) [
      | inl u ↦ in_log n (Contains-append_right (numbers_put b.done) (numbers_put (undone b p)) n u)
      | inr v ↦ elim (Contains-append_cases (numbers_put b.done) (map (λ (i : Item). i.number) b.items) n (h.numbers n v)) [
        | inl u ↦ in_log n (Contains-append_left (numbers_put b.done) (numbers_put (undone b p)) n u)
        | inr u ↦ in_items n u
      ]
    ]

-- and so is each of the tree that it was put into
pub below_both : (next : ℕ) (new with old : List ℕ) → AreAmong new (with ++ old) → All (λ n. n < next) with → All (λ n. n < next) old → All (λ n. n < next) new
below_both next new with old f k l =
    All-weaker (λ n. Contains new n) (λ n. n < next)
    (λ n c. All-contains (λ x. x < next) (with ++ old) n (All-append (λ x. x < next) with old k l) (f n c)) new
    (All-contains_itself new)

-- the plan of a swap

-- the remaining parts are lawful, and the tree is balanced outside them
left_by_swap : (s : StateAt) (b : BuiltAt) (p : PartAt) (t : Shape) (anew : Bool) (ps : List PartAt) → IsLawful s
    → IsPartOf b s.parts p → (anew ≡ true → AllMeetCriteria 10 t)
    → (anew ≡ false → AreSameAt (paths (without b.ticket s.parts)) t s.tree)
    → IsBalancedClear s.settings.large (paths (without b.ticket s.parts)) t → (anew ≡ true → ps ≡ [])
    → (anew ≡ false → ps ≡ without b.ticket s.parts)
    → AreLawfulParts s.settings.large s.next s.last t ps × IsBalancedClear s.settings.large (paths ps) t
left_by_swap s b p t true ps k o criteria same balanced none one =
    subst (λ (qs : List PartAt). AreLawfulParts s.settings.large s.next s.last t qs × IsBalancedClear s.settings.large (paths qs) t) (sym (none refl)) (
      left_lawful s.settings.large s.next s.next s.last s.last s.tree t s.parts [] (left_none s.parts) k.parts tt,
      balanced_clear s.settings.large t (criteria_balanced s.settings.large t (criteria refl)),
    )
left_by_swap s b p t false ps k o criteria same balanced none one =
    let m = among s b p o in
    let left : AreLeft s.parts (without b.ticket s.parts) =
    subst (λ (qs : List PartAt). AreLeft qs (without b.ticket s.parts)) (sym m.all)
    (subst (AreLeft (m.front ++ p ∷ m.back)) (sym m.others) (left_without m.front p m.back)) in
    let each = each_same s.settings.large s.next s.next s.last s.last s.tree t (without b.ticket s.parts) (same refl) (omega arith) (omega arith) (swap_each s b p k o) in
    subst (λ (qs : List PartAt). AreLawfulParts s.settings.large s.next s.last t qs × IsBalancedClear s.settings.large (paths qs) t) (sym (one refl))
    (left_lawful s.settings.large s.next s.next s.last s.last s.tree t s.parts (without b.ticket s.parts) left k.parts each, balanced)

which_left : (s : StateAt) (b : BuiltAt) (p : PartAt) (with : Shape) (anew : Bool) (ps : List PartAt)
    → IsPartOf b s.parts p → IsReplayedOnto s.settings.large b (undone b p) with
    → ((anew ≡ false) ↔ HasRoomAt p.path with s.tree)
    → (anew ≡ true → ps ≡ []) → (anew ≡ false → ps ≡ without b.ticket s.parts) → IsLeftBySwap b s ps
which_left s b p with true ps o held room none one = record { part = p; of = o; with = with; caught = held; left = inr ((λ r. let e = room.1 r in absurd cc), none refl) }
which_left s b p with false ps o held room none one = record { part = p; of = o; with = with; caught = held; left = inl (room.0 refl, one refl) }

pub swaps : (s : StateAt) (b : BuiltAt) (p : PartAt) (with t : Shape) (anew : Bool) (logs : List LogPlan) → IsLawful s
    → IsPartOf b s.parts p → IsSound t → IsReplayedOnto s.settings.large b (undone b p) with
    → contents t ≡ contents s.tree → All (λ n. n < s.next) (numbers t) → ((anew ≡ false) ↔ HasRoomAt p.path with s.tree)
    → (anew ≡ true → AllMeetCriteria 10 t) → (anew ≡ false → AreSameAt (paths (without b.ticket s.parts)) t s.tree)
    → IsBalancedClear s.settings.large (paths (without b.ticket s.parts)) t → (anew ≡ true → planned_parts logs s.parts ≡ []) → (anew ≡ false → planned_parts logs s.parts ≡ without b.ticket s.parts)
    → IsSwapPlan b s (plan_with t logs s)
swaps s b p with t anew logs k o sound caught held below room criteria same balanced none one =
    let left = left_by_swap s b p t anew (planned_parts logs s.parts) k o criteria same balanced none one in
    record {
      lawful = held_lawful s t (planned_parts logs s.parts) k sound held below left.0 left.1;
      held = held;
      next = refl;
      none = refl;
      parts = which_left s b p with anew (planned_parts logs s.parts) o caught room none one;
    }

-- how many operations are pending
pub left_is : (b : BuiltAt) (p : PartAt) (all done : ℕ) (log ops : List Op) → all ≡ length log → log ≡ p.log → done ≡ length ops → ops ≡ b.done → length (undone b p) ≡ all - done
left_is b p all done log ops of_log same of_ops begun = omega (arith, length-drop (length b.done) p.log, of_log, of_ops, ap (λ (xs : List Op). length xs) same, ap (λ (xs : List Op). length xs) begun)
