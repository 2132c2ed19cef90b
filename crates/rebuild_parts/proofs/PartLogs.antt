-- Parts, and plans of their logs.
use Rattle.std.proofs.Common.{◌≡◌, ℕ, ◌+◌, ◌<◌, List, [], ◌∷◌, ◌++◌, length, take, get_or, set, refl, ap, sym, ◌∙◌, subst, inl, inr, append_assoc, append-nil, length-append, arith, Option, Some, None}
use Rattle.std.specs.Prelude.{IsNone, IfSome, OnOk}
use Rattle.std.specs.List.{remove}
use Rattle.std.specs.declared.result.Result.{Result}
use Rattle.std.specs.declared.result.Result.TheVariants.{Ok, Err}
use Rattle.std.proofs.lemmas.Bool.{ne_eqb, eq-eqb}
use Rattle.std.proofs.lemmas.List.{get_or_at, set_at, take_more}
use Rattle.map_items.specs.declared.op.Op.{Op}
use Rattle.map_items.specs.declared.memory.NoMemory.{NoMemory}
use Rattle.kd_tree.specs.Apart.{AreApart, IsClear}
use Rattle.kd_tree.specs.declared.path.Side.{Side}
use Rattle.kd_mark.specs.declared.watch.Watch.{Watch}
use Rattle.rebuild_parts.specs.Logs.{AddsLogs, IsUnnamed, LogPlan, planned_parts, relogged, with_log}
use Rattle.kd_update.specs.Detached.{AreLeft, AreOwn, IsNewTicket, IsPlaceOf, PartAt, paths, watch_of, watches_of}
use Rattle.kd_update.proofs.ApartPaths.{apart_itself}

-- the plan is of the first part
pub relogged_here : (x : LogPlan) (p : PartAt) (ps : List PartAt) → x.ticket ≡ p.ticket → relogged x (p ∷ ps) ≡ with_log x.log p ++ ps
relogged_here x p ps e = rw (eq-eqb x.ticket p.ticket e) refl

-- the plan is of another
pub relogged_past : (x : LogPlan) (p : PartAt) (ps : List PartAt) → (x.ticket ≡ p.ticket → ⊥) → relogged x (p ∷ ps) ≡ p ∷ relogged x ps
relogged_past x p ps n = rw (ne_eqb x.ticket p.ticket n) refl

relogged_new : (x : LogPlan) (ps : List PartAt) → IsNewTicket x.ticket ps → relogged x ps ≡ ps
relogged_new x [] k = refl
relogged_new x (p ∷ ps) k = relogged_past x p ps k.0 ∙ ap (λ (qs : List PartAt). p ∷ qs) (relogged_new x ps k.1)

-- where no part is of the plan's ticket, all stay
pub relog_none : (x : LogPlan) (ps : List PartAt) → IsNewTicket x.ticket ps → ps ≡ relogged x ps
relog_none x ps k = sym (relogged_new x ps k)

-- the part of the ticket, after others
relogged_at : (x : LogPlan) (front : List PartAt) (p : PartAt) (back : List PartAt) → IsNewTicket x.ticket front
    → x.ticket ≡ p.ticket → relogged x (front ++ p ∷ back) ≡ front ++ (with_log x.log p ++ back)
relogged_at x [] p back k e = relogged_here x p back e
relogged_at x (q ∷ front) p back k e = relogged_past x q (front ++ p ∷ back) k.0 ∙ ap (λ (qs : List PartAt). q ∷ qs) (relogged_at x front p back k.1 e)

remove-append : (front : List PartAt) (p : PartAt) (back : List PartAt) → remove (front ++ p ∷ back) (length front) ≡ front ++ back
remove-append [] p back = refl
remove-append (q ∷ front) p back = ap (λ (qs : List PartAt). q ∷ qs) (remove-append front p back)

pub place_below : (ticket i : ℕ) (ps : List PartAt) → IsPlaceOf ticket i ps → i < length ps
place_below ticket i ps k = omega (arith, k.place, ap length k.all, length-append k.front (k.part ∷ k.back))

-- the part at its place is taken out
pub relog_forgotten : (x : LogPlan) (ps : List PartAt) (i : ℕ) → IsPlaceOf x.ticket i ps → x.log ≡ None → remove ps i ≡ relogged x ps
relog_forgotten x ps i k e =
    let at : remove (k.front ++ k.part ∷ k.back) i ≡ k.front ++ k.back = ap (remove (k.front ++ k.part ∷ k.back)) k.place ∙ remove-append k.front k.part k.back in
    let logs : with_log x.log k.part ≡ [] = ap (λ (o : Option (List Op)). with_log o k.part) e in
    let all : relogged x (k.front ++ k.part ∷ k.back) ≡ k.front ++ k.back = relogged_at x k.front k.part k.back k.new k.is ∙ ap (λ (z : List PartAt). k.front ++ (z ++ k.back)) logs in
    subst (λ (z : List PartAt). remove z i ≡ relogged x z) (sym k.all) (at ∙ sym all)

-- or has another log
pub relog_some : (x : LogPlan) (ps : List PartAt) (i : ℕ) (q : PartAt) (log : List Op) → IsPlaceOf x.ticket i ps
    → x.log ≡ Some log → q ≡ get_or ps i q → set ps i (record q { log = log }) ≡ relogged x ps
relog_some x ps i q log k e is =
    let same : q ≡ k.part = is ∙ ap (λ (z : List PartAt). get_or z i q) k.all ∙ get_or_at k.front k.part k.back q i (sym k.place) in
    let at : set (k.front ++ k.part ∷ k.back) i (record q { log = log }) ≡ k.front ++ record q { log = log } ∷ k.back = set_at k.front k.part k.back (record q { log = log }) i (sym k.place) in
    let logs : with_log x.log k.part ≡ record q { log = log } ∷ [] = ap (λ (o : Option (List Op)). with_log o k.part) e ∙ ap (λ (p : PartAt). record p { log = log } ∷ []) (sym same) in
    let all : relogged x (k.front ++ k.part ∷ k.back) ≡ k.front ++ record q { log = log } ∷ k.back =
    relogged_at x k.front k.part k.back k.new k.is ∙ ap (λ (z : List PartAt). k.front ++ (z ++ k.back)) logs in
    subst (λ (z : List PartAt). set z i (record q { log = log }) ≡ relogged x z) (sym k.all) (at ∙ sym all)

pub planned-append : (xs ys : List LogPlan) (ps : List PartAt) → planned_parts (xs ++ ys) ps ≡ planned_parts ys (planned_parts xs ps)
planned-append [] ys ps = refl
planned-append (x ∷ xs) ys ps = planned-append xs ys (relogged x ps)

-- plans that don't name the first part leave it
planned_past : (plans : List LogPlan) (p : PartAt) (ps : List PartAt) → IsUnnamed p.ticket plans → planned_parts plans (p ∷ ps) ≡ p ∷ planned_parts plans ps
planned_past [] p ps k = refl
planned_past (x ∷ plans) p ps k = ap (planned_parts plans) (relogged_past x p ps k.0) ∙ planned_past plans p (relogged x ps) k.1

-- plans that forget the first parts, and the next one too
pub forget_next : (ps : List PartAt) (i : ℕ) (p : PartAt) (logs new : List LogPlan) → i < length ps → p ≡ get_or ps i p → new ≡ logs ++ record { ticket = p.ticket; log = None } ∷ []
    → ((rest : List PartAt) → planned_parts logs (take i ps ++ rest) ≡ rest) → (rest : List PartAt) → planned_parts new (take (i + 1) ps ++ rest) ≡ rest
forget_next ps i p logs new below is added all rest =
    let x : LogPlan = record { ticket = p.ticket; log = None } in
    let front : take (i + 1) ps ++ rest ≡ take i ps ++ p ∷ rest =
    ap (λ (z : List PartAt). z ++ rest) (take_more ps i p below ∙ ap (λ (q : PartAt). take i ps ++ q ∷ []) (sym is)) ∙ append_assoc (take i ps) (p ∷ []) rest in
    ap (λ (z : List LogPlan). planned_parts z (take (i + 1) ps ++ rest)) added ∙ planned-append logs (x ∷ []) (take (i + 1) ps ++ rest)
    ∙ ap (λ (z : List PartAt). relogged x (planned_parts logs z)) front ∙ ap (relogged x) (all (p ∷ rest)) ∙ relogged_here x p rest refl

-- those that remain of parts that are apart from a path are apart from it
left_apart : (path : List Side) (ps : List PartAt) (q : PartAt) (qs : List PartAt) → AreLeft ps (q ∷ qs) → IsClear path (paths ps) → AreApart path q.path
left_apart path [] q qs k clear = absurd cc
left_apart path (p ∷ ps) q qs (inl k) clear = left_apart path ps q qs k clear.1
left_apart path (p ∷ ps) q qs (inr k) clear =
    let same : q ≡ record p { log = k.0 } = cc in
    subst (λ (x : PartAt). AreApart path x.path) (sym same) clear.0

-- of no part there is no plan
pub adds_nothing : (ps qs : List PartAt) (old : List LogPlan) → length ps ≡ 0 → AreLeft ps qs → AddsLogs old ps qs old
adds_nothing [] qs old none k = record { plans = []; added = sym (append-nil old); left = sym k; own = λ ticket new. tt }
adds_nothing (p ∷ ps) qs old none k = absurd (omega (arith, none))

-- the first part is forgotten
add_none : (p : PartAt) (ps qs : List PartAt) (old new : List LogPlan) → AddsLogs (old ++ record { ticket = p.ticket; log = None } ∷ []) ps qs new → AddsLogs old (p ∷ ps) qs new
add_none p ps qs old new a =
    let x : LogPlan = record { ticket = p.ticket; log = None } in
    record {
      plans = x ∷ a.plans;
      added = a.added ∙ append_assoc old (x ∷ []) a.plans;
      left = ap (planned_parts a.plans) (relogged_here x p ps refl) ∙ a.left;
      own = λ ticket k. ((λ e. k.0 (sym e)), a.own ticket k.1);
    }

-- the first part has a new log
add_some : (p : PartAt) (log : List Op) (ps qs : List PartAt) (old new : List LogPlan) → IsNewTicket p.ticket ps → AddsLogs (old ++ record { ticket = p.ticket; log = Some log } ∷ []) ps qs new
    → AddsLogs old (p ∷ ps) (record p { log = log } ∷ qs) new
add_some p log ps qs old new other a =
    let x : LogPlan = record { ticket = p.ticket; log = Some log } in
    let q : PartAt = record p { log = log } in
    record {
      plans = x ∷ a.plans;
      added = a.added ∙ append_assoc old (x ∷ []) a.plans;
      left = ap (planned_parts a.plans) (relogged_here x p ps refl) ∙ planned_past a.plans q ps (a.own p.ticket other) ∙ ap (λ (z : List PartAt). q ∷ z) a.left;
      own = λ ticket k. ((λ e. k.0 (sym e)), a.own ticket k.1);
    }

-- What is added for the first part and then for the others: whether it has a watch decides.
added_logs : (p : PartAt) (ps qs : List PartAt) (o : Option (List Op)) (before after : List Watch) (old new : List LogPlan)
    → AreOwn (p ∷ ps) → AreLeft (p ∷ ps) qs → before ≡ watches_of qs
    → (IsNone o → after ≡ before) → ((w : Watch) (ws : List Watch) → IsNone o → before ≡ w ∷ ws → w.path ≡ p.path → ⊥) → IfSome o (λ log. before ≡ record { path = p.path; log = log } ∷ after)
    → ((rs : List PartAt) → AreLeft ps rs → after ≡ watches_of rs → AddsLogs (old ++ record { ticket = p.ticket; log = o } ∷ []) ps rs new)
    → AddsLogs old (p ∷ ps) qs new
added_logs p ps qs None before after old new own (inl k) is none other some rest = add_none p ps qs old new (rest qs k (none refl ∙ is))
added_logs p ps qs None before after old new own (inr k) is none other some rest =
    absurd (other (watch_of (record p { log = k.0 })) (watches_of k.1) refl (is ∙ ap watches_of k.2) refl)
added_logs p ps [] (Some log) before after old new own (inl k) is none other some rest = absurd cc
added_logs p ps (q ∷ qs) (Some log) before after old new own (inl k) is none other some rest =
    let both : ◌≡◌ {A = List Watch} (record { path = p.path; log = log } ∷ after) (watch_of q ∷ watches_of qs) = sym some ∙ is in
    let first : ◌≡◌ {A = Watch} (record { path = p.path; log = log }) (watch_of q) = cc in
    let same : p.path ≡ q.path = ap (λ (w : Watch). w.path) first in
    absurd (apart_itself p.path (subst (AreApart p.path) (sym same) (left_apart p.path ps q qs k own.apart.0)))
added_logs p ps qs (Some log) before after old new own (inr k) is none other some rest =
    let watches : watch_of (record p { log = k.0 }) ∷ watches_of k.1 ≡ record { path = p.path; log = log } ∷ after = sym (is ∙ ap watches_of k.2) ∙ some in
    let first : ◌≡◌ {A = Watch} (watch_of (record p { log = k.0 })) (record { path = p.path; log = log }) = cc in
    let logs : k.0 ≡ log = ap (λ (w : Watch). w.log) first in
    let left : after ≡ watches_of k.1 = cc in
    subst (λ (z : List PartAt). AddsLogs old (p ∷ ps) z new) (sym (k.2 ∙ ap (λ (l : List Op). record p { log = l } ∷ k.1) logs)) (add_some p log ps k.1 old new own.tickets.0 (rest k.1 k.4 left))

-- `added_logs` of a result
pub logs_step : (r : Result (Unit {0}) NoMemory) (p : PartAt) (ps qs : List PartAt) (o : Option (List Op)) (before after : List Watch) (old new : List LogPlan)
    → AreOwn (p ∷ ps) → AreLeft (p ∷ ps) qs → before ≡ watches_of qs
    → (IsNone o → after ≡ before) → ((w : Watch) (ws : List Watch) → IsNone o → before ≡ w ∷ ws → w.path ≡ p.path → ⊥) → IfSome o (λ log. before ≡ record { path = p.path; log = log } ∷ after)
    → ((rs : List PartAt) → AreLeft ps rs → after ≡ watches_of rs → OnOk r (AddsLogs (old ++ record { ticket = p.ticket; log = o } ∷ []) ps rs new))
    → OnOk r (AddsLogs old (p ∷ ps) qs new)
logs_step (Ok u) p ps qs o before after old new own left is none other some rest = added_logs p ps qs o before after old new own left is none other some rest
logs_step (Err e) p ps qs o before after old new own left is none other some rest = tt

-- the first watch, which has this path, is taken out
pub first_taken : (before after rest : List Watch) (first w : Watch) (path : List Side) → before ≡ first ∷ rest
    → first.path ≡ path → w ≡ get_or before 0 w → after ≡ remove before 0
    → before ≡ record { path = path; log = w.log } ∷ after
first_taken before after rest first w path all same is left =
    let one : w ≡ first = is ∙ ap (λ (z : List Watch). get_or z 0 w) all in
    let others : after ≡ rest = left ∙ ap (λ (z : List Watch). remove z 0) all in
    let named : first ≡ record { path = path; log = w.log } = ap (λ (p : List Side). record { path = p; log = first.log }) same ∙ ap (λ (v : Watch). record { path = path; log = v.log }) (sym one) in
    all ∙ ap (λ (v : Watch). v ∷ rest) named ∙ ap (λ (z : List Watch). record { path = path; log = w.log } ∷ z) (sym others)
