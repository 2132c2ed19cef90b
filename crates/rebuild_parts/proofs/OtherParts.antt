-- The parts except for that of a ticket.
use Rattle.std.proofs.Common.{◌≡◌, ℕ, ◌+◌, ◌<◌, List, [], ◌∷◌, ◌++◌, get_or, length, refl, ap, sym, ◌∙◌, subst, take, Some}
use Rattle.std.specs.Prelude.{◌==◌}
use Rattle.std.specs.List.{remove}
use Rattle.std.proofs.lemmas.Bool.{cond_both, eq-eqb, eqb-false, eqb-true, ne_eqb}
use Rattle.std.proofs.lemmas.List.{map-append, take_more}
use Rattle.kd_tree.specs.declared.path.Side.{Side}
use Rattle.kd_update.specs.Detached.{IsNewTicket, IsPlaceOf, PartAt, part_of, paths, without}

-- the paths of the first parts, and that of the next one
pub paths_next : (ps : List PartAt) (i : ℕ) (p : PartAt) (q : List Side) (old new : List (List Side)) → i < length ps
    → p ≡ get_or ps i p → q ≡ p.path → old ≡ paths (take i ps) → new ≡ old ++ q ∷ [] → new ≡ paths (take (i + 1) ps)
paths_next ps i p q old new low at is all added =
    let more : take (i + 1) ps ≡ take i ps ++ p ∷ [] = take_more ps i p low ∙ ap (λ (r : PartAt). take i ps ++ r ∷ []) (sym at) in
    added ∙ ap (λ (qs : List (List Side)). qs ++ q ∷ []) all ∙ ap (λ (r : List Side). paths (take i ps) ++ r ∷ []) is ∙ sym (ap paths more ∙ map-append (λ (r : PartAt). r.path) (take i ps) (p ∷ []))

without_past : (ticket : ℕ) (p : PartAt) (ps : List PartAt) → (ticket ≡ p.ticket → ⊥) → without ticket (p ∷ ps) ≡ p ∷ without ticket ps
without_past ticket p ps n = rw (ne_eqb ticket p.ticket n) refl

-- no part has the ticket
pub without_new : (ticket : ℕ) (ps : List PartAt) → IsNewTicket ticket ps → without ticket ps ≡ ps
without_new ticket [] k = refl
without_new ticket (p ∷ ps) k = without_past ticket p ps k.0 ∙ ap (λ (qs : List PartAt). p ∷ qs) (without_new ticket ps k.1)

without_at : (ticket : ℕ) (front : List PartAt) (p : PartAt) (back : List PartAt) → IsNewTicket ticket front → ticket ≡ p.ticket → without ticket (front ++ p ∷ back) ≡ front ++ back
without_at ticket [] p back k e = rw (eq-eqb ticket p.ticket e) refl
without_at ticket (q ∷ front) p back k e = without_past ticket q (front ++ p ∷ back) k.0 ∙ ap (λ (qs : List PartAt). q ∷ qs) (without_at ticket front p back k.1 e)

removed_path : (front : List PartAt) (p : PartAt) (back : List PartAt) → remove (paths (front ++ p ∷ back)) (length front) ≡ paths (front ++ back)
removed_path [] p back = refl
removed_path (q ∷ front) p back = ap (λ (qs : List (List Side)). q.path ∷ qs) (removed_path front p back)

-- the paths without that of the part of the ticket
pub other_paths : (ticket i : ℕ) (ps : List PartAt) → IsPlaceOf ticket i ps → remove (paths ps) i ≡ paths (without ticket ps)
other_paths ticket i ps k =
    let at : remove (paths (k.front ++ k.part ∷ k.back)) i ≡ paths (k.front ++ k.back) = ap (remove (paths (k.front ++ k.part ∷ k.back))) k.place ∙ removed_path k.front k.part k.back in
    let others : paths (without ticket (k.front ++ k.part ∷ k.back)) ≡ paths (k.front ++ k.back) = ap paths (without_at ticket k.front k.part k.back k.new k.is) in
    subst (λ (z : List PartAt). remove (paths z) i ≡ paths (without ticket z)) (sym k.all) (at ∙ sym others)

-- the part of the ticket among the others
pub record IsAmongOthers (ticket : ℕ) (ps : List PartAt) (p : PartAt) : Type 0 where
  pub front : List PartAt
  pub back : List PartAt
  pub all : ps ≡ front ++ p ∷ back
  pub others : without ticket ps ≡ front ++ back
  pub is : ticket ≡ p.ticket

pub part_among : (ticket : ℕ) (ps : List PartAt) (p : PartAt) → part_of ticket ps ≡ Some p → IsAmongOthers ticket ps p
part_among ticket [] p e = absurd cc
part_among ticket (r ∷ ps) p e =
    cond_both (ticket == r.ticket) (Some r) (part_of ticket ps) (λ o. o ≡ Some p → IsAmongOthers ticket (r ∷ ps) p)
    (λ same f. let one : r ≡ p = cc in let is = eqb-true ticket r.ticket same in
    record {
      front = [];
      back = ps;
      all = ap (λ (x : PartAt). x ∷ ps) one;
      others = without_at ticket [] r ps tt is;
      is = is ∙ ap (λ (x : PartAt). x.ticket) one;
    })
    (λ other f.
    let k = part_among ticket ps p f in
    record {
      front = r ∷ k.front;
      back = k.back;
      all = ap (λ (qs : List PartAt). r ∷ qs) k.all;
      others = without_past ticket r ps (eqb-false ticket r.ticket other) ∙ ap (λ (qs : List PartAt). r ∷ qs) k.others;
      is = k.is;
    }) e
