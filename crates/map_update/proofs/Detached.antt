-- Detached subtrees that stay lawful.
use Rattle.std.proofs.Common.{◌≡◌, ℕ, ◌+◌, ◌<◌, ◌≤◌, List, [], ◌∷◌, ◌++◌, length, map, refl, ap, sym, ◌∙◌, arith, subst, length-append, inl, inr}
use Rattle.std.specs.Prelude.{All}
use Rattle.std.proofs.lemmas.List.Elements.{All-append, All-weaker}
use Rattle.std.proofs.lemmas.Option.{same_Some}
use Rattle.map_items.specs.declared.item.Item.{Item}
use Rattle.map_items.specs.declared.op.Op.{Op}
use Rattle.map_items.specs.Contents.{AreContents}
use Rattle.map_items.specs.Ops.{Extends, Fit, numbers_put, replay}
use Rattle.map_items.proofs.Replays.{extends_itself, extends_on, fit_append, numbers_put-append, replay-append}
use Rattle.kd_tree.specs.Shape.{Shape, nodes}
use Rattle.kd_tree.specs.Contents.{contents}
use Rattle.kd_tree.specs.Parts.{at}
use Rattle.kd_tree.specs.Apart.{AreAllApart, IsClear}
use Rattle.kd_tree.specs.declared.path.Side.{Side}
use Rattle.kd_mark.specs.Watch.{IsWatched}
use Rattle.kd_mark.specs.Several.{AreLargeAt, AreSameAt, AreWatched}
use Rattle.kd_update.specs.Detached.{AreEachLawful, AreInSlots, AreLawfulParts, AreLeft, HaveLogRoom, HaveOwnTickets, IsLawfulPart, IsNewTicket, PartAt, paths}

-- one part

pub contents_more : (low next more : ℕ) (m : List Item) → next ≤ more → AreContents low next m → AreContents low more m
contents_more low next more [] le k = tt
contents_more low next more (i ∷ m) le k = (k.0, omega (arith, k.1), k.2, contents_more (i.number + 1) next more m le k.3)

-- a part that was watched through a change is lawful in the new tree, with what was logged
part_watched : (large next more last : ℕ) (t u : Shape) (p : PartAt) (ops : List Op) → IsLawfulPart large next last t p → IsWatched p.path t u ops
    → length (p.log ++ ops) ≤ 65536 → next ≤ more → All (λ n. n < more) (numbers_put ops) → IsLawfulPart large more last u (record p { log = p.log ++ ops })
part_watched large next more last t u p ops k w room le below =
    let same : k.there.node ≡ w.before = same_Some k.there.node w.before (sym k.there.there ∙ w.was) in
    let held : contents w.before ≡ replay p.items p.log = ap contents (sym same) ∙ k.replayed in
    record {
      there = record { node = w.after; there = w.is; size = omega (arith, k.there.size, w.size, ap nodes same) };
      few = room;
      items = contents_more 0 next more p.items le k.items;
      fit = fit_append p.items p.log ops k.fit (subst (λ m. Fit m ops) held w.fit);
      below =
          subst (All (λ n. n < more)) (sym (numbers_put-append p.log ops)) (All-append (λ n. n < more)
          (numbers_put p.log) (numbers_put ops)
          (All-weaker (λ n. n < next) (λ n. n < more) (λ n h. omega (arith, h)) (numbers_put p.log) k.below) below);
      replayed = w.replayed ∙ ap (λ m. replay m ops) held ∙ sym (replay-append p.items p.log ops);
      ticket_from = k.ticket_from;
      ticket_to = k.ticket_to;
    }

-- where the subtree at its path is unchanged, a part is lawful, also with more numbers and tickets
part_same : (large next more last later : ℕ) (t u : Shape) (p : PartAt) → at p.path u ≡ at p.path t → next ≤ more → last ≤ later → IsLawfulPart large next last t p → IsLawfulPart large more later u p
part_same large next more last later t u p same le after k = record {
  there = record { node = k.there.node; there = same ∙ k.there.there; size = k.there.size };
  few = k.few;
  items = contents_more 0 next more p.items le k.items;
  fit = k.fit;
  below = All-weaker (λ n. n < next) (λ n. n < more) (λ n h. omega (arith, h)) (numbers_put p.log) k.below;
  replayed = k.replayed;
  ticket_from = k.ticket_from;
  ticket_to = omega (arith, k.ticket_to);
}

-- several parts

pub each_same : (large next more last later : ℕ) (t u : Shape) (ps : List PartAt) → AreSameAt (paths ps) u t
    → next ≤ more → last ≤ later → AreEachLawful large next last t ps → AreEachLawful large more later u ps
each_same large next more last later t u [] same le after k = tt
each_same large next more last later t u (p ∷ ps) same le after k = (part_same large next more last later t u p same.0 le after k.0, each_same large next more last later t u ps same.1 le after k.1)

-- where more numbers and tickets were given
pub each_more : (large next more last later : ℕ) (t : Shape) (ps : List PartAt) → next ≤ more → last ≤ later → AreEachLawful large next last t ps → AreEachLawful large more later t ps
each_more large next more last later t [] le after k = tt
each_more large next more last later t (p ∷ ps) le after k = (part_same large next more last later t t p refl le after k.0, each_more large next more last later t ps le after k.1)

pub each_large : (large next last : ℕ) (t : Shape) (ps : List PartAt) → AreEachLawful large next last t ps → AreLargeAt large (paths ps) t
each_large large next last t [] k = tt
each_large large next last t (p ∷ ps) k = (k.0.there, each_large large next last t ps k.1)

abbrev pub with_more : (List Side → List Op) → PartAt → PartAt
with_more F p = record p { log = p.log ++ F p.path }

-- the parts, each with what is logged for its path
abbrev pub logged : (List Side → List Op) → List PartAt → List PartAt
logged F ps = map (with_more F) ps

pub paths-logged : (F : List Side → List Op) (ps : List PartAt) → paths (logged F ps) ≡ paths ps
paths-logged F [] = refl
paths-logged F (p ∷ ps) = ap (λ (qs : List (List Side)). p.path ∷ qs) (paths-logged F ps)

-- each log has room for n operations more
abbrev pub HaveLogRoomOf : ℕ → List PartAt → Type 0
HaveLogRoomOf n [] = Unit {0}
HaveLogRoomOf n (p ∷ ps) = (length p.log + n ≤ 65536) × HaveLogRoomOf n ps

pub room_of_two : (ps : List PartAt) → HaveLogRoom ps → HaveLogRoomOf 2 ps
room_of_two [] k = tt
room_of_two (p ∷ ps) k = (k.0, room_of_two ps k.1)

pub each_logged : (large next more last n : ℕ) (F : List Side → List Op) (t u : Shape) (ps : List PartAt)
    → AreEachLawful large next last t ps → AreWatched (λ q. IsWatched q t u (F q)) (paths ps) → HaveLogRoomOf n ps
    → ((q : List Side) → length (F q) ≤ n) → next ≤ more → ((q : List Side) → All (λ n. n < more) (numbers_put (F q))) → AreEachLawful large more last u (logged F ps)
each_logged large next more last n F t u [] k w room few le below = tt
each_logged large next more last n F t u (p ∷ ps) k w room few le below = (
  part_watched large next more last t u p (F p.path) k.0 w.0 (omega (arith, room.0, few p.path, length-append p.log (F p.path))) le (below p.path),
  each_logged large next more last n F t u ps k.1 w.1 room.1 few le below,
)

-- parts that remain

pub left_itself : (ps : List PartAt) → AreLeft ps ps
left_itself [] = refl
left_itself (p ∷ ps) = inr (p.log, ps, refl, extends_itself p.log, left_itself ps)

pub left_none : (ps : List PartAt) → AreLeft ps []
left_none [] = refl
left_none (p ∷ ps) = inl (left_none ps)

pub left_logged : (F : List Side → List Op) (ps : List PartAt) → AreLeft ps (logged F ps)
left_logged F [] = refl
left_logged F (p ∷ ps) = inr (p.log ++ F p.path, logged F ps, refl, (F p.path, refl), left_logged F ps)

-- one is forgotten
pub left_without : (front : List PartAt) (p : PartAt) (back : List PartAt) → AreLeft (front ++ p ∷ back) (front ++ back)
left_without [] p back = inl (left_itself back)
left_without (q ∷ front) p back = inr (q.log, front ++ back, refl, extends_itself q.log, left_without front p back)

left_on : (p : PartAt) (log : List Op) (ps rest rs : List PartAt) → Extends p.log log
    → ((us : List PartAt) → AreLeft rest us → AreLeft ps us) → AreLeft (record p { log = log } ∷ rest) rs
    → AreLeft (p ∷ ps) rs
left_on p log ps rest rs more on (inl m) = inl (on rs m)
left_on p log ps rest rs more on (inr m) = inr (m.0, m.1, m.2, extends_on p.log log m.0 more m.3, on m.1 m.4)

pub left_trans : (ps qs rs : List PartAt) → AreLeft ps qs → AreLeft qs rs → AreLeft ps rs
left_trans [] qs rs k l = subst (λ (xs : List PartAt). AreLeft xs rs) k l
left_trans (p ∷ ps) qs rs (inl k) l = inl (left_trans ps qs rs k l)
left_trans (p ∷ ps) qs rs (inr k) l = left_on p k.0 ps k.1 rs k.3 (λ us m. left_trans ps k.1 us k.4 m) (subst (λ (xs : List PartAt). AreLeft xs rs) k.2 l)

pub left_clear : (path : List Side) (ps qs : List PartAt) → AreLeft ps qs → IsClear path (paths ps) → IsClear path (paths qs)
left_clear path [] qs k clear = subst (λ (xs : List PartAt). IsClear path (paths xs)) (sym k) tt
left_clear path (p ∷ ps) qs (inl k) clear = left_clear path ps qs k clear.1
left_clear path (p ∷ ps) qs (inr k) clear = subst (λ (xs : List PartAt). IsClear path (paths xs)) (sym k.2) (clear.0, left_clear path ps k.1 k.4 clear.1)

left_all_apart : (ps qs : List PartAt) → AreLeft ps qs → AreAllApart (paths ps) → AreAllApart (paths qs)
left_all_apart [] qs k apart = subst (λ (xs : List PartAt). AreAllApart (paths xs)) (sym k) tt
left_all_apart (p ∷ ps) qs (inl k) apart = left_all_apart ps qs k apart.1
left_all_apart (p ∷ ps) qs (inr k) apart = subst (λ (xs : List PartAt). AreAllApart (paths xs)) (sym k.2) (left_clear p.path ps k.1 k.4 apart.0, left_all_apart ps k.1 k.4 apart.1)

left_new : (ticket : ℕ) (ps qs : List PartAt) → AreLeft ps qs → IsNewTicket ticket ps → IsNewTicket ticket qs
left_new ticket [] qs k new = subst (IsNewTicket ticket) (sym k) tt
left_new ticket (p ∷ ps) qs (inl k) new = left_new ticket ps qs k new.1
left_new ticket (p ∷ ps) qs (inr k) new = subst (IsNewTicket ticket) (sym k.2) (new.0, left_new ticket ps k.1 k.4 new.1)

left_tickets : (ps qs : List PartAt) → AreLeft ps qs → HaveOwnTickets ps → HaveOwnTickets qs
left_tickets [] qs k own = subst HaveOwnTickets (sym k) tt
left_tickets (p ∷ ps) qs (inl k) own = left_tickets ps qs k own.1
left_tickets (p ∷ ps) qs (inr k) own = subst HaveOwnTickets (sym k.2) (left_new p.ticket ps k.1 k.4 own.0, left_tickets ps k.1 k.4 own.1)

slots_from : (from more : ℕ) (ps : List PartAt) → from ≤ more → AreInSlots more ps → AreInSlots from ps
slots_from from more [] le k = tt
slots_from from more (p ∷ ps) le k = (omega (arith, k.0), k.1, k.2)

left_slots : (from : ℕ) (ps qs : List PartAt) → AreLeft ps qs → AreInSlots from ps → AreInSlots from qs
left_slots from [] qs k s = subst (AreInSlots from) (sym k) tt
left_slots from (p ∷ ps) qs (inl k) s = slots_from from (p.slot + 1) qs (omega (arith, s.0)) (left_slots (p.slot + 1) ps qs k s.2)
left_slots from (p ∷ ps) qs (inr k) s = subst (AreInSlots from) (sym k.2) (s.0, s.1, left_slots (p.slot + 1) ps k.1 k.4 s.2)

-- what remains is lawful where each of it is
pub left_lawful : (large next more last later : ℕ) (t u : Shape) (ps qs : List PartAt) → AreLeft ps qs
    → AreLawfulParts large next last t ps → AreEachLawful large more later u qs → AreLawfulParts large more later u qs
left_lawful large next more last later t u ps qs k lawful each = record {
  each = each;
  apart = left_all_apart ps qs k lawful.apart;
  slots = left_slots 1 ps qs k lawful.slots;
  tickets = left_tickets ps qs k lawful.tickets;
}

-- one among others

pub each_without : (large next last : ℕ) (t : Shape) (front : List PartAt) (p : PartAt) (back : List PartAt)
    → AreEachLawful large next last t (front ++ p ∷ back) → AreEachLawful large next last t (front ++ back)
each_without large next last t [] p back k = k.1
each_without large next last t (q ∷ front) p back k = (k.0, each_without large next last t front p back k.1)

pub each_at : (large next last : ℕ) (t : Shape) (front : List PartAt) (p : PartAt) (back : List PartAt) → AreEachLawful large next last t (front ++ p ∷ back) → IsLawfulPart large next last t p
each_at large next last t [] p back k = k.0
each_at large next last t (q ∷ front) p back k = each_at large next last t front p back k.1
