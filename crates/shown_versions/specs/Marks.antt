-- What a caller's pass has seen, and which entries of a history are a caller's.
use Rattle.std.specs.Prelude.{◌≡◌, ℕ, ◌+◌, ◌≤◌, ◌==◌, Bool, true, false, List, [], ◌∷◌, ◌++◌, length, Option, Some, None, slice_get}
use mathlib.Core.List.{IsPrefix}
use Rattle.map_items.specs.declared.entry.Entry.{Entry}
use Rattle.map_items.specs.declared.update.Update.{Update}
use Rattle.rebuild_parts.specs.History.{entry_by}

-- the entry's update as a list, or an empty list where there is no entry
abbrev pub update_in : Option Entry → List Update
update_in (Some e) = e.update ∷ []
update_in None = []

-- the updates at these indices, from 0
abbrev pub at_places : List Entry → List ℕ → List Update
at_places h [] = []
at_places h (k ∷ ks) = update_in (slice_get h k) ++ at_places h ks

-- the indices rise from low on, and at each is an entry of the caller
abbrev pub AreOwnPlaces : ℕ → List Entry → ℕ → List ℕ → Type 0
AreOwnPlaces c h low [] = Unit {0}
AreOwnPlaces c h low (k ∷ ks) = (low ≤ k) × ((e : Entry) × (slice_get h k ≡ Some e) × (e.caller ≡ c)) × AreOwnPlaces c h (k + 1) ks

-- what contracts see of a pass: its caller, a prefix of the one history, and the updates that its caller has made by it
pub record Seen : Type 0 where
  pub caller : ℕ
  pub seen : List Entry
  pub mine : List Update

-- the pass has seen more, and made no update
abbrev pub Grown : Seen → Seen → Type 0
Grown p q = (q.caller ≡ p.caller) × IsPrefix p.seen q.seen × (q.mine ≡ p.mine)

-- the pass has made this update, which is the last entry that it has seen
abbrev pub Added : Seen → Seen → Update → ℕ → Type 0
Added p q u n =
    (q.caller ≡ p.caller) × ((before : List Entry) × IsPrefix p.seen before × (q.seen ≡ before ++ entry_by p.caller u before ∷ []))
    × (q.mine ≡ p.mine ++ u ∷ []) × (n ≡ length q.seen)

-- a pass that has seen nothing
abbrev pub seen_by_new : ℕ → Seen
seen_by_new c = record { caller = c; seen = []; mine = [] }

-- the update before the others, or these alone where the test fails
abbrev pub keep_if : Bool → Update → List Update → List Update
keep_if true u us = u ∷ us
keep_if false u us = us

-- the updates of one caller, in order
abbrev pub own_updates : ℕ → List Entry → List Update
own_updates c [] = []
own_updates c (e ∷ es) = keep_if (e.caller == c) e.update (own_updates c es)

-- 1 where the test passes, and else 0
abbrev pub one_if : Bool → ℕ
one_if true = 1
one_if false = 0

-- how often x is in the list
abbrev pub times_listed : ℕ → List ℕ → ℕ
times_listed x [] = 0
times_listed x (c ∷ cs) = one_if (x == c) + times_listed x cs

-- no caller comes twice
abbrev pub IsDistinct : List ℕ → Type 0
IsDistinct [] = Unit {0}
IsDistinct (c ∷ cs) = (times_listed c cs ≡ 0) × IsDistinct cs

-- every entry is of one of these callers
abbrev pub AllOf : List ℕ → List Entry → Type 0
AllOf cs [] = Unit {0}
AllOf cs (e ∷ es) = (times_listed e.caller cs ≡ 1) × AllOf cs es

-- the callers of the passes, in the order of these
abbrev pub callers_of : List Seen → List ℕ
callers_of [] = []
callers_of (p ∷ ps) = p.caller ∷ callers_of ps

-- how many updates these passes have made
abbrev pub made_by : List Seen → ℕ
made_by [] = 0
made_by (p ∷ ps) = length p.mine + made_by ps

-- each pass has seen the whole history, and made exactly its caller's updates there
abbrev pub AllMet : List Entry → List Seen → Type 0
AllMet h [] = Unit {0}
AllMet h (p ∷ ps) = (p.seen ≡ h) × (p.mine ≡ own_updates p.caller h) × AllMet h ps

-- the pass has marks that show which updates it has made
abbrev pub IsMade : List Entry → Seen → Type 0
IsMade h p = (ks : List ℕ) × AreOwnPlaces p.caller h 0 ks × (p.mine ≡ at_places h ks)

-- each pass has marks that show which updates it has made
abbrev pub AllMade : List Entry → List Seen → Type 0
AllMade h [] = Unit {0}
AllMade h (p ∷ ps) = IsMade h p × AllMade h ps

-- the passes have seen no more than the history
abbrev pub AllBegin : List Entry → List Seen → Type 0
AllBegin h [] = Unit {0}
AllBegin h (p ∷ ps) = IsPrefix p.seen h × AllBegin h ps

-- the passes have seen the whole history
abbrev pub AllSeen : List Entry → List Seen → Type 0
AllSeen h [] = Unit {0}
AllSeen h (p ∷ ps) = (p.seen ≡ h) × AllSeen h ps

-- each pass has seen more, and made no update
abbrev pub AllGrown : List Seen → List Seen → Type 0
AllGrown [] [] = Unit {0}
AllGrown [] (q ∷ qs) = ⊥
AllGrown (p ∷ ps) [] = ⊥
AllGrown (p ∷ ps) (q ∷ qs) = Grown p q × AllGrown ps qs

-- all passes have met: they have seen one history, in which each has made exactly its caller's updates, and there are no others
abbrev pub AllMetNow : List Seen → List Seen → Type 0
AllMetNow ps qs = AllGrown ps qs × ((h : List Entry) × AllMet h qs × AllOf (callers_of qs) h)

-- each pass made exactly its caller's updates
abbrev pub AllOwn : List Entry → List Seen → Type 0
AllOwn h [] = Unit {0}
AllOwn h (p ∷ ps) = (p.mine ≡ own_updates p.caller h) × AllOwn h ps

-- each pass had seen a prefix of the history, in which it made exactly its caller's updates, and there are no others
abbrev pub AllEnded : List Entry → List Seen → Type 0
AllEnded h ps = AllBegin h ps × AllOwn h ps × AllOf (callers_of ps) h
