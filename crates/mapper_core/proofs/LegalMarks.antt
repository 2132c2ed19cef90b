-- Where callers got such replies, and the history has the script's updates alone, the marks are legal, and the replies those under them.
use Rattle.std.proofs.Common.{◌≡◌, ℕ, ◌+◌, ◌<◌, ◌≤◌, ◌≢◌, Bool, true, false, List, [], ◌∷◌, ◌++◌, length, drop, drop_of_length-le, map, Option, Some, None, inl, inr, slice_get, refl, ap, sym, ◌∙◌, subst, arith, nat_lt, add-one}
use Rattle.std.proofs.lemmas.Bool.Decides.{nat_tests}
use Rattle.std.specs.Prelude.{MatchOption}
use Rattle.std.specs.List.{AllByRecursion}
use Rattle.std.specs.Option.{option_to_list}
use Rattle.map_items.specs.declared.entry.Entry.{Entry}
use Rattle.map_items.specs.declared.update.Update.{Update}
use Rattle.rebuild_parts.specs.History.{updates}
use Rattle.published_map.proofs.Marking.{get_length}
use Rattle.scan_log.specs.Commands.{Concerns, command_caller, command_update, updates_made}
use Rattle.scan_log.specs.declared.command.Command.{Command}
use Rattle.scan_log.specs.declared.command.Command.TheVariants.{Change}
use Rattle.scan_log.specs.declared.reply.Reply.{Reply}
use Rattle.scan_log.specs.Scripts.{ScriptAt}
use Rattle.scan_log.specs.Legal.{numbers_from, AllFollow, AreInOrder, IsLegal, AreLegalReplies}
use Rattle.scan_log.specs.Transcript.{updates_in, put_if, put_update, marked_updates, totals_reply, replies_from, replies, mark_of}
use Rattle.mapper_core.specs.Told.{HasPlace, StandsInHistory, IsReply, Answers, raised, Told}
use Rattle.mapper_core.proofs.Beginnings.{drop_get}
use Rattle.scan_log.proofs.Whose.{anyone, anyone_concerned, change_or_none, concerns_for, may_follow, later_less, later_le}
use Rattle.mapper_core.proofs.Whose.{raised_own, raises}

-- the marks before a command's reply aren't above it
pub told_raises : (voxel : ℕ) (h : List Entry) (lows : ℕ → ℕ) (c : Command) (r : Reply) → ((x : ℕ) → Concerns x c → Answers voxel h (lows x) c r)
    → (x : ℕ) → lows x ≤ raised lows c (mark_of r) x
told_raises voxel h lows c r a x = raises lows c (mark_of r) x (λ is. later_le (lows x) c (mark_of r) (a x is).later)

-- what comes after a command
pub told_follows : (voxel : ℕ) (h : List Entry) (lows : ℕ → ℕ) (cs : List Command) (rs : List Reply) (highs : ℕ → ℕ) (ends : List ℕ) (c : Command) (m : ℕ)
    → Told voxel h lows cs rs highs → ((x : ℕ) → Concerns x c → m ≤ lows x) → AllFollow c m cs (map mark_of rs ++ ends)
told_follows voxel h lows [] rs highs ends c m t le = tt
told_follows voxel h lows (d ∷ cs) [] highs ends c m t le = absurd t
told_follows voxel h lows (d ∷ cs) (r ∷ rs) highs ends c m t le = (
  may_follow c m d (mark_of r) (λ x asked is. later_less m (lows x) d (mark_of r) (le x asked) (t.0 x is).later),
  told_follows voxel h (raised lows d (mark_of r)) cs rs highs ends c m t.1 (λ x asked.
      let a = le x asked in let b = told_raises voxel h lows d r t.0 x in omega arith),
)

-- the marks are in order
pub in_order : (voxel : ℕ) (h : List Entry) (lows : ℕ → ℕ) (cs : List Command) (rs : List Reply) (highs : ℕ → ℕ) (ends : List ℕ)
    → Told voxel h lows cs rs highs → AreInOrder cs (map mark_of rs ++ ends)
in_order voxel h lows [] rs highs ends t = tt
in_order voxel h lows (c ∷ cs) [] highs ends t = absurd t
in_order voxel h lows (c ∷ cs) (r ∷ rs) highs ends t = (
  told_follows voxel h (raised lows c (mark_of r)) cs rs highs ends c (mark_of r) t.1 (λ x is.
      let e = raised_own lows c (mark_of r) x (concerns_for x c is) in omega arith),
  in_order voxel h (raised lows c (mark_of r)) cs rs highs ends t.1,
)

-- marks that rise from above low on
abbrev Rising : ℕ → List (ℕ × Update) → Type 0
Rising low [] = Unit {0}
Rising low (h ∷ hs) = (low < h.0) × Rising h.0 hs

put_rising_by : (low m : ℕ) (u : Update) (g : ℕ × Update) (hs : List (ℕ × Update)) → low < m → (low < g.0) → Rising g.0 hs → g.0 ≢ m
    → (g.0 < m → Rising g.0 (put_update m u hs)) → (b : Bool) → nat_lt g.0 m ≡ b → Rising low (put_update m u (g ∷ hs))
put_rising_by low m u g hs lt first rest other more true is = let k : g.0 < m = grind (arith, nat_tests) in rw is (first, more k)
put_rising_by low m u g hs lt first rest other more false is = let k : m < g.0 = grind (arith, nat_tests) in rw is (lt, (k, rest))

-- a mark that isn't there is put in its place
put_rising : (low m : ℕ) (u : Update) (hs : List (ℕ × Update)) → low < m → Rising low hs → AllByRecursion (λ g. g.0 ≢ m) hs → Rising low (put_update m u hs)
put_rising low m u [] lt r other = (lt, tt)
put_rising low m u (g ∷ hs) lt r other =
    put_rising_by low m u g hs lt r.0 r.1 other.0 (λ k. put_rising g.0 m u hs k r.1 other.1) (nat_lt g.0 m) refl

put_all_by : (P : ℕ × Update → Type 0) (m : ℕ) (u : Update) (g : ℕ × Update) (hs : List (ℕ × Update)) → P (m, u) → P g → AllByRecursion P hs
    → AllByRecursion P (put_update m u hs) → (b : Bool) → nat_lt g.0 m ≡ b → AllByRecursion P (put_update m u (g ∷ hs))
put_all_by P m u g hs p q r more true is = rw is (q, more)
put_all_by P m u g hs p q r more false is = rw is (p, (q, r))

put_all : (P : ℕ × Update → Type 0) (m : ℕ) (u : Update) (hs : List (ℕ × Update)) → P (m, u) → AllByRecursion P hs → AllByRecursion P (put_update m u hs)
put_all P m u [] p r = (p, tt)
put_all P m u (g ∷ hs) p r = put_all_by P m u g hs p r.0 r.1 (put_all P m u hs p r.1) (nat_lt g.0 m) refl

put_length_by : (m : ℕ) (u : Update) (g : ℕ × Update) (hs : List (ℕ × Update)) → length (put_update m u hs) ≡ 1 + length hs
    → (b : Bool) → nat_lt g.0 m ≡ b → length (put_update m u (g ∷ hs)) ≡ 1 + length (g ∷ hs)
put_length_by m u g hs more true is = rw is (omega (arith, more))
put_length_by m u g hs more false is = rw is (omega arith)

put_length : (m : ℕ) (u : Update) (hs : List (ℕ × Update)) → length (put_update m u hs) ≡ 1 + length hs
put_length m u [] = omega arith
put_length m u (g ∷ hs) = put_length_by m u g hs (put_length m u hs) (nat_lt g.0 m) refl

-- the update is in the history at the index of its mark
abbrev StandsAt : List Entry → ℕ × Update → Type 0
StandsAt h g = (k : ℕ) × (g.0 ≡ k + 1) × ((e : Entry) × (slice_get h k ≡ Some e) × (e.update ≡ g.1))

-- at one index is one caller's entry
same_caller : (h : List Entry) (m x y : ℕ) (u v : Update) → StandsInHistory h (Change x u) m → StandsInHistory h (Change y v) m → y ≡ x
same_caller h m x y u v a b =
    let k : a.0 ≡ b.0 = (let p = a.1 in let q = b.1 in omega arith) in
    let e : a.2.0 ≡ b.2.0 = (let p : slice_get h a.0 ≡ Some a.2.0 = a.2.1 in let q : slice_get h b.0 ≡ Some b.2.0 = b.2.1 in cc (p, q, k)) in
    let p : a.2.0.caller ≡ x = a.2.2 in let q : b.2.0.caller ≡ y = b.2.2 in cc (p, q, e)

put_if_all : (P : ℕ × Update → Type 0) (m : ℕ) (made : Option Update) (hs : List (ℕ × Update)) → ((u : Update) → made ≡ Some u → P (m, u)) → AllByRecursion P hs
    → AllByRecursion P (put_if m made hs)
put_if_all P m (Some u) hs p r = put_all P m u hs (p u refl) r
put_if_all P m None hs p r = r

-- an update with a later reply has another mark
other_change : (voxel : ℕ) (h : List Entry) (lows : ℕ → ℕ) (r : Reply) (x m : ℕ) (u : Update) (y : ℕ) (v : Update)
    → ((z : ℕ) → Concerns z (Change y v) → Answers voxel h (lows z) (Change y v) r) → m ≤ lows x → StandsInHistory h (Change x u) m → mark_of r ≢ m
other_change voxel h lows r x m u y v t le at =
    let a : Answers voxel h (lows y) (Change y v) r = t y refl in
    let k : lows y < mark_of r = a.later in
    λ same.
    let by : y ≡ x = same_caller h m x y u v at (subst (λ z. StandsInHistory h (Change y v) z) same a.reply.placed) in
    let j : lows y ≡ lows x = ap lows by in let i : mark_of r ≡ m = same in absurd (omega arith)

other_mark : (voxel : ℕ) (h : List Entry) (lows : ℕ → ℕ) (d : Command) (r : Reply) (x m : ℕ) (u v : Update) → command_update d ≡ Some v
    → ((z : ℕ) → Concerns z d → Answers voxel h (lows z) d r) → m ≤ lows x → StandsInHistory h (Change x u) m → mark_of r ≢ m
other_mark voxel h lows d r x m u v made t le at = elim (change_or_none d) [
  | inl is ↦ other_change voxel h lows r x m u is.0 is.1 (subst (λ c. (z : ℕ) → Concerns z c → Answers voxel h (lows z) c r) is.2 t) le at
  | inr none ↦ absurd (cc (made, none))
]

-- no later update has the mark of an earlier one
no_other : (voxel : ℕ) (h : List Entry) (lows : ℕ → ℕ) (cs : List Command) (rs : List Reply) (highs : ℕ → ℕ) (ends : List ℕ) (x m : ℕ) (u : Update)
    → Told voxel h lows cs rs highs → m ≤ lows x → StandsInHistory h (Change x u) m → AllByRecursion (λ g. g.0 ≢ m) (marked_updates cs (map mark_of rs ++ ends))
no_other voxel h lows [] rs highs ends x m u t le at = tt
no_other voxel h lows (d ∷ cs) [] highs ends x m u t le at = absurd t
no_other voxel h lows (d ∷ cs) (r ∷ rs) highs ends x m u t le at =
    let up = told_raises voxel h lows d r t.0 x in
    put_if_all (λ g. g.0 ≢ m) (mark_of r) (command_update d) (marked_updates cs (map mark_of rs ++ ends))
    (λ v made. other_mark voxel h lows d r x m u v made t.0 le at)
    (no_other voxel h (raised lows d (mark_of r)) cs rs highs ends x m u t.1 (omega arith) at)

-- the marks of the updates rise, each update is at its place, and there are as many as updates
record Placed (h : List Entry) (n : ℕ) (hs : List (ℕ × Update)) : Type 0 where
  pub rising : Rising 0 hs
  pub stands : AllByRecursion (StandsAt h) hs
  pub many : length hs ≡ n

placed_change : (voxel : ℕ) (h : List Entry) (lows : ℕ → ℕ) (cs : List Command) (rs : List Reply) (highs : ℕ → ℕ) (ends : List ℕ) (r : Reply) (x : ℕ) (u : Update)
    → Told voxel h lows (Change x u ∷ cs) (r ∷ rs) highs → Placed h (updates_in cs) (marked_updates cs (map mark_of rs ++ ends))
    → Placed h (updates_in (Change x u ∷ cs)) (put_update (mark_of r) u (marked_updates cs (map mark_of rs ++ ends)))
placed_change voxel h lows cs rs highs ends r x u t p =
    let a : Answers voxel h (lows x) (Change x u) r = t.0 x refl in
    let at : StandsInHistory h (Change x u) (mark_of r) = a.reply.placed in
    let hs = marked_updates cs (map mark_of rs ++ ends) in
    let k : lows x < mark_of r = a.later in
    let own = raised_own lows (Change x u) (mark_of r) x (concerns_for x (Change x u) refl) in
    record {
      rising = put_rising 0 (mark_of r) u hs (omega arith) p.rising
          (no_other voxel h (raised lows (Change x u) (mark_of r)) cs rs highs ends x (mark_of r) u t.1 (omega arith) at);
      stands = put_all (StandsAt h) (mark_of r) u hs (at.0, at.1, (at.2.0, at.2.1, at.2.3)) p.stands;
      many = put_length (mark_of r) u hs ∙ (let j = p.many in omega arith);
    }

placed : (voxel : ℕ) (h : List Entry) (lows : ℕ → ℕ) (cs : List Command) (rs : List Reply) (highs : ℕ → ℕ) (ends : List ℕ)
    → Told voxel h lows cs rs highs → Placed h (updates_in cs) (marked_updates cs (map mark_of rs ++ ends))
placed voxel h lows [] rs highs ends t = record { rising = tt; stands = tt; many = refl }
placed voxel h lows (d ∷ cs) [] highs ends t = absurd t
placed voxel h lows (d ∷ cs) (r ∷ rs) highs ends t =
    let hs = marked_updates cs (map mark_of rs ++ ends) in
    let p : Placed h (updates_in cs) hs = placed voxel h (raised lows d (mark_of r)) cs rs highs ends t.1 in
    elim (change_or_none d) [
      | inl is ↦
          subst (λ c. Placed h (updates_in (c ∷ cs)) (put_if (mark_of r) (command_update c) hs)) (sym is.2)
          (placed_change voxel h lows cs rs highs ends r is.0 is.1 (subst (λ c. Told voxel h lows (c ∷ cs) (r ∷ rs) highs) is.2 t) p)
      | inr none ↦ subst (λ made. Placed h (length (option_to_list made ++ updates_made cs)) (put_if (mark_of r) made hs)) (sym none) p
    ]

stands_below : (h : List Entry) (g : ℕ × Update) → StandsAt h g → g.0 ≤ length h
stands_below h g p = let k = get_length h p.0 p.2.0 p.2.1 in let e = p.1 in omega arith

-- rising marks above m are at most as many as the entries after m
rising_most : (h : List Entry) (m : ℕ) (hs : List (ℕ × Update)) → Rising m hs → AllByRecursion (StandsAt h) hs → m ≤ length h → m + length hs ≤ length h
rising_most h m [] r p le = omega arith
rising_most h m (g ∷ hs) r p le = let a : m < g.0 = r.0 in let b = rising_most h g.0 hs r.1 p.1 (stands_below h g p.0) in omega arith

-- the updates with their places
rising_whole : (h : List Entry) (low : ℕ) (hs : List (ℕ × Update)) → Rising low hs → AllByRecursion (StandsAt h) hs → low + length hs ≡ length h
    → (map (λ g. g.0) hs ≡ numbers_from (low + 1) (length hs)) × (map (λ g. g.1) hs ≡ updates (drop low h))
rising_whole h low [] r p is = let e : drop low h ≡ [] = drop_of_length-le h (omega (arith, is)) in (refl, rw e refl)
rising_whole h low (g ∷ hs) r p is =
    let above : low < g.0 = r.0 in
    let most = rising_most h g.0 hs r.1 p.1 (stands_below h g p.0) in
    let next : g.0 ≡ low + 1 = omega arith in
    let place : p.0.0 ≡ low = (let k = p.0.1 in omega arith) in
    let rest = rising_whole h g.0 hs r.1 p.1 (omega arith) in
    let at : slice_get h low ≡ Some p.0.2.0 = subst (λ z. slice_get h z ≡ Some p.0.2.0) place p.0.2.1 in
    let here : drop low h ≡ p.0.2.0 ∷ drop (low + 1) h = rw add-one (drop_get h low p.0.2.0 at) in
    let marks : map (λ g. g.0) hs ≡ numbers_from (low + 1 + 1) (length hs) = subst (λ z. map (λ g. g.0) hs ≡ numbers_from (z + 1) (length hs)) next rest.0 in
    let later : map (λ g. g.1) hs ≡ updates (drop (low + 1) h) = subst (λ z. map (λ g. g.1) hs ≡ updates (drop z h)) next rest.1 in
    let same : p.0.2.0.update ≡ g.1 = p.0.2.2 in (
      cc (next, marks),
      rw here (cc (later, same)),
    )

below_by : (h : List Entry) (made : Option Update) (owner : Option ℕ) (m : ℕ) → MatchOption made (m ≤ length h) (HasPlace h owner m) → m ≤ length h
below_by h (Some u) owner m a = let k = get_length h a.0 a.2.0 a.2.1 in let e = a.1 in omega arith
below_by h None owner m a = a

pub placed_below : (h : List Entry) (c : Command) (m : ℕ) → StandsInHistory h c m → m ≤ length h
placed_below h c m a = below_by h (command_update c) (command_caller c) m a

-- the replies as a whole: those of the transcript over the history, marks that it has, one reply for each command
record Whole (voxel : ℕ) (h : List Entry) (n : ℕ) (cs : List Command) (rs : List Reply) (ending : Reply) : Type 0 where
  pub told : rs ++ ending ∷ [] ≡ replies_from voxel (updates h) cs (map mark_of rs ++ mark_of ending ∷ [])
  pub below : AllByRecursion (λ m. m ≤ n) (map mark_of rs ++ mark_of ending ∷ [])
  pub many : length (map mark_of rs ++ mark_of ending ∷ []) ≡ length cs + 1
  pub at_end : slice_get (map mark_of rs ++ mark_of ending ∷ []) (length cs) ≡ Some (mark_of ending)

whole : (voxel : ℕ) (h : List Entry) (n : ℕ) (lows : ℕ → ℕ) (cs : List Command) (rs : List Reply) (highs : ℕ → ℕ) (ending : Reply)
    → Told voxel h lows cs rs highs → n ≡ length h → ending ≡ totals_reply voxel (updates h) n → Whole voxel h n cs rs ending
whole voxel h n lows [] [] highs ending t is total =
    subst (λ z. Whole voxel h n [] [] z) (sym total) (record { told = refl; below = (omega arith, tt); many = refl; at_end = refl })
whole voxel h n lows [] (r ∷ rs) highs ending t is total = absurd t
whole voxel h n lows (c ∷ cs) [] highs ending t is total = absurd t
whole voxel h n lows (c ∷ cs) (r ∷ rs) highs ending t is total =
    let w = whole voxel h n (raised lows c (mark_of r)) cs rs highs ending t.1 is total in
    let a : IsReply voxel h c r = (t.0 (anyone c) (anyone_concerned c)).reply in
    record {
      told = (let e = a.told in let all = w.told in cc (e, all));
      below = ((let k = placed_below h c (mark_of r) a.placed in omega arith), w.below);
      many = omega (arith, w.many);
      at_end = w.at_end;
    }

map_last : {A B : Type 0} (f : A → B) (xs : List A) (x : A) → map f (xs ++ x ∷ []) ≡ map f xs ++ f x ∷ []
map_last f [] x = refl
map_last f (y ∷ xs) x = ap (λ ys. f y ∷ ys) (map_last f xs x)

-- What callers got is the transcript under the marks that the replies carry, which are legal
pub told_is_legal : (s : ScriptAt) (h : List Entry) (lows : ℕ → ℕ) (rs : List Reply) (highs : ℕ → ℕ) (ending : Reply)
    → Told s.sizes.voxel h lows s.commands rs highs → updates_in s.commands ≡ length h → ending ≡ totals_reply s.sizes.voxel (updates h) (length h)
    → AreLegalReplies s (rs ++ ending ∷ [])
told_is_legal s h lows rs highs ending t is total =
    let voxel = s.sizes.voxel in
    let cs = s.commands in
    let n = updates_in cs in
    let last : mark_of ending ≡ n = ap mark_of total ∙ sym is in
    let w = whole voxel h n lows cs rs highs ending t is (total ∙ ap (totals_reply voxel (updates h)) (sym is)) in
    let p = placed voxel h lows cs rs highs (mark_of ending ∷ []) t in
    let all = rising_whole h 0 (marked_updates cs (map mark_of rs ++ mark_of ending ∷ [])) p.rising p.stands (let j = p.many in omega arith) in
    let P : List ℕ → Type 0 = λ marks. IsLegal cs marks × (rs ++ ending ∷ [] ≡ replies s marks) in
    let r = subst P (sym (map_last mark_of rs ending)) (
      record {
        many = w.many;
        each_once = all.0 ∙ ap (numbers_from 1) p.many;
        in_order = in_order voxel h lows cs rs highs (mark_of ending ∷ []) t;
        none_above = w.below;
        at_end = w.at_end ∙ ap (λ z. Some z) last;
      },
      w.told ∙ ap (λ us. replies_from voxel us cs (map mark_of rs ++ mark_of ending ∷ [])) (sym all.1),
    ) in
    record { legal = r.0; replies = r.1 }
