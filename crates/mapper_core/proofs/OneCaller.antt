-- What a caller's thread shows of its pass.
use Rattle.std.proofs.Common.{◌≡◌, ℕ, ◌+◌, ◌≤◌, ◌==◌, Bool, true, false, List, [], ◌∷◌, ◌++◌, length, take, Option, Some, None, slice_get, inl, refl, ap, ap₂, sym, ◌∙◌, subst, arith, append_assoc, append-nil, length-append, MatchBool}
use Rattle.std.proofs.lemmas.Bool.Decides.{nat_tests}
use Rattle.std.proofs.lemmas.List.{take-map}
use mathlib.Core.List.{IsPrefix}
use Rattle.map_items.specs.declared.entry.Entry.{Entry}
use Rattle.map_items.specs.declared.update.Update.{Update}
use Rattle.map_items.specs.Fold.{MapAt, fold}
use Rattle.kd_tree.specs.Contents.{contents}
use Rattle.rebuild_parts.specs.History.{updates, entry_by}
use Rattle.rebuild_parts.specs.Seen.{VersionAt}
use Rattle.shown_versions.specs.Marks.{Seen, Grown, Added, keep_if}
use Rattle.shown_versions.specs.Versions.{IsVersionOf, held}
use Rattle.published_map.proofs.Marking.{get_prefix, get_snoc}
use Rattle.scan_log.specs.Commands.{command_update, is_by}
use Rattle.scan_log.specs.declared.command.Command.{Command}
use Rattle.scan_log.specs.declared.command.Command.TheVariants.{Change}
use Rattle.scan_log.specs.declared.reply.Reply.{Reply}
use Rattle.scan_log.specs.declared.reply.Reply.TheVariants as reply
use Rattle.scan_log.specs.Legal.{IsLater}
use Rattle.scan_log.specs.Transcript.{reply_on, reply_to, mark_of}
use Rattle.scan_log.proofs.Serial.{mark_of-reply_on}
use Rattle.mapper_core.specs.Told.{Answers, StandsInHistory}
use Rattle.mapper_core.specs.Mine.{keep_made, updates_by, Mine, Answered, Tried, RanTo, Turned}
use Rattle.mapper_core.proofs.Beginnings.{prefix_self, prefix_trans, prefix_length, take_prefix}
use Rattle.mapper_base.proofs.Passed.{all_taken, reply_take}
use Rattle.mapper_core.proofs.Whose.{keep_append, passed_by}

keep_own : (c : ℕ) (u : Update) (us : List Update) → keep_if (c == c) u us ≡ u ∷ us
keep_own c u us = let is : (c == c) ≡ true = grind (arith, nat_tests) in rw is refl

change_answered : (voxel : ℕ) (p q : Seen) (u : Update) (n : ℕ) → Added p q u n → Answered voxel (Change p.caller u) p q (reply.Done n)
change_answered voxel p q u n a =
    let before : List Entry = a.1.0 in
    let e : Entry = entry_by p.caller u before in
    let is : q.seen ≡ before ++ e ∷ [] = a.1.2 in
    let len : length q.seen ≡ length before + 1 = ap length is ∙ length-append before (e ∷ []) in
    let least = prefix_length p.seen before a.1.1 in
    record {
      caller = a.0;
      seen = subst (λ z. IsPrefix p.seen z) (sym is) (prefix_trans p.seen before (before ++ e ∷ []) a.1.1 (e ∷ [], refl));
      mine = a.2 ∙ ap (λ us. p.mine ++ us) (sym (keep_own p.caller u []));
      mark = a.3;
      told = λ h pre.
          let at : slice_get q.seen (length before) ≡ Some e = subst (λ z. slice_get z (length before) ≡ Some e) (sym is) (get_snoc before e) in
          let k = a.3 in record {
            reply = record { placed = (length before, omega arith, (e, get_prefix q.seen h (length before) e pre at, refl, refl)); told = refl };
            later = omega arith;
          };
    }

-- an update was made, or the map has no room for it
pub change_tried : (voxel : ℕ) (p q : Seen) (u : Update) (n : ℕ) → Added p q u n → Tried voxel (Change p.caller u) p q (Some (reply.Done n))
change_tried voxel p q u n a = change_answered voxel p q u n a

-- what was seen gives a reply at its length, however the history goes on
seen_tells : (voxel : ℕ) (s h : List Entry) (c : Command) → IsPrefix s h → reply_to voxel (updates s) c (length s) ≡ reply_to voxel (updates h) c (length s)
seen_tells voxel s h c pre =
    let early : take (length s) (updates h) ≡ updates s = take-map (λ (e : Entry). e.update) (length s) h ∙ ap updates (take_prefix s h pre) in
    reply_take voxel (length s) (updates s) (updates h) c (all_taken s ∙ sym early)

-- a command that makes no update may be anywhere in a history, and its mark may stay
none_placed : (h : List Entry) (c : Command) (m : ℕ) → command_update c ≡ None → m ≤ length h → StandsInHistory h c m
none_placed h c m none le = rw none le

none_later : (m : ℕ) (c : Command) (n : ℕ) → command_update c ≡ None → m ≤ n → IsLater m c n
none_later m c n none le = rw none le

-- its reply, of what the history leaves, at its length
seen_answered : (voxel : ℕ) (p q : Seen) (c : Command) → command_update c ≡ None → Grown p q → Answered voxel c p q (reply_on (held voxel q.seen) c (length q.seen))
seen_answered voxel p q c none g =
    let m : ℕ = length q.seen in
    let mark : mark_of (reply_on (held voxel q.seen) c m) ≡ m = mark_of-reply_on (held voxel q.seen) c m in
    record {
      caller = g.0;
      seen = g.1;
      mine = g.2 ∙ sym (append-nil p.mine) ∙ ap (λ us. p.mine ++ us) (sym (passed_by p.caller c [] none));
      mark = mark;
      told = λ h pre. record {
        reply = record {
          placed = rw mark (none_placed h c m none (prefix_length q.seen h pre));
          told = rw mark (ap (λ us. reply_on (fold voxel us).items c m) (sym (all_taken q.seen)) ∙ seen_tells voxel q.seen h c pre);
        };
        later = rw mark (none_later (length p.seen) c m none (prefix_length p.seen q.seen g.1));
      };
    }

-- a reply of a version of what was seen, at its length
pub query_answered : (voxel : ℕ) (p q : Seen) (c : Command) (v : VersionAt) → Grown p q → IsVersionOf voxel q.seen v → command_update c ≡ None
    → Answered voxel c p q (reply_on (contents v.tree) c v.len)
query_answered voxel p q c v g shows none =
    let same : reply_on (contents v.tree) c v.len ≡ reply_on (held voxel q.seen) c (length q.seen) = ap₂ (λ is n. reply_on is c n) (ap (λ (m : MapAt). m.items) shows.folded) shows.len in
    subst (λ r. Answered voxel c p q r) (sym same) (seen_answered voxel p q c none g)

-- the command is this caller's
pub change_by : (x caller : ℕ) (u : Update) → is_by x (Change caller u) ≡ true → Change caller u ≡ Change x u
change_by x caller u is = let same : caller ≡ x = grind (arith, nat_tests) in ap (λ z. Change z u) same

pub ran_start : (voxel : ℕ) (cs : List Command) (p : Seen) → RanTo voxel cs cs p p []
ran_start voxel cs p = record { caller = refl; seen = prefix_self p.seen; mine = refl; told = λ h pre rest high m. m }

mine_own : (voxel : ℕ) (h : List Entry) (x : ℕ) (c : Command) (cs : List Command) (low : ℕ) (r : Reply) (rest : List Reply) (high : ℕ) → is_by x c ≡ true
    → Answers voxel h low c r → Mine voxel h x cs (mark_of r) rest high → Mine voxel h x (c ∷ cs) low (r ∷ rest) high
mine_own voxel h x c cs low r rest high is a m = rw is (r, rest, refl, a, m)

pub mine_other : (voxel : ℕ) (h : List Entry) (x : ℕ) (c : Command) (cs : List Command) (low : ℕ) (rs : List Reply) (high : ℕ) → is_by x c ≡ false
    → Mine voxel h x cs low rs high → Mine voxel h x (c ∷ cs) low rs high
mine_other voxel h x c cs low rs high is m = rw is m

pub updates_own : (x : ℕ) (c : Command) (cs : List Command) → updates_by x (c ∷ cs) ≡ updates_by x (c ∷ []) ++ updates_by x cs
updates_own x c cs = keep_append (is_by x c) (command_update c) [] (updates_by x cs)

updates_other : (x : ℕ) (c : Command) (cs : List Command) → is_by x c ≡ false → updates_by x (c ∷ cs) ≡ updates_by x cs
updates_other x c cs is = rw is (skipped (command_update c) (updates_by x cs))
  where
    skipped : (made : Option Update) (us : List Update) → keep_made false made us ≡ us
    skipped (Some u) us = refl
    skipped None us = refl

pub ran_own : (voxel : ℕ) (cs left : List Command) (c : Command) (p q s : Seen) (rs : List Reply) (r : Reply)
    → RanTo voxel cs (c ∷ left) p q rs → is_by q.caller c ≡ true → Answered voxel c q s r → RanTo voxel cs left p s (rs ++ r ∷ [])
ran_own voxel cs left c p q s rs r ran by a =
    let is : is_by p.caller c ≡ true = subst (λ z. is_by z c ≡ true) ran.caller by in
    let us : s.mine ≡ q.mine ++ updates_by p.caller (c ∷ []) = a.mine ∙ ap (λ z. q.mine ++ updates_by z (c ∷ [])) ran.caller in
    record {
      caller = a.caller ∙ ran.caller;
      seen = prefix_trans p.seen q.seen s.seen ran.seen a.seen;
      mine = ap (λ z. z ++ updates_by p.caller left) us ∙ append_assoc q.mine (updates_by p.caller (c ∷ [])) (updates_by p.caller left)
          ∙ ap (λ z. q.mine ++ z) (sym (updates_own p.caller c left)) ∙ ran.mine;
      told = λ h pre rest high m.
          let less : IsPrefix q.seen h = prefix_trans q.seen s.seen h a.seen pre in
          let more : Mine voxel h p.caller left (mark_of r) rest high = subst (λ z. Mine voxel h p.caller left z rest high) (sym a.mark) m in
          let own : Mine voxel h p.caller (c ∷ left) (length q.seen) (r ∷ rest) high = mine_own voxel h p.caller c left (length q.seen) r rest high is (a.told h pre) more in
          subst (λ z. Mine voxel h p.caller cs (length p.seen) z high) (sym (append_assoc rs (r ∷ []) rest)) (ran.told h less (r ∷ rest) high own);
    }

pub ran_other : (voxel : ℕ) (cs left : List Command) (c : Command) (p q : Seen) (rs : List Reply)
    → RanTo voxel cs (c ∷ left) p q rs → is_by q.caller c ≡ false → RanTo voxel cs left p q rs
ran_other voxel cs left c p q rs ran by =
    let is : is_by p.caller c ≡ false = subst (λ z. is_by z c ≡ false) ran.caller by in
    record {
      caller = ran.caller;
      seen = ran.seen;
      mine = ap (λ z. q.mine ++ z) (sym (updates_other p.caller c left is)) ∙ ran.mine;
      told = λ h pre rest high m. ran.told h pre rest high (mine_other voxel h p.caller c left (length q.seen) rest high is m);
    }

pub ran_end : (voxel : ℕ) (cs left : List Command) (p q : Seen) (rs : List Reply) → RanTo voxel cs left p q rs → left ≡ [] → Turned voxel cs p q rs
ran_end voxel cs left p q rs ran none =
    let all : RanTo voxel cs [] p q rs = subst (λ z. RanTo voxel cs z p q rs) none ran in
    inl (record {
      caller = all.caller;
      seen = all.seen;
      mine = sym (append-nil q.mine) ∙ all.mine;
      told = λ h pre.
          subst (λ z. Mine voxel h p.caller cs (length p.seen) z (length q.seen)) (append-nil rs) (all.told h pre [] (length q.seen) (refl, omega arith));
    })

-- the next command is this caller's, whose reply comes first
pub mine_next : (voxel : ℕ) (h : List Entry) (x : ℕ) (c : Command) (cs : List Command) (low : ℕ) (rs : List Reply) (high : ℕ) → is_by x c ≡ true → Mine voxel h x (c ∷ cs) low rs high
    → (r : Reply) × (rest : List Reply) × (rs ≡ r ∷ rest) × Answers voxel h low c r × Mine voxel h x cs (mark_of r) rest high
mine_next voxel h x c cs low rs high is m =
    let P : Bool
    → Type 0 =
    λ b. MatchBool b ((r : Reply) × (rest : List Reply) × (rs ≡ r ∷ rest) × Answers voxel h low c r × Mine voxel h
    x cs (mark_of r) rest high) (Mine voxel h x cs low rs high) in
    subst P is m

pub mine_skip : (voxel : ℕ) (h : List Entry) (x : ℕ) (c : Command) (cs : List Command) (low : ℕ) (rs : List Reply) (high : ℕ) → is_by x c ≡ false
    → Mine voxel h x (c ∷ cs) low rs high → Mine voxel h x cs low rs high
mine_skip voxel h x c cs low rs high is m =
    let P : Bool
    → Type 0 =
    λ b. MatchBool b ((r : Reply) × (rest : List Reply) × (rs ≡ r ∷ rest) × Answers voxel h low c r × Mine voxel h
    x cs (mark_of r) rest high) (Mine voxel h x cs low rs high) in
    subst P is m
