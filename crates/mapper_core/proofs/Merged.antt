-- The replies of all callers, put in the log's order.
use Rattle.std.proofs.Common.{◌≡◌, ℕ, zero, suc, ◌+◌, ◌<◌, ◌≤◌, ◌==◌, Bool, true, false, List, [], ◌∷◌, ◌++◌, length, set, Option, Some, None, slice_get, slice_index_or, refl, ap, sym, ◌∙◌, subst, arith, append_assoc, append-nil}
use Rattle.std.proofs.lemmas.Bool.Decides.{nat_tests}
use Rattle.std.specs.Prelude.{IsSomeAnd}
use Rattle.std.specs.List.{AllByRecursion}
use Rattle.map_items.specs.declared.entry.Entry.{Entry}
use Rattle.scan_log.specs.Commands.{IsBy, command_caller, is_by, is_for}
use Rattle.scan_log.specs.declared.command.Command.{Command}
use Rattle.scan_log.specs.declared.reply.Reply.{Reply}
use Rattle.scan_log.specs.Transcript.{mark_of}
use Rattle.mapper_core.specs.Told.{Answers, raised, Told}
use Rattle.mapper_core.specs.Mine.{Mine}
use Rattle.mapper_core.specs.Meetings.{IsOfCallers, AllMine, AllBelow, AreReplies, HasReply, Takes, MergedTo}
use Rattle.mapper_core.proofs.OneCaller.{mine_next, mine_skip}
use Rattle.scan_log.proofs.Whose.{later_le, is_by_own, is_by_other, for_own, for_other, concerns_by}
use Rattle.mapper_core.proofs.Whose.{raised_own, raised_other}

pub merged_start : (voxel : ℕ) (cs : List Command) (lists : List (List Reply)) (rs : List Reply) → MergedTo voxel cs cs lists lists rs rs
merged_start voxel cs lists rs h lows high mine below =
    record { now = lows; below = below; mine = mine; replies = []; added = sym (append-nil rs); told = λ rest highs t. t }

mine_low_by : (voxel : ℕ) (h : List Entry) (x : ℕ) (c : Command) (cs : List Command) (low : ℕ) (rs : List Reply) (high : ℕ)
    → ((l : ℕ) (ss : List Reply) → Mine voxel h x cs l ss high → l ≤ high) → (b : Bool) → is_by x c ≡ b → Mine voxel h x (c ∷ cs) low rs high → low ≤ high
mine_low_by voxel h x c cs low rs high more true is m =
    let n = mine_next voxel h x c cs low rs high is m in
    let a : Answers voxel h low c n.0 = n.3 in
    let le = later_le low c (mark_of n.0) a.later in let b = more (mark_of n.0) n.1 n.4 in omega arith
mine_low_by voxel h x c cs low rs high more false is m = more low rs (mine_skip voxel h x c cs low rs high is m)

mine_low : (voxel : ℕ) (h : List Entry) (x : ℕ) (cs : List Command) (low : ℕ) (rs : List Reply) (high : ℕ) → Mine voxel h x cs low rs high → low ≤ high
mine_low voxel h x [] low rs high m = m.1
mine_low voxel h x (c ∷ cs) low rs high m = mine_low_by voxel h x c cs low rs high (λ l ss n. mine_low voxel h x cs l ss high n) (is_by x c) refl m

mine_first : (voxel : ℕ) (h : List Entry) (x : ℕ) (c : Command) (cs : List Command) (low : ℕ) (r : Reply) (rest : List Reply) (high : ℕ) → is_by x c ≡ true
    → Mine voxel h x (c ∷ cs) low (r ∷ rest) high → Answers voxel h low c r × Mine voxel h x cs (mark_of r) rest high
mine_first voxel h x c cs low r rest high is m =
    let n = mine_next voxel h x c cs low (r ∷ rest) high is m in
    let first : n.0 ≡ r = cc (n.2) in
    let more : n.1 ≡ rest = cc (n.2) in
    subst (λ (z : Reply × List Reply). Answers voxel h low c z.0 × Mine voxel h x cs (mark_of z.0) z.1 high) (λ k. (first k, more k)) (n.3, n.4)

get_set_same : {A : Type 0} (xs : List A) (k : ℕ) (x y z : A) → slice_get xs k ≡ Some x → slice_get (set xs k y) k ≡ Some z → z ≡ y
get_set_same [] k x y z h at = absurd cc
get_set_same (w ∷ xs) zero x y z h at = cc (at)
get_set_same (w ∷ xs) (suc k) x y z h at = get_set_same xs k x y z h at

get_set_other : {A : Type 0} (xs : List A) (k j : ℕ) (y z : A) → (j == k) ≡ false → slice_get (set xs k y) j ≡ Some z → slice_get xs j ≡ Some z
get_set_other [] k j y z ne at = at
get_set_other (w ∷ xs) zero zero y z ne at = absurd (cc ne)
get_set_other (w ∷ xs) zero (suc j) y z ne at = at
get_set_other (w ∷ xs) (suc k) zero y z ne at = at
get_set_other (w ∷ xs) (suc k) (suc j) y z ne at =
    let e : (j == k) ≡ false = grind (arith, nat_tests) in get_set_other xs k j y z e at

told_next : (voxel : ℕ) (h : List Entry) (lows : ℕ → ℕ) (c : Command) (cs : List Command) (r : Reply) (rs : List Reply) (highs : ℕ → ℕ) (x : ℕ) → IsBy c x
    → Answers voxel h (lows x) c r → Told voxel h (raised lows c (mark_of r)) cs rs highs → Told voxel h lows (c ∷ cs) (r ∷ rs) highs
told_next voxel h lows c cs r rs highs x is a t = (
  (λ y asked. subst (λ z. Answers voxel h (lows z) c r) (sym (concerns_by c x y is asked)) a),
  t,
)

all_next : (voxel : ℕ) (h : List Entry) (c : Command) (left : List Command) (lows : ℕ → ℕ) (lists : List (List Reply)) (high k : ℕ) (r : Reply) (rest : List Reply)
    → IsBy c (k + 1) → slice_get lists k ≡ Some (r ∷ rest) → AllMine voxel h (c ∷ left) lows lists high
    → AllMine voxel h left (raised lows c (mark_of r)) (set lists k rest) high
all_next voxel h c left lows lists high k r rest is at all j rs found = by_case (j == k) refl
  where
    by_case : (b : Bool) → (j == k) ≡ b → Mine voxel h (j + 1) left (raised lows c (mark_of r) (j + 1)) rs high
    by_case true e =
        let same : j ≡ k = grind (arith, nat_tests) in
        let here : slice_get (set lists k rest) k ≡ Some rs = subst (λ z. slice_get (set lists k rest) z ≡ Some rs) same found in
        let what : rs ≡ rest = get_set_same lists k (r ∷ rest) rest rs at here in
        let own : is_for (j + 1) c ≡ true = subst (λ z. is_for (z + 1) c ≡ true) (sym same) (for_own c (k + 1) is) in
        let m = mine_first voxel h (k + 1) c left (lows (k + 1)) r rest high (is_by_own c (k + 1) is) (all k (r ∷ rest) at) in
        rw (raised_own lows c (mark_of r) (j + 1) own) (subst (λ (z : ℕ × List Reply). Mine voxel h (z.0 + 1) left (mark_of r) z.1 high) (λ i. (sym same i, sym what i)) m.1)
    by_case false e =
        let test : ((j + 1) == (k + 1)) ≡ false = grind (arith, nat_tests) in
        let there : slice_get lists j ≡ Some rs = get_set_other lists k j rest rs e found in
        rw (raised_other lows c (mark_of r) (j + 1) (for_other c (k + 1) (j + 1) is test))
        (mine_skip voxel h (j + 1) c left (lows (j + 1)) rs high (is_by_other c (k + 1) (j + 1) is test) (all j rs there))

below_next : (lows : ℕ → ℕ) (c : Command) (m high : ℕ) → AllBelow lows high → m ≤ high → AllBelow (raised lows c m) high
below_next lows c m high below le x = by_case (is_for x c) refl
  where
    by_case : (b : Bool) → is_for x c ≡ b → raised lows c m x ≤ high
    by_case true e = rw (raised_own lows c m x e) le
    by_case false e = rw (raised_other lows c m x e) (below x)

-- one more reply is put in its place
merged_next : (voxel : ℕ) (cs left : List Command) (c : Command) (all lists : List (List Reply)) (old new : List Reply) (k : ℕ) (r : Reply) (rest : List Reply)
    → MergedTo voxel cs (c ∷ left) all lists old new → IsBy c (k + 1) → slice_get lists k ≡ Some (r ∷ rest) → MergedTo voxel cs left all (set lists k rest) old (new ++ r ∷ [])
merged_next voxel cs left c all lists old new k r rest to is at h lows high mine below =
    let m = to h lows high mine below in
    let own = mine_first voxel h (k + 1) c left (m.now (k + 1)) r rest high (is_by_own c (k + 1) is) (m.mine k (r ∷ rest) at) in
    let le : mark_of r ≤ high = mine_low voxel h (k + 1) left (mark_of r) rest high own.1 in
    record {
      now = raised m.now c (mark_of r);
      below = below_next m.now c (mark_of r) high m.below le;
      mine = all_next voxel h c left m.now lists high k r rest is at m.mine;
      replies = m.replies ++ r ∷ [];
      added = ap (λ z. z ++ r ∷ []) m.added ∙ append_assoc old m.replies (r ∷ []);
      told = λ more highs t.
          subst (λ z. Told voxel h lows cs z highs) (sym (append_assoc m.replies (r ∷ []) more))
          (m.told (r ∷ more) highs (told_next voxel h m.now c left r more highs (k + 1) is own.0 t));
    }

pub merged_takes : (voxel : ℕ) (cs left : List Command) (c : Command) (all lists next : List (List Reply)) (old new : List Reply) (x : ℕ) (r : Reply)
    → MergedTo voxel cs (c ∷ left) all lists old new → IsBy c x → Takes lists next x r → MergedTo voxel cs left all next old (new ++ r ∷ [])
merged_takes voxel cs left c all lists next old new x r to is t =
    subst (λ z. MergedTo voxel cs left all z old (new ++ r ∷ [])) (sym t.left)
    (merged_next voxel cs left c all lists old new t.place r t.rest to (subst (λ z. IsBy c z) t.caller_is is) t.first)

get_there : {A : Type 0} (xs : List A) (k : ℕ) → k < length xs → (x : A) × (slice_get xs k ≡ Some x)
get_there [] k lt = absurd (omega arith)
get_there (x ∷ xs) zero lt = (x, refl)
get_there (x ∷ xs) (suc k) lt = get_there xs k (omega arith)

-- the caller of the next command has a reply left
pub replies_left : (voxel : ℕ) (c : Command) (left : List Command) (lists : List (List Reply)) (x : ℕ) → AreReplies voxel (c ∷ left) lists → IsBy c x → HasReply lists x
replies_left voxel c left lists x a is =
    let own : IsOfCallers (length lists) c = a.owned.0 in
    let k : ℕ = own.0 in
    let here = get_there lists k own.2 in
    let rs : List Reply = here.0 in
    let n = mine_next voxel a.history (k + 1) c left (a.lasts (k + 1)) rs a.most (is_by_own c (k + 1) own.1) (a.mine k rs here.1) in
    record {
      place = k;
      caller_is = same (command_caller c) x k is own.1;
      first = n.0;
      rest = n.1;
      there = here.1 ∙ ap (λ z. Some z) n.2;
    }
  where
    same : (owner : Option ℕ) (x k : ℕ) → IsSomeAnd owner (λ y. y ≡ x) → IsSomeAnd owner (λ y. y ≡ k + 1) → x ≡ k + 1
    same (Some y) x k a b = let e : y ≡ x = a in let f : y ≡ k + 1 = b in sym e ∙ f
    same None x k a b = absurd a

set_length : {A : Type 0} (xs : List A) (k : ℕ) (x : A) → length (set xs k x) ≡ length xs
set_length [] k x = refl
set_length (y ∷ xs) zero x = refl
set_length (y ∷ xs) (suc k) x = let e = set_length xs k x in omega arith

-- the lists have the replies to the remaining commands
pub replies_next : (voxel : ℕ) (c : Command) (left : List Command) (lists next : List (List Reply)) (x : ℕ) (r : Reply)
    → AreReplies voxel (c ∷ left) lists → IsBy c x → Takes lists next x r → AreReplies voxel left next
replies_next voxel c left lists next x r a is t =
    let k : ℕ = t.place in
    let by : IsBy c (k + 1) = subst (λ z. IsBy c z) t.caller_is is in
    let own = mine_first voxel a.history (k + 1) c left (a.lasts (k + 1)) r t.rest a.most (is_by_own c (k + 1) by) (a.mine k (r ∷ t.rest) t.first) in
    let le : mark_of r ≤ a.most = mine_low voxel a.history (k + 1) left (mark_of r) t.rest a.most own.1 in
    subst (AreReplies voxel left) (sym t.left) (record {
      history = a.history;
      lasts = raised a.lasts c (mark_of r);
      most = a.most;
      mine = all_next voxel a.history c left a.lasts lists a.most k r t.rest by t.first a.mine;
      below = below_next a.lasts c (mark_of r) a.most a.below le;
      owned = subst (λ n. AllByRecursion (IsOfCallers n) left) (sym (set_length lists k t.rest)) a.owned.1;
    })

pub index_get : {A : Type 0} (xs : List A) (k : ℕ) (x d : A) → slice_get xs k ≡ Some x → slice_index_or xs k d ≡ x
index_get [] k x d at = absurd (cc at)
index_get (y ∷ xs) zero x d at = cc (at)
index_get (y ∷ xs) (suc k) x d at = index_get xs k x d at
