-- What came back from all threads.
use Rattle.std.proofs.Common.{◌≡◌, ◌⊎◌, inl, inr, ⊎_elim, length-append, ℕ, zero, suc, List, [], ◌∷◌, ◌++◌, length, Some, Ok, Err, Result, slice_get, IfOk, refl, sym, ap, subst, arith}
use Rattle.map_items.specs.declared.memory.NoMemory.{NoMemory}
use Rattle.shown_versions.specs.Marks.{Seen, callers_of}
use Rattle.published_map.proofs.Marking.{get_length}
use Rattle.scan_log.specs.declared.command.Command.{Command}
use Rattle.scan_log.specs.declared.reply.Reply.{Reply}
use Rattle.mapper_core.specs.Mine.{Ran, Stopped, Turned}
use Rattle.mapper_core.specs.Meetings.{AllTurned, AllParted}

-- of each pass it is known how it came back, and with which replies
pub record AllBack (P : Seen → Seen → List Reply → Type 0) (ps qs : List Seen) (lists : List (List Reply)) : Type 0 where
  pub passes : length qs ≡ length ps
  pub queues : length lists ≡ length ps
  pub each : (k : ℕ) (p q : Seen) (rs : List Reply) → slice_get ps k ≡ Some p → slice_get qs k ≡ Some q → slice_get lists k ≡ Some rs → P p q rs

pub back_rest : (P : Seen → Seen → List Reply → Type 0) (p q : Seen) (l : List Reply) (ps qs : List Seen) (lists : List (List Reply))
    → AllBack P (p ∷ ps) (q ∷ qs) (l ∷ lists) → AllBack P ps qs lists
back_rest P p q l ps qs lists a = record {
  passes = (let e = a.passes in omega arith);
  queues = (let e = a.queues in omega arith);
  each = λ k x y z. a.each (suc k) x y z;
}

pub back_callers : (P : Seen → Seen → List Reply → Type 0) (ps qs : List Seen) (lists : List (List Reply)) → ((p q : Seen) (rs : List Reply) → P p q rs → q.caller ≡ p.caller)
    → AllBack P ps qs lists → callers_of qs ≡ callers_of ps
back_callers P [] [] lists f a = refl
back_callers P [] (q ∷ qs) lists f a = absurd (let e = a.passes in omega arith)
back_callers P (p ∷ ps) [] lists f a = absurd (let e = a.passes in omega arith)
back_callers P (p ∷ ps) (q ∷ qs) [] f a = absurd (let e = a.queues in omega arith)
back_callers P (p ∷ ps) (q ∷ qs) (l ∷ ls) f a =
    let first : q.caller ≡ p.caller = f p q l (a.each 0 p q l refl refl refl) in
    let rest : callers_of qs ≡ callers_of ps = back_callers P ps qs ls f (back_rest P p q l ps qs ls a) in
    cc (first, rest)

pub turned_caller : (voxel : ℕ) (cs : List Command) (p q : Seen) (rs : List Reply) → Turned voxel cs p q rs → q.caller ≡ p.caller
turned_caller voxel cs p q rs t = ⊎_elim (λ (r : Ran voxel cs p q rs). r.caller) (λ (s : Stopped voxel cs p q). s.caller) t

pub parted_more : (ts : List (Result (Seen × List Reply) NoMemory)) (qs : List Seen) (lists : List (List Reply)) (t : Result (Seen × List Reply) NoMemory) (q : Seen) (rs : List Reply)
    → AllParted ts qs lists → t ≡ Ok (q, rs) → AllParted (ts ++ t ∷ []) (qs ++ q ∷ []) (lists ++ rs ∷ [])
parted_more [] [] [] t q rs a is = (is, _)
parted_more [] (p ∷ qs) lists t q rs a is = absurd a
parted_more [] [] (l ∷ lists) t q rs a is = absurd a
parted_more (s ∷ ts) [] lists t q rs a is = absurd a
parted_more (s ∷ ts) (p ∷ qs) [] t q rs a is = absurd a
parted_more (s ∷ ts) (p ∷ qs) (l ∷ lists) t q rs a is = (a.0, parted_more ts qs lists t q rs a.1 is)

passes_length : (ts : List (Result (Seen × List Reply) NoMemory)) (qs : List Seen) (lists : List (List Reply)) → AllParted ts qs lists → length qs ≡ length ts
passes_length [] [] [] a = refl
passes_length [] (p ∷ qs) lists a = absurd a
passes_length [] [] (l ∷ lists) a = absurd a
passes_length (s ∷ ts) [] lists a = absurd a
passes_length (s ∷ ts) (p ∷ qs) [] a = absurd a
passes_length (s ∷ ts) (p ∷ qs) (l ∷ lists) a = let r = passes_length ts qs lists a.1 in omega arith

queues_length : (ts : List (Result (Seen × List Reply) NoMemory)) (qs : List Seen) (lists : List (List Reply)) → AllParted ts qs lists → length lists ≡ length ts
queues_length [] [] [] a = refl
queues_length [] (p ∷ qs) lists a = absurd a
queues_length [] [] (l ∷ lists) a = absurd a
queues_length (s ∷ ts) [] lists a = absurd a
queues_length (s ∷ ts) (p ∷ qs) [] a = absurd a
queues_length (s ∷ ts) (p ∷ qs) (l ∷ lists) a = let r = queues_length ts qs lists a.1 in omega arith

parted_get : (ts : List (Result (Seen × List Reply) NoMemory)) (qs : List Seen) (lists : List (List Reply)) (k : ℕ) (q : Seen) (rs : List Reply) → AllParted ts qs lists
    → slice_get qs k ≡ Some q → slice_get lists k ≡ Some rs → slice_get ts k ≡ Some (Ok (q, rs))
parted_get [] [] [] k q rs a at there = absurd cc
parted_get [] (p ∷ qs) lists k q rs a at there = absurd a
parted_get [] [] (l ∷ lists) k q rs a at there = absurd a
parted_get (s ∷ ts) [] lists k q rs a at there = absurd a
parted_get (s ∷ ts) (p ∷ qs) [] k q rs a at there = absurd a
parted_get (s ∷ ts) (p ∷ qs) (l ∷ lists) zero q rs a at there =
    let one : p ≡ q = cc (at) in let two : l ≡ rs = cc (there) in let is : s ≡ Ok (p, l) = a.0 in cc (one, two, is)
parted_get (s ∷ ts) (p ∷ qs) (l ∷ lists) (suc k) q rs a at there = parted_get ts qs lists k q rs a.1 at there

-- each caller's turn has ended
pub turned_back : (voxel : ℕ) (cs : List Command) (ps qs : List Seen) (ts : List (Result (Seen × List Reply) NoMemory)) (lists : List (List Reply))
    → AllTurned voxel cs ps ts → AllParted ts qs lists → AllBack (Turned voxel cs) ps qs lists
turned_back voxel cs ps qs ts lists t a =
    let len = t.0 in let one = passes_length ts qs lists a in let two = queues_length ts qs lists a in
    record {
      passes = omega arith;
      queues = omega arith;
      each = λ k p q rs at there here. t.1 k p (Ok (q, rs)) at (parted_get ts qs lists k q rs a there here);
    }

-- what follows from a result's clause
pub answer_gives : {A E : Type 0} (P Q : A → Type 0) → ((a : A) → P a → Q a) → (r : Result A E) → IfOk r P → IfOk r Q
answer_gives P Q f (Ok a) e = f a e
answer_gives P Q f (Err x) e = e

pub turned_none : (voxel : ℕ) (cs : List Command) (ps : List Seen) → ps ≡ [] → AllTurned voxel cs ps []
turned_none voxel cs ps is = (sym (ap length is), λ k p t at there. absurd (cc there))

get_more : {A : Type 0} (xs : List A) (x y : A) (k : ℕ) → slice_get (xs ++ x ∷ []) k ≡ Some y → (slice_get xs k ≡ Some y) ⊎ ((k ≡ length xs) × (x ≡ y))
get_more [] x y zero at = inr (refl, cc (at))
get_more [] x y (suc k) at = absurd (cc at)
get_more (z ∷ xs) x y zero at = inl at
get_more (z ∷ xs) x y (suc k) at = ⊎_elim (λ a. inl a) (λ b. inr ((let e = b.0 in omega arith), b.1)) (get_more xs x y k at)

-- one thread more
pub turned_more : (voxel : ℕ) (cs : List Command) (all ps : List Seen) (p : Seen) (ts : List (Result (Seen × List Reply) NoMemory)) (t : Result (Seen × List Reply) NoMemory) → all ≡ ps ++ p ∷ []
    → AllTurned voxel cs ps ts → IfOk t (λ u. Turned voxel cs p u.0 u.1) → AllTurned voxel cs all (ts ++ t ∷ [])
turned_more voxel cs all ps p ts t is a ran = subst (λ z. AllTurned voxel cs z (ts ++ t ∷ [])) (sym is) (
  (let l = a.0 in omega (arith, length-append ts (t ∷ []), length-append ps (p ∷ []))),
  λ k q s at there.
      ⊎_elim
      (λ (here : slice_get ps k ≡ Some q).
      ⊎_elim (λ (also : slice_get ts k ≡ Some s). a.1 k q s here also)
      (λ (last : (k ≡ length ts) × (t ≡ s)). absurd (let b = get_length ps k q here in let e = last.0 in let l = a.0 in omega arith))
      (get_more ts t s k there))
      (λ (end : (k ≡ length ps) × (p ≡ q)).
      ⊎_elim (λ (also : slice_get ts k ≡ Some s). absurd (let b = get_length ts k s also in let e = end.0 in let l = a.0 in omega arith))
      (λ (last : (k ≡ length ts) × (t ≡ s)).
      subst (λ (z : Seen × Result (Seen × List Reply) NoMemory). IfOk z.1 (λ u. Turned voxel cs z.0 u.0 u.1)) (λ i. (end.1 i, last.1 i)) ran)
      (get_more ts t s k there))
      (get_more ps p q k at),
)
