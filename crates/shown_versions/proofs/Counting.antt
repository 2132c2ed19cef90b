-- Where the updates of all passes are as many as the entries, each pass has made exactly its caller's.
use Rattle.std.proofs.Common.{◌≡◌, ℕ, zero, suc, ◌+◌, ◌≤◌, ◌==◌, ◌⊎◌, Bool, true, false, List, [], ◌∷◌, ◌++◌, length, Some, slice_get, refl, ap, sym, ◌∙◌, subst, inl, inr, arith}
use Rattle.std.proofs.lemmas.Bool.Decides.{nat_tests}
use mathlib.Core.List.{IsPrefix}
use Rattle.map_items.specs.declared.entry.Entry.{Entry}
use Rattle.map_items.specs.declared.update.Update.{Update}
use Rattle.shown_versions.specs.Marks.{Seen, update_in, at_places, AreOwnPlaces, keep_if, own_updates, one_if, times_listed, IsDistinct, AllOf, callers_of, made_by, AllMet, AllSeen, IsMade, AllMade, AllGrown, AllBegin, AllOwn, AllEnded}

-- xs is ys with some items left out
abbrev IsSub : {A : Type 0} → List A → List A → Type 0
IsSub [] ys = Unit {0}
IsSub (x ∷ xs) [] = ⊥
IsSub (x ∷ xs) (y ∷ ys) = ((x ≡ y) × IsSub xs ys) ⊎ IsSub (x ∷ xs) ys

sub_length : {A : Type 0} (xs ys : List A) → IsSub xs ys → length xs ≤ length ys
sub_length [] ys s = omega arith
sub_length (x ∷ xs) [] s = absurd s
sub_length (x ∷ xs) (y ∷ ys) (inl t) = let r = sub_length xs ys t.1 in omega arith
sub_length (x ∷ xs) (y ∷ ys) (inr t) = let r = sub_length (x ∷ xs) ys t in omega arith

sub_whole : {A : Type 0} (xs ys : List A) → IsSub xs ys → length ys ≤ length xs → xs ≡ ys
sub_whole [] [] s le = refl
sub_whole [] (y ∷ ys) s le = absurd (omega arith)
sub_whole (x ∷ xs) [] s le = absurd s
sub_whole (x ∷ xs) (y ∷ ys) (inl t) le = let r : xs ≡ ys = sub_whole xs ys t.1 (omega arith) in let q : x ≡ y = t.0 in cc (q, r)
sub_whole (x ∷ xs) (y ∷ ys) (inr t) le = let r = sub_length (x ∷ xs) ys t in absurd (omega arith)

sub_skip : {A : Type 0} (xs : List A) (y : A) (ys : List A) → IsSub xs ys → IsSub xs (y ∷ ys)
sub_skip [] y ys s = tt
sub_skip (x ∷ xs) y ys s = inr s

lower : List ℕ → List ℕ
lower [] = []
lower (zero ∷ ks) = zero ∷ lower ks
lower (suc k ∷ ks) = k ∷ lower ks

shift : (c : ℕ) (e : Entry) (es : List Entry) (low above : ℕ) (ks : List ℕ) → above ≡ low + 1 → AreOwnPlaces c (e ∷ es) above ks → AreOwnPlaces c es low (lower ks)
unfolding lower
shift c e es low above [] is m = tt
shift c e es low above (zero ∷ ks) is m = let le = m.0 in absurd (omega arith)
shift c e es low above (suc k ∷ ks) is m =
    let le = m.0 in (omega arith, (m.1.0, m.1.1, m.1.2), shift c e es (k + 1) (suc k + 1) ks (omega arith) m.2)

places_shift : (c : ℕ) (e : Entry) (es : List Entry) (low above : ℕ) (ks : List ℕ) → above ≡ low + 1 → AreOwnPlaces c (e ∷ es) above ks → at_places (e ∷ es) ks ≡ at_places es (lower ks)
unfolding lower
places_shift c e es low above [] is m = refl
places_shift c e es low above (zero ∷ ks) is m = let le = m.0 in absurd (omega arith)
places_shift c e es low above (suc k ∷ ks) is m =
    ap (λ us. update_in (slice_get es k) ++ us) (places_shift c e es (k + 1) (suc k + 1) ks (omega arith) m.2)

keep_skip : (b : Bool) (xs : List Update) (u : Update) (us : List Update) → IsSub xs us → IsSub xs (keep_if b u us)
keep_skip true xs u us s = sub_skip xs u us s
keep_skip false xs u us s = s

keep_same : (b : Bool) (xs : List Update) (u : Update) (us : List Update) → b ≡ true → IsSub xs us → IsSub (u ∷ xs) (keep_if b u us)
keep_same true xs u us is s = inl (refl, s)
keep_same false xs u us is s = absurd (cc is)

-- the updates at a caller's marks are among that caller's
marked_sub : (c : ℕ) (h : List Entry) (ks : List ℕ) → AreOwnPlaces c h 0 ks → IsSub (at_places h ks) (own_updates c h)
marked_sub c h [] m = tt
marked_sub c [] (k ∷ ks) m = let at = m.1.1 in absurd (cc at)
marked_sub c (e ∷ es) (zero ∷ ks) m =
    let rest : at_places (e ∷ es) ks ≡ at_places es (lower ks) = places_shift c e es 0 (zero + 1) ks (omega arith) m.2 in
    let below : IsSub (at_places es (lower ks)) (own_updates c es) = marked_sub c es (lower ks) (shift c e es 0 (zero + 1) ks (omega arith) m.2) in
    let same : e ≡ m.1.0 = cc (m.1.1) in
    let by : e.caller ≡ c = ap (λ x. x.caller) same ∙ m.1.2 in
    let test : (e.caller == c) ≡ true = grind (arith, nat_tests) in
    subst (λ (us : List Update). IsSub (e.update ∷ us) (own_updates c (e ∷ es))) (sym rest) (keep_same (e.caller == c) (at_places es (lower ks)) e.update (own_updates c es) test below)
marked_sub c (e ∷ es) (suc k ∷ ks) m =
    let up : AreOwnPlaces c (e ∷ es) (0 + 1) (suc k ∷ ks) = (omega arith, m.1, m.2) in
    let all : at_places (e ∷ es) (suc k ∷ ks) ≡ at_places es (lower (suc k ∷ ks)) = places_shift c e es 0 (0 + 1) (suc k ∷ ks) refl up in
    let below : IsSub (at_places es (lower (suc k ∷ ks))) (own_updates c es) = marked_sub c es (lower (suc k ∷ ks)) (shift c e es 0 (0 + 1) (suc k ∷ ks) refl up) in
    subst (λ (us : List Update). IsSub us (own_updates c (e ∷ es))) (sym all) (keep_skip (e.caller == c) (at_places es (lower (suc k ∷ ks))) e.update (own_updates c es) below)

-- how many entries are of these callers
all_of : List ℕ → List Entry → ℕ
all_of [] h = 0
all_of (c ∷ cs) h = length (own_updates c h) + all_of cs h

keep_length : (b : Bool) (u : Update) (us : List Update) → length (keep_if b u us) ≡ one_if b + length us
keep_length true u us = omega arith
keep_length false u us = omega arith

all_of_nil : (cs : List ℕ) → all_of cs [] ≡ 0
unfolding all_of
all_of_nil [] = refl
all_of_nil (c ∷ cs) = let r = all_of_nil cs in omega arith

all_of_cons : (cs : List ℕ) (e : Entry) (es : List Entry) → all_of cs (e ∷ es) ≡ times_listed e.caller cs + all_of cs es
unfolding all_of
all_of_cons [] e es = refl
all_of_cons (c ∷ cs) e es =
    let r = all_of_cons cs e es in
    let k = keep_length (e.caller == c) e.update (own_updates c es) in
    omega arith

times_by : (x c : ℕ) (cs : List ℕ) → times_listed c cs ≡ 0 → times_listed x cs ≤ 1 → (b : Bool) → (x == c) ≡ b → one_if b + times_listed x cs ≤ 1
times_by x c cs none most true is =
    let same : x ≡ c = grind (arith, nat_tests) in
    let zero_x : times_listed x cs ≡ 0 = subst (λ (z : ℕ). times_listed z cs ≡ 0) (sym same) none in omega arith
times_by x c cs none most false is = omega arith

times_most : (x : ℕ) (cs : List ℕ) → IsDistinct cs → times_listed x cs ≤ 1
times_most x [] d = omega arith
times_most x (c ∷ cs) d = times_by x c cs d.0 (times_most x cs d.1) (x == c) refl

all_of_most : (cs : List ℕ) (h : List Entry) → IsDistinct cs → all_of cs h ≤ length h
all_of_most cs [] d = let r = all_of_nil cs in omega arith
all_of_most cs (e ∷ es) d = let r = all_of_cons cs e es in let t = times_most e.caller cs d in let q = all_of_most cs es d in omega arith

all_of_whole : (cs : List ℕ) (h : List Entry) → IsDistinct cs → length h ≤ all_of cs h → AllOf cs h
all_of_whole cs [] d le = tt
all_of_whole cs (e ∷ es) d le =
    let r = all_of_cons cs e es in let t = times_most e.caller cs d in let q = all_of_most cs es d in
    (omega arith, all_of_whole cs es d (omega arith))

made_length : (h : List Entry) (p : Seen) → IsMade h p → length p.mine ≤ length (own_updates p.caller h)
made_length h p m = let s = sub_length (at_places h m.0) (own_updates p.caller h) (marked_sub p.caller h m.0 m.1) in let e = ap length m.2 in omega arith

made_most : (h : List Entry) (ps : List Seen) → AllMade h ps → made_by ps ≤ all_of (callers_of ps) h
unfolding all_of
made_most h [] m = omega arith
made_most h (p ∷ ps) m = let a = made_length h p m.0 in let b = made_most h ps m.1 in omega arith

made_whole : (h : List Entry) (ps : List Seen) → AllSeen h ps → AllMade h ps → all_of (callers_of ps) h ≤ made_by ps → AllMet h ps
unfolding all_of
made_whole h [] s m le = tt
made_whole h (p ∷ ps) s m le =
    let a = made_length h p m.0 in let b = made_most h ps m.1 in let e = ap length m.0.2 in
    let sub : IsSub (at_places h m.0.0) (own_updates p.caller h) = marked_sub p.caller h m.0.0 m.0.1 in
    (s.0, m.0.2 ∙ sub_whole (at_places h m.0.0) (own_updates p.caller h) sub (omega arith), made_whole h ps s.1 m.1 (omega arith))

-- Where all passes together have made as many updates as there are entries, each has made exactly its caller's, and there are no others
pub exactly_once : (h : List Entry) (ps : List Seen) → AllSeen h ps → AllMade h ps → IsDistinct (callers_of ps) → made_by ps ≡ length h → AllMet h ps × AllOf (callers_of ps) h
exactly_once h ps s m d is =
    let a = made_most h ps m in let b = all_of_most (callers_of ps) h d in
    (made_whole h ps s m (omega arith), all_of_whole (callers_of ps) h d (omega arith))

-- as many updates as marks
pub places_length : (c : ℕ) (h : List Entry) (low : ℕ) (ks : List ℕ) → AreOwnPlaces c h low ks → length (at_places h ks) ≡ length ks
places_length c h low [] m = refl
places_length c h low (k ∷ ks) m =
    let r : length (at_places h ks) ≡ length ks = places_length c h (k + 1) ks m.2 in
    let a : slice_get h k ≡ Some m.1.0 = m.1.1 in
    rw a (omega arith)

pub grown_callers : (ps qs : List Seen) → AllGrown ps qs → callers_of qs ≡ callers_of ps
grown_callers [] [] g = refl
grown_callers [] (q ∷ qs) g = absurd g
grown_callers (p ∷ ps) [] g = absurd g
grown_callers (p ∷ ps) (q ∷ qs) g = let a : q.caller ≡ p.caller = g.0.0 in let r : callers_of qs ≡ callers_of ps = grown_callers ps qs g.1 in cc (a, r)

pub all_met_at : (h : List Entry) (ps qs : List Seen) → AllSeen h qs → AllMade h qs → AllGrown ps qs → IsDistinct (callers_of ps) → made_by qs ≡ length h → AllMet h qs × AllOf (callers_of qs) h
all_met_at h ps qs s m g d is = exactly_once h qs s m (subst IsDistinct (sym (grown_callers ps qs g)) d) is

-- what the passes that met show of the passes before
pub all_ended : (h : List Entry) (ps qs : List Seen) → AllGrown ps qs → AllMet h qs → AllOf (callers_of qs) h → AllEnded h ps
all_ended h ps qs g m o = (begins ps qs g m, owns ps qs g m, subst (λ (cs : List ℕ). AllOf cs h) (grown_callers ps qs g) o)
  where
    begins : (ps qs : List Seen) → AllGrown ps qs → AllMet h qs → AllBegin h ps
    begins [] qs g m = tt
    begins (p ∷ ps) [] g m = absurd g
    begins (p ∷ ps) (q ∷ qs) g m = (subst (λ (s : List Entry). IsPrefix p.seen s) m.0 g.0.1, begins ps qs g.1 m.2)

    owns : (ps qs : List Seen) → AllGrown ps qs → AllMet h qs → AllOwn h ps
    owns [] qs g m = tt
    owns (p ∷ ps) [] g m = absurd g
    owns (p ∷ ps) (q ∷ qs) g m = (sym g.0.2 ∙ (m.1 ∙ ap (λ c. own_updates c h) g.0.0), owns ps qs g.1 m.2)
