-- Places of a caller's entries, as the history grows.
use Rattle.std.proofs.Common.{◌≡◌, ℕ, zero, suc, ◌+◌, ◌<◌, ◌≤◌, List, [], ◌∷◌, ◌++◌, length, length-append, Some, slice_get, refl, ap, sym, ◌∙◌, subst, arith}
use mathlib.Core.List.{IsPrefix}
use Rattle.map_items.specs.declared.entry.Entry.{Entry}
use Rattle.shown_versions.specs.Marks.{at_places, AreOwnPlaces}
use Rattle.published_map.specs.Held.{IsPass}

-- what is in a prefix is in the whole, at the same index
pub get_prefix : {A : Type 0} (xs ys : List A) (k : ℕ) (x : A) → IsPrefix xs ys → slice_get xs k ≡ Some x → slice_get ys k ≡ Some x
get_prefix [] ys k x p h = absurd cc
get_prefix (y ∷ xs) [] k x p h = absurd (cc (p.1))
get_prefix (y ∷ xs) (z ∷ ys) zero x p h = cc (p.1, h)
get_prefix (y ∷ xs) (z ∷ ys) (suc k) x p h = get_prefix xs ys k x (p.0, cc (p.1)) h

pub get_length : {A : Type 0} (xs : List A) (k : ℕ) (x : A) → slice_get xs k ≡ Some x → k < length xs
get_length [] k x h = absurd cc
get_length (y ∷ xs) zero x h = omega arith
get_length (y ∷ xs) (suc k) x h = omega (arith, get_length xs k x h)

pub get_snoc : {A : Type 0} (xs : List A) (x : A) → slice_get (xs ++ x ∷ []) (length xs) ≡ Some x
get_snoc [] x = refl
get_snoc (y ∷ xs) x = get_snoc xs x

pub marked_longer : (c : ℕ) (h k : List Entry) (low : ℕ) (ks : List ℕ) → IsPrefix h k → AreOwnPlaces c h low ks → AreOwnPlaces c k low ks
marked_longer c h k low [] p m = tt
marked_longer c h k low (j ∷ js) p m = (m.0, (m.1.0, get_prefix h k j m.1.0 p m.1.1, m.1.2), marked_longer c h k (j + 1) js p m.2)

-- the caller's updates stay where they are
pub places_longer : (c : ℕ) (h k : List Entry) (low : ℕ) (ks : List ℕ) → IsPrefix h k → AreOwnPlaces c h low ks → at_places k ks ≡ at_places h ks
places_longer c h k low [] p m = refl
places_longer c h k low (j ∷ js) p m =
    let a : slice_get h j ≡ Some m.1.0 = m.1.1 in
    let b : slice_get k j ≡ Some m.1.0 = get_prefix h k j m.1.0 p m.1.1 in
    let r : at_places k js ≡ at_places h js = places_longer c h k (j + 1) js p m.2 in
    rw (a, b, r) refl

pub marked_snoc : (c : ℕ) (h : List Entry) (low : ℕ) (ks : List ℕ) (e : Entry) → AreOwnPlaces c h low ks → low ≤ length h → e.caller ≡ c → AreOwnPlaces c (h ++ e ∷ []) low (ks ++ length h ∷ [])
marked_snoc c h low [] e m le is = (le, (e, get_snoc h e, is), tt)
marked_snoc c h low (j ∷ js) e m le is =
    let in_it : j < length h = get_length h j m.1.0 m.1.1 in
    (m.0, (m.1.0, get_prefix h (h ++ e ∷ []) j m.1.0 (e ∷ [], refl) m.1.1, m.1.2), marked_snoc c h (j + 1) js e m.2 (omega arith) is)

pub places_snoc : (c : ℕ) (h : List Entry) (low : ℕ) (ks : List ℕ) (e : Entry) → AreOwnPlaces c h low ks → at_places (h ++ e ∷ []) (ks ++ length h ∷ []) ≡ at_places h ks ++ e.update ∷ []
places_snoc c h low [] e m = let a : slice_get (h ++ e ∷ []) (length h) ≡ Some e = get_snoc h e in rw a refl
places_snoc c h low (j ∷ js) e m =
    let a : slice_get h j ≡ Some m.1.0 = m.1.1 in
    let b : slice_get (h ++ e ∷ []) j ≡ Some m.1.0 = get_prefix h (h ++ e ∷ []) j m.1.0 (e ∷ [], refl) m.1.1 in
    let r : at_places (h ++ e ∷ []) (js ++ length h ∷ []) ≡ at_places h js ++ e.update ∷ [] = places_snoc c h (j + 1) js e m.2 in
    rw (a, b, r) refl

-- the caller's entry comes after a history that begins with what was marked
pub marked_after : (c : ℕ) (s h n : List Entry) (ks js : List ℕ) (place : ℕ) (e : Entry) → IsPrefix s h
    → AreOwnPlaces c s 0 ks → n ≡ h ++ e ∷ [] → js ≡ ks ++ place ∷ [] → place ≡ length h → e.caller ≡ c
    → AreOwnPlaces c n 0 js × (at_places n js ≡ at_places s ks ++ e.update ∷ [])
marked_after c s h n ks js place e p m is more at by =
    let here : js ≡ ks ++ length h ∷ [] = more ∙ ap (λ k. ks ++ k ∷ []) at in
    let all : AreOwnPlaces c h 0 ks = marked_longer c s h 0 ks p m in
    let P : List Entry × List ℕ → Type 0 = λ z. AreOwnPlaces c z.0 0 z.1 × (at_places z.0 z.1 ≡ at_places s ks ++ e.update ∷ []) in
    subst P (λ i. (sym is i, sym here i))
    (marked_snoc c h 0 ks e all (omega arith) by, places_snoc c h 0 ks e all ∙ ap (λ us. us ++ e.update ∷ []) (places_longer c s h 0 ks p m))

-- a caller has no more places than there are entries
pub marked_few : (c : ℕ) (h : List Entry) (low : ℕ) (ks : List ℕ) → AreOwnPlaces c h low ks → low ≤ length h → low + length ks ≤ length h
marked_few c h low [] m le = omega arith
marked_few c h low (k ∷ ks) m le =
    let in_it : k < length h = get_length h k m.1.0 m.1.1 in
    let rest = marked_few c h (k + 1) ks m.2 (omega arith) in
    let least = m.0 in omega (arith, rest, least)

-- what is kept is replaced by a version of a longer history
pub pass_longer : (c : ℕ) (h k known knows : List Entry) (ks : List ℕ) (parts amount : ℕ) → IsPass c h known ks parts amount → IsPrefix h k → IsPrefix k knows → IsPass c k knows ks parts amount
pass_longer c h k known knows ks parts amount p longer begins = record {
  caller_from = p.caller_from;
  caller_to = p.caller_to;
  reader = begins;
  marked = marked_longer c h k 0 ks longer p.marked;
  few = p.few;
  part = p.part;
  counted = p.counted;
}

-- the caller has one entry more, the last
pub pass_added : (c : ℕ) (s h n known knows : List Entry) (ks js : List ℕ) (place parts amount : ℕ) (e : Entry)
    → IsPass c s known ks parts amount → IsPrefix s h → n ≡ h ++ e ∷ [] → js ≡ ks ++ place ∷ [] → place ≡ length h
    → e.caller ≡ c → length h < 1048576 → IsPrefix n knows → (q b : ℕ) → q ≡ parts → b ≡ amount + 1 → IsPass c n knows js q b
pass_added c s h n known knows ks js place parts amount e p begins is more at by room known_by q b same one =
    let all = marked_after c s h n ks js place e begins p.marked is more at by in
    let longer : length n ≡ length h + 1 = ap length is ∙ length-append h (e ∷ []) in
    let places : length js ≡ length ks + 1 = ap length more ∙ length-append ks (place ∷ []) in
    let few = marked_few c n 0 js all.0 (omega arith) in
    record {
      caller_from = p.caller_from;
      caller_to = p.caller_to;
      reader = known_by;
      marked = all.0;
      few = omega (arith, few, longer, room);
      part = same ∙ p.part;
      counted = omega (arith, one, places, p.counted);
    }
