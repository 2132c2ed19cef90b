-- Lists that are filled slab by slab.
use Rattle.std.proofs.Common.{◌≡◌, ◌≤◌, ◌<◌, ◌+◌, ℕ, List, [], length, get_or, set, map, ap, sym, ◌∙◌, pos, arith, inl, inr}
use Rattle.std.proofs.lemmas.Bool.{cases_eq}
use Rattle.std.proofs.lemmas.Nat.{mod_below}
use Rattle.std.proofs.lemmas.List.{get_or-set_same, get_or-set_other, get_or_read, get_or-map, length-map, ext_get_or}
use Rattle.point_geom.specs.Place.{Place}
use Rattle.map_fold.specs.declared.hits.Hit.{Hit}
use Rattle.batch_near.specs.Slabs.{slab_of, AreFilled}

-- the list of each of the first n places is what f finds for it, where the place is in the slab
abbrev pub AreFilledTo : (Place → List Hit) → ℕ → ℕ → List Place → List (List Hit) → Type 0
AreFilledTo f slab n qs lists = (i : ℕ) (d : Place) → i < n → slab_of (get_or qs i d) ≡ slab → get_or lists i [] ≡ f (get_or qs i d)

-- a place of the slab gets its list, which changes none of the slabs before
pub put_before : (f : Place → List Hit) (qs : List Place) (lists : List (List Hit)) (slab n : ℕ) (q : Place) (x : List Hit) → n < length qs
    → q ≡ get_or qs n q → slab_of q ≡ slab → AreFilled f slab qs lists → AreFilled f slab qs (set lists n x)
put_before f qs lists slab n q x lt read here before i d l s =
    get_or-set_other lists n i x [] (λ e.
    let same = ap (λ j. slab_of (get_or qs j d)) e ∙ (sym (ap slab_of (get_or_read qs n q lt read d)) ∙ here) in omega (arith, s, same))
    ∙ before i d l s

pub put_next : (f : Place → List Hit) (qs : List Place) (lists : List (List Hit)) (slab n : ℕ) (q : Place) (x : List Hit) → n < length lists → n < length qs
    → q ≡ get_or qs n q → x ≡ f q → AreFilledTo f slab n qs lists → AreFilledTo f slab (n + 1) qs (set lists n x)
put_next f qs lists slab n q x room lt read found to i d l s = elim (cases_eq i n) [
  | inl e ↦
      ap (λ j. get_or (set lists n x) j []) e ∙ (get_or-set_same lists n x [] room ∙ (found ∙ (ap f (get_or_read qs n q lt read d)
      ∙ ap (λ j. f (get_or qs j d)) (sym e))))
  | inr other ↦ get_or-set_other lists n i x [] other ∙ to i d (omega (arith, l, other)) s
]

-- a place of another slab stays as it is
pub skip_next : (f : Place → List Hit) (qs : List Place) (lists : List (List Hit)) (slab n : ℕ) (q : Place) → n < length qs
    → q ≡ get_or qs n q → (slab_of q ≡ slab → ⊥) → AreFilledTo f slab n qs lists → AreFilledTo f slab (n + 1) qs lists
skip_next f qs lists slab n q lt read elsewhere to i d l s = elim (cases_eq i n) [
  | inl e ↦ absurd (elsewhere (ap slab_of (get_or_read qs n q lt read d) ∙ (ap (λ j. slab_of (get_or qs j d)) (sym e) ∙ s)))
  | inr other ↦ to i d (omega (arith, l, other)) s
]

-- all places were come to
pub all_filled : (f : Place → List Hit) (qs : List Place) (lists : List (List Hit)) (slab n : ℕ) → length qs ≤ n
    → AreFilled f slab qs lists → AreFilledTo f slab n qs lists → AreFilled f (slab + 1) qs lists
all_filled f qs lists slab n whole before to i d l s = elim (cases_eq (slab_of (get_or qs i d)) slab) [
  | inl e ↦ to i d (omega (arith, l, whole)) e
  | inr other ↦ before i d l (omega (arith, s, other))
]

below : (q : Place) → slab_of q < 32
unfolding slab_of
below q = mod_below _ 32 (omega arith)

-- all slabs were come to
pub filled-map : (f : Place → List Hit) (qs : List Place) (lists : List (List Hit)) (slabs : ℕ) → 32 ≤ slabs → length lists ≡ length qs
    → AreFilled f slabs qs lists → lists ≡ map f qs
filled-map f qs lists slabs all len filled = ext_get_or [] lists (map f qs) (len ∙ sym (length-map qs f)) each
  where
    origin : Place
    origin = record { x = pos 0; y = pos 0; z = pos 0; intensity = 0 }

    each : (i : ℕ) → i < length lists → get_or lists i [] ≡ get_or (map f qs) i []
    each i l =
        let lt : i < length qs = omega (arith, l, len) in
        let slab : slab_of (get_or qs i origin) < slabs = let few = below (get_or qs i origin) in omega (arith, few, all) in
        filled i origin lt slab ∙ sym (get_or-map f qs i origin [] lt)
