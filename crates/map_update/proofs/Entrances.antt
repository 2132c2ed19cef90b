-- The loop over the entrants of a scan: what stays true as one after the other thins its voxel.
use Rattle.std.proofs.Common.{◌≡◌, ℕ, ◌≤◌, ◌⊎◌, ◌∙◌, [], ◌∷◌, ◌++◌, inl, inr, true, false, Bool, List, ap, subst, sym}
use Rattle.std.specs.Prelude.{All, ◌||◌}
use Rattle.std.proofs.lemmas.Bool.{cases_Bool, true≢false}
use Rattle.std.proofs.lemmas.List.Elements.{All-append, All-cons, All-head, All-nil, All-tail}
use Rattle.std.proofs.lemmas.List.Folds.{list_any-append}
use Rattle.point_geom.specs.Place.{Place, Bounds}
use Rattle.point_geom.specs.Boxes.{holds, voxel}
use Rattle.point_geom.proofs.Laws.{voxel_held}
use Rattle.map_items.specs.declared.item.Item.{Item}
use Rattle.map_items.specs.Contents.{in_box}
use Rattle.map_update.specs.declared.waiting.Waiting.{Waiting}
use Rattle.map_update.specs.Clearing.{in_some}
use Rattle.map_update.specs.Waiting.{AreClear, IsClear, IsJoined}
use Rattle.map_update.proofs.Voxels.{voxel_of}

-- where nothing waits or is to be thinned, each voxel is clear
pub none_clear : (edge : ℕ) (w : Waiting) (is : List Item) → w.cuboids.items ≡ [] → w.items.items ≡ [] → AreClear edge w is
none_clear edge w [] unthinned none = All-nil (λ (i : Item). IsClear (voxel edge i.point) w)
none_clear edge w (i ∷ is) unthinned none =
    All-cons (λ (j : Item). IsClear (voxel edge j.point) w) i is
    (record {
      none = subst (All (λ u. in_box (voxel edge i.point) u ≡ false)) (sym none) (All-nil (λ u. in_box (voxel edge i.point) u ≡ false));
      apart = λ k there. ap (λ (cs : List Bounds). in_some cs k) unthinned;
    })
    (none_clear edge w is unthinned none)

-- what lies in one voxel doesn't lie in the voxel of a point outside
not_in : (edge : ℕ) (p q r : Place) → 1 ≤ edge → holds (voxel edge p) q ≡ true → holds (voxel edge p) r ≡ false → holds (voxel edge r) q ≡ false
not_in edge p q r from there apart =
    elim (cases_Bool (holds (voxel edge r) q)) [
      | inl e ↦
          let same : voxel edge r ≡ voxel edge p = sym (voxel_of edge r q from e) ∙ voxel_of edge p q from there in
          let held : holds (voxel edge p) r ≡ true = ap (λ (b : Bounds). holds b r) (sym same) ∙ voxel_held edge r from in
          absurd (cc)
      | inr e ↦ e
    ]

neither : (a b : Bool) → a ≡ false → b ≡ false → (a || (b || false)) ≡ false
neither true b e f = absurd (true≢false e)
neither false true e f = absurd (true≢false f)
neither false false e f = e

-- a box more, in the voxel of i, has nothing in common with that of j
apart_more : (edge : ℕ) (i j : Item) (d : Bounds) (cs : List Bounds) (k : Item) → 1 ≤ edge → holds (voxel edge i.point) j.point ≡ false
    → ((u : Item) → in_box d u ≡ true → in_box (voxel edge i.point) u ≡ true) → in_box (voxel edge j.point) k ≡ true
    → in_some cs k ≡ false → in_some (cs ++ d ∷ []) k ≡ false
apart_more edge i j d cs k from apart part there old =
    list_any-append (λ (c : Bounds). in_box c k) cs (d ∷ [])
    ∙ neither (in_some cs k) (in_box d k) old
    (elim (cases_Bool (in_box d k)) [
      | inl e ↦ absurd (true≢false (sym there ∙ not_in edge i.point k.point j.point from (part k e) apart))
      | inr e ↦ e
    ])

one_clear : (edge : ℕ) (i j : Item) (v w : Waiting) → 1 ≤ edge → holds (voxel edge i.point) j.point ≡ false
    → IsClear (voxel edge j.point) v → IsJoined (voxel edge i.point) v w → IsClear (voxel edge j.point) w
one_clear edge i j v w from apart clear joined = record {
  none = waits joined.items;
  apart = λ k there. thinned k there joined.cuboids;
}
  where
    P : Item → Type 0
    P u = in_box (voxel edge j.point) u ≡ false

    waits : (w.items.items ≡ v.items.items) ⊎ ((u : Item) × (in_box (voxel edge i.point) u ≡ true) × (w.items.items ≡ v.items.items ++ u ∷ [])) → All P w.items.items
    waits (inl same) = subst (All P) (sym same) clear.none
    waits (inr more) =
        let u = more.0 in
        subst (All P) (sym more.2) (All-append P v.items.items (u ∷ []) clear.none (All-cons P u [] (not_in edge i.point u.point j.point from more.1 apart) (All-nil P)))

    thinned : (k : Item) → in_box (voxel edge j.point) k ≡ true
        → (w.cuboids.items ≡ v.cuboids.items) ⊎ ((d : Bounds) × ((u : Item) → in_box d u ≡ true → in_box (voxel edge i.point) u ≡ true) × (w.cuboids.items ≡ v.cuboids.items ++ d ∷ []))
        → in_some w.cuboids.items k ≡ false
    thinned k there (inl same) = ap (λ (cs : List Bounds). in_some cs k) same ∙ clear.apart k there
    thinned k there (inr more) = ap (λ (cs : List Bounds). in_some cs k) more.2 ∙ apart_more edge i j more.0 v.cuboids.items k from apart more.1 there (clear.apart k there)

-- one box more that is thinned and one item more that waits, from a voxel in which none of the others lies
pub still_clear : (edge : ℕ) (i : Item) (is : List Item) (v w : Waiting) → 1 ≤ edge
    → All (λ j. holds (voxel edge i.point) j.point ≡ false) is → AreClear edge v is → IsJoined (voxel edge i.point) v w
    → AreClear edge w is
still_clear edge i [] v w from apart clear joined = All-nil (λ (j : Item). IsClear (voxel edge j.point) w)
still_clear edge i (j ∷ is) v w from apart clear joined =
    let A : Item → Type 0 = λ x. holds (voxel edge i.point) x.point ≡ false in
    let C : Item → Type 0 = λ x. IsClear (voxel edge x.point) v in
    All-cons (λ (x : Item). IsClear (voxel edge x.point) w) j is (one_clear edge i j v w from (All-head A j is apart) (All-head C j is clear) joined)
    (still_clear edge i is v w from (All-tail A j is apart) (All-tail C j is clear) joined)
