use Rattle.std.proofs.Common.{◌≡◌, ℕ, true, false, List, [], ◌∷◌, ◌++◌, ◌+◌, ◌-◌, ◌<◌, ap, append_assoc, arith, drop, length, length-append, refl, suc, sym, take, ◌∙◌}
use Rattle.point_geom.specs.Place.{Bounds}
use Rattle.map_items.specs.declared.item.Item.{Item}
use Rattle.map_fold.specs.Answers.{inside_all}
use Rattle.map_items.proofs.Numbered.{drop-at}
use Rattle.map_fold.proofs.Thinning.{inside_by, is_live_in}
use Rattle.map_fold.proofs.plain_map.inside_of.Goals.{then-is_live_in+in_ok-push, else-is_live_in}
use Rattle.map_fold.proofs.plain_map.inside_of.Goals as goal

inside_pushed : (found : List Item) (most : ℕ) (c : Bounds) (i : Item) (rest : List Item) → length found < most → is_live_in c i ≡ true
    → (found ++ i ∷ []) ++ take (most - length (found ++ i ∷ [])) (inside_all rest c) ≡ found ++ take (most - length found) (inside_all (i ∷ rest) c)
inside_pushed found most c i rest room e =
    let here : inside_all (i ∷ rest) c ≡ i ∷ inside_all rest c = inside_by c (i ∷ rest) ∙ rw e (ap (λ xs. i ∷ xs) (sym (inside_by c rest))) in
    let left : most - length found ≡ suc (most - length (found ++ i ∷ [])) = omega (arith, length-append found (i ∷ [])) in
    rw (here, left) (append_assoc found (i ∷ []) (take (most - length (found ++ i ∷ [])) (inside_all rest c)))

inside_passed : (c : Bounds) (i : Item) (rest : List Item) → is_live_in c i ≡ false → inside_all rest c ≡ inside_all (i ∷ rest) c
inside_passed c i rest e = inside_by c rest ∙ sym (inside_by c (i ∷ rest) ∙ rw e refl)

pub loop-item-preserved : goal.loop-item-preserved
loop-item-preserved c =
    let i = c.item-item.result in
    let at = c.loop-item.item-index in
    let box = c.args.c.now in
    let items = c.args.items.now in
    let most = c.args.most in
    let found = c.loop-item.found in
    let rest = drop (at + 1) items in
    let cut : drop at items ≡ i ∷ rest = drop-at items _ at i (omega arith) (omega arith) c.item-item.is in
    let before = ap (λ xs. found ++ take (most - length found) (inside_all xs box)) (sym cut) ∙ c.loop-item.invariant.rest in
    elim c.if-is_live_in.branch [
      | then-is_live_in+in_ok-push w ↦
          let now = w.found-is ∙ w.in_ok-push.ensures.ok in
          record {
            few = rw now (omega (arith, length-append found (i ∷ [])));
            rest = rw now (inside_pushed found most box i rest (omega arith) (sym c.is_live_in.ensures ∙ w.if-is_live_in.true) ∙ before);
          }
      | else-is_live_in w ↦
          record {
            few = rw w.found-is c.loop-item.invariant.few;
            rest = rw (w.found-is, inside_passed box i rest (sym c.is_live_in.ensures ∙ w.if-is_live_in.false)) before;
          }
    ]
