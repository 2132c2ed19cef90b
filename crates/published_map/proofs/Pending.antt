-- Of several pending versions the last one counts.
use Rattle.std.proofs.Common.{◌≡◌, List, [], ◌∷◌, ◌++◌, fold, refl, sym, ap, ◌∙◌}
use mathlib.Core.List.{IsPrefix}
use Rattle.map_items.specs.declared.entry.Entry.{Entry}

last_counts : {A : Type 0} (b : A) (xs : List A) (x : A) → fold (λ _ s. s) b (xs ++ x ∷ []) ≡ x
last_counts b [] x = refl
last_counts b (y ∷ ys) x = last_counts y ys x

-- where the last version goes on from h, what is published begins with h
pub grows_by : (h : List Entry) (old new : List (List Entry)) (op more : List Entry) → new ≡ old ++ op ∷ [] → op ≡ h ++ more → IsPrefix h (fold (λ _ s. s) h new)
grows_by h old new op more is goes =
    (more, sym goes ∙ sym (ap (λ xs. fold (λ _ s. s) h xs) is ∙ last_counts h old op))
