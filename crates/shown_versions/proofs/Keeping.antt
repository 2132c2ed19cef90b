-- Each kind of step keeps the rule.
use Rattle.std.proofs.Common.{◌≡◌, ℕ, ◌≢◌, List, [], ◌∷◌, ◌++◌, set, refl, subst, ⊎_elim}
use mathlib.Core.Option.{some}
use mathlib.Core.List.{IsPrefix}
use lib.ListN.{get_elem?}
use Rattle.crossbeam_utils.specs.Register.{Admits, Turns, TurnsAt}
use Rattle.atomic_table.proofs.Lists.{at_set, at_snoc}
use Rattle.map_items.specs.declared.entry.Entry.{Entry}
use Rattle.shown_versions.specs.Rules.{Keeps, PublishStep, EnterStep}
use Rattle.shown_versions.proofs.Prefixes.{prefix_self, prefix_trans}

keeps_set : (h : List Entry) (views : List (List Entry)) (seat : ℕ) (w : List Entry) → Keeps h views → IsPrefix w h → Keeps h (set views seat w)
keeps_set h views seat w k f j u e =
    ⊎_elim (λ (t : (j ≡ seat) × (w ≡ u)). subst (λ (z : List Entry). IsPrefix z h) t.1 f) (λ (t : (j ≢ seat) × (get_elem? views j ≡ some u)). k j u t.1) (at_set views seat j w u e)

keeps_snoc : (h : List Entry) (views : List (List Entry)) (w : List Entry) → Keeps h views → IsPrefix w h → Keeps h (views ++ w ∷ [])
keeps_snoc h views w k f j u e = ⊎_elim (k j u) (λ (t : w ≡ u). subst (λ (z : List Entry). IsPrefix z h) t f) (at_snoc views w u j e)

-- the pair is made
pub makes : (x : List Entry) → Keeps x ([] ∷ [])
makes x j u e = keeps_snoc x [] [] (λ j u e. absurd cc) (x, refl) j u e

-- a reader place is made
pub admits : Admits Keeps []
admits x views k = keeps_snoc x views [] k (x, refl)

pub publishes : (seat : ℕ) (v x y : List Entry) → IsPrefix x y → TurnsAt Keeps seat v x y PublishStep
publishes seat v x y up views k at =
    (y, keeps_set y views seat y (λ j u e. prefix_trans u x y (k j u e) up) (prefix_self y), refl)

pub enters : (seat : ℕ) (v : List Entry) → Turns Keeps seat v (λ x. x) EnterStep
enters seat v x views k at = (x, keeps_set x views seat x k (prefix_self x), (k seat v at, refl))
