-- Scans that are put or thinned by at once, since nothing is watched.
use Rattle.std.proofs.Common.{◌≡◌, ℕ, ◌<◌, List, [], ◌∷◌, refl, sym, subst, ◌∙◌}
use Rattle.std.specs.Prelude.{All}
use Rattle.kd_tree.specs.Shape.{numbers}
use Rattle.kd_mark.specs.Several.{IsBalancedClear}
use Rattle.kd_mark.specs.Update.{IsBalancedBelow}
use Rattle.kd_mark.proofs.Several.{clear_balanced, balanced_clear}
use Rattle.map_update.specs.Draft.{IsDraft, IsDraftLeft}
use Rattle.map_update.specs.declared.draft.Draft.{Draft}
use Rattle.kd_update.specs.Detached.{PartAt, paths, watches_of}
use Rattle.map_update.proofs.Detached.{left_none}

none_watched : (ps : List PartAt) → [] ≡ watches_of ps → ps ≡ []
none_watched [] e = refl
none_watched (p ∷ ps) e = absurd (cc)

-- where nothing is watched the whole tree is balanced
pub free_balanced : (large next last : ℕ) (ps : List PartAt) (w : Draft) → w.watches ≡ [] → IsDraft large next last ps w → IsBalancedBelow large w.tree
free_balanced large next last ps w free d =
    let none = none_watched ps (sym free ∙ d.watched) in
    clear_balanced large w.tree (subst (λ (qs : List PartAt). IsBalancedClear large (paths qs) w.tree) none d.balanced)

-- and a balanced tree with numbers below the next is a draft
pub free_draft : (large next last : ℕ) (ps : List PartAt) (w : Draft) → w.watches ≡ [] → All (λ n. n < next) (numbers w.tree) → IsBalancedBelow large w.tree → IsDraftLeft large next last ps w
free_draft large next last ps w free below balanced = (
  [],
  left_none ps,
  record {
    watched = free;
    parts = record { each = tt; apart = tt; slots = tt; tickets = tt };
    balanced = balanced_clear large w.tree balanced;
    below = below;
  },
)
