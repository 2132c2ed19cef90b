-- An action on the chosen items, as it is done: in a subtree that the choice covers it is pending, and one that it
-- misses is left alone.
use Rattle.std.specs.Prelude.{◌≡◌, ℕ, Bool, true, not, ◌&&◌, if◌then◌else◌}
use Rattle.map_items.specs.declared.choice.Choice.{Choice}
use Rattle.node_labels.specs.Labels.{composed, keep_tag}
use Rattle.node_labels.specs.declared.tag.Tag.{Tag}
use Rattle.map_items.specs.Contents.{relabelled, marked_item, chosen_by}
use Rattle.kd_tree.specs.Shape.{Shape, leaf, fork}
use Rattle.kd_tree.specs.Walk.{tagged}
use Rattle.kd_mark.specs.Reach.{covers, meets, reach_of}
use Rattle.kd_mark.specs.declared.reach.Reach.{Reach}
use Rattle.kd_mark.specs.Refresh.{IsNotDue}

-- the tree after the action on the chosen items, where the action p is pending above it, and nothing is rebuilt
unfoldable pub marked_under : Choice → Tag → Tag → Shape → Shape
marked_under c a p leaf = leaf
marked_under c a p (fork h l r) =
    if meets c (reach_of h l r) then
    (if covers c (reach_of h l r) then tagged a (tagged p (fork h l r))
    else fork (record h { item = marked_item (chosen_by c) a (relabelled p h.item); pending = keep_tag }) (marked_under c a (composed h.pending p) l) (marked_under c a (composed h.pending p) r))
    else tagged p (fork h l r)

-- the tree after the action on the chosen items, where nothing is pending above it, and nothing is rebuilt
abbrev pub marked_shape : Choice → Tag → Shape → Shape
marked_shape c a t = marked_under c a keep_tag t

-- the choice meets what is there and doesn't cover it
abbrev pub is_entered : Choice → Reach → Bool
is_entered c e = meets c e && not (covers c e)

-- no node that the choice enters is to be rebuilt
unfoldable pub RebuildsNoneEntered : ℕ → Choice → Shape → Type 0
RebuildsNoneEntered large c leaf = Unit {0}
RebuildsNoneEntered large c (fork h l r) = is_entered c (reach_of h l r) ≡ true → IsNotDue large (fork h l r) × RebuildsNoneEntered large c l × RebuildsNoneEntered large c r
