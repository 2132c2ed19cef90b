-- What is sought of a tree. Cited by private functions alone.
use Rattle.std.specs.Prelude.{ℕ, Bool, true, ◌&&◌, List, Option, filter, nat_le}
use Rattle.node_labels.specs.Labels.{is_live}
use Rattle.map_items.specs.declared.item.Item.{Item}
use Rattle.map_items.specs.Contents.{in_box, is_above}
use Rattle.map_fold.specs.Neighbours.{is_near}
use Rattle.item_lists.specs.declared.sought.Sought.{Sought}
use Rattle.item_lists.specs.declared.sought.Sought.TheVariants.{Held, InBox, InBall}

-- an item that isn't dropped is one of those that are sought
abbrev pub has : Sought → Item → Bool
has Held i = true
has (InBox c) i = is_live i.label && in_box c i
has (InBall q d) i = is_live i.label && is_near q d i

-- those of a list that are sought, under the numbers from this one on, and below the bound where there is one
abbrev pub wanted : ℕ → Option ℕ → Sought → List Item → List Item
wanted from b s m = filter (λ i. is_above b i.number && (has s i && nat_le from i.number)) m
