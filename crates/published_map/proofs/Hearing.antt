-- What an entry shows.
use Rattle.std.proofs.Common.{◌≡◌, List, subst}
use mathlib.Core.List.{IsPrefix}
use Rattle.map_items.specs.declared.entry.Entry.{Entry}
use Rattle.shown_versions.proofs.Prefixes.{prefix_self, prefix_trans}

-- what a place knew is a prefix of what it got
pub caught : (s v r w : List Entry) → IsPrefix s v → IsPrefix v r → r ≡ w → IsPrefix s w
caught s v r w p q is = subst (λ (z : List Entry). IsPrefix s z) is (prefix_trans s v r p q)

-- equal lists are prefixes of each other
pub begins : (s v : List Entry) → s ≡ v → IsPrefix s v
begins s v is = subst (λ (z : List Entry). IsPrefix s z) is (prefix_self s)
