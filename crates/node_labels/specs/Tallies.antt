-- How many there are of each label.
use Rattle.std.specs.Prelude.{ℕ, ◌+◌, List, [], ◌∷◌}
use Rattle.node_labels.specs.declared.label.Label.{Label}
use Rattle.node_labels.specs.declared.label.Label.TheVariants.{Live, Suspended, Dropped}
use Rattle.node_labels.specs.declared.tag.Tag.{Tag}
use Rattle.node_labels.specs.declared.counts.Counts.{Counts}

-- nothing was counted
abbrev pub none : Counts
none = record { live = 0; suspended = 0; dropped = 0 }

-- n of one label
abbrev pub counted : Label → ℕ → Counts
counted Live n = record none { live = n }
counted Suspended n = record none { suspended = n }
counted Dropped n = record none { dropped = n }

-- two counts together, label by label
abbrev pub added : Counts → Counts → Counts
added a b = record { live = a.live + b.live; suspended = a.suspended + b.suspended; dropped = a.dropped + b.dropped }

-- the counts after an action on all that was counted
abbrev pub applied : Tag → Counts → Counts
applied a c = added (counted Dropped c.dropped) (added (counted a.live c.live) (counted a.suspended c.suspended))

-- how many were counted
abbrev pub total : Counts → ℕ
total c = c.live + c.suspended + c.dropped

-- the counts of a list of labels
abbrev pub label_counts : List Label → Counts
label_counts [] = none
label_counts (x ∷ xs) = added (counted x 1) (label_counts xs)
