-- Labels, and what actions make of them.
use Rattle.std.specs.Prelude.{Bool, true, false}
use Rattle.node_labels.specs.declared.label.Label.{Label}
use Rattle.node_labels.specs.declared.label.Label.TheVariants.{Live, Suspended, Dropped}
use Rattle.node_labels.specs.declared.tag.Tag.{Tag}

-- a live point is found
abbrev pub is_live : Label → Bool
is_live Live = true
is_live Suspended = false
is_live Dropped = false

-- a suspended one isn't found, and may come back
abbrev pub is_suspended : Label → Bool
is_suspended Live = false
is_suspended Suspended = true
is_suspended Dropped = false

-- a dropped one is gone for good
abbrev pub is_dropped : Label → Bool
is_dropped Live = false
is_dropped Suspended = false
is_dropped Dropped = true

-- the label after an action: what is dropped stays dropped
abbrev pub apply : Tag → Label → Label
apply a Live = a.live
apply a Suspended = a.suspended
apply a Dropped = Dropped

-- the action that does the first, then the second
abbrev pub composed : Tag → Tag → Tag
composed first second = record { live = apply second first.live; suspended = apply second first.suspended }

-- each label stays what it is
abbrev pub keep_tag : Tag
keep_tag = record { live = Live; suspended = Suspended }

-- what is live or suspended is dropped
abbrev pub delete_tag : Tag
delete_tag = record { live = Dropped; suspended = Dropped }

-- what is live is suspended, and what is suspended stays so
abbrev pub suspend_tag : Tag
suspend_tag = record { live = Suspended; suspended = Suspended }

-- what is suspended is live again, and what is live stays so
abbrev pub restore_tag : Tag
restore_tag = record { live = Live; suspended = Live }

-- what is live is dropped, and what is suspended stays so
abbrev pub thin_tag : Tag
thin_tag = record { live = Dropped; suspended = Suspended }
