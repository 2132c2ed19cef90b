-- The versions of a log, and how far the numbers of each reach.
use Rattle.std.specs.Prelude.{ℕ, ℤ, pos, negsuc, Bool, true, false, ◌||◌, List, codes, if◌then◌else◌}
use Rattle.std.specs.Str.{bytes_eq}
use Rattle.scan_log.specs.declared.format.Format.{Format}
use Rattle.scan_log.specs.declared.format.Format.TheVariants.{One, Two}

-- the header's second field
abbrev pub version_field : Format → List ℕ
version_field One = codes "1"
version_field Two = codes "2"

-- the field names a version
abbrev pub is_version : List ℕ → Bool
is_version field = bytes_eq field (version_field One) || bytes_eq field (version_field Two)

-- the version that such a field names
abbrev pub format_of : List ℕ → Format
format_of field = if bytes_eq field (version_field Two) then Two else One

-- points expire in logs of version 2 alone: in the other that word is unknown
abbrev pub has_expiry : Format → Bool
has_expiry One = false
has_expiry Two = true

-- there are commands that logs of version 2 alone have
abbrev pub HasNewer : Format → Type 0
HasNewer One = ⊥
HasNewer Two = Unit {0}

-- the least coordinate, in millimetres
abbrev pub lowest : Format → ℤ
lowest One = negsuc 999999999
lowest Two = negsuc 1099511627775

-- the greatest coordinate
abbrev pub highest : Format → ℤ
highest One = pos 1000000000
highest Two = pos 1099511627776

-- the greatest number of a box's corner, one past the last coordinate
abbrev pub box_highest : Format → ℤ
box_highest One = pos 1000000001
box_highest Two = pos 1099511627777

-- how many numbers a point that is added or thinned has
abbrev pub width : Format → ℕ
width One = 3
width Two = 4

-- the greatest intensity of such a point
abbrev pub greatest_intensity : Format → ℕ
greatest_intensity One = 0
greatest_intensity Two = 65535

-- the greatest distance that may be asked for
abbrev pub farthest : Format → ℕ
farthest One = 4000000000
farthest Two = 4398046511104
