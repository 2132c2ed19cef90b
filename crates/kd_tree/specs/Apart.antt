-- Several paths at once, and nodes that are clear of them.
use Rattle.std.specs.Prelude.{◌≡◌, ℕ, ◌+◌, ◌≤◌, Bool, true, false, ◌&&◌, nat_le, List, [], ◌∷◌, Option, Some, None, if◌then◌else◌}
use Rattle.kd_tree.specs.Shape.{Shape, leaf, fork, nodes}
use Rattle.kd_tree.specs.Parts.{at}
use Rattle.kd_tree.specs.Criteria.{MeetsCriteria, is_breached, on_side, first_of, IsEarlier}
use Rattle.kd_tree.specs.declared.path.Side.{Side}
use Rattle.kd_tree.specs.declared.path.Side.TheVariants.{Left, Right}

-- neither path begins with the other
abbrev pub AreApart : List Side → List Side → Type 0
AreApart [] q = ⊥
AreApart (side ∷ p) [] = ⊥
AreApart (Left ∷ p) (Left ∷ q) = AreApart p q
AreApart (Left ∷ p) (Right ∷ q) = Unit {0}
AreApart (Right ∷ p) (Left ∷ q) = Unit {0}
AreApart (Right ∷ p) (Right ∷ q) = AreApart p q

-- the path is apart from each of the others
abbrev pub IsClear : List Side → List (List Side) → Type 0
IsClear p [] = Unit {0}
IsClear p (q ∷ qs) = AreApart p q × IsClear p qs

-- each two of the paths are apart
abbrev pub AreAllApart : List (List Side) → Type 0
AreAllApart [] = Unit {0}
AreAllApart (p ∷ ps) = IsClear p ps × AreAllApart ps

-- one of the paths ends here
abbrev pub is_here : List (List Side) → Bool
is_here [] = false
is_here ([] ∷ ps) = true
is_here ((side ∷ p) ∷ ps) = is_here ps

-- those that go on to a side, from there
abbrev pub onward : Side → List (List Side) → List (List Side)
onward side [] = []
onward side ([] ∷ ps) = onward side ps
onward Left ((Left ∷ p) ∷ ps) = p ∷ onward Left ps
onward Left ((Right ∷ p) ∷ ps) = onward Left ps
onward Right ((Left ∷ p) ∷ ps) = onward Right ps
onward Right ((Right ∷ p) ∷ ps) = p ∷ onward Right ps

-- those that go on to the place that a path leads to, from there
abbrev pub beyond : List Side → List (List Side) → List (List Side)
beyond [] ps = ps
beyond (side ∷ path) ps = beyond path (onward side ps)

-- there is no path
abbrev pub is_none_left : List (List Side) → Bool
is_none_left [] = true
is_none_left (p ∷ ps) = false

-- the path of the first node of at least `least` nodes that breaches a criterion and is clear of the paths: node, left,
-- right
abbrev pub first_free : ℕ → List (List Side) → Shape → Option (List Side)
first_free least ps leaf = None
first_free least ps (fork h l r) =
    if is_here ps then None
    else (if is_none_left ps && nat_le least (nodes l + nodes r + 1) && is_breached (fork h l r) then Some []
    else first_of (on_side Left (first_free least (onward Left ps) l)) (on_side Right (first_free least (onward Right ps) r)))

-- each node of at least `least` nodes that is clear of the paths meets both criteria
abbrev pub AllClearMeetCriteria : ℕ → List (List Side) → Shape → Type 0
AllClearMeetCriteria least ps t = (p : List Side) (s : Shape) → at p t ≡ Some s → IsClear p ps → least ≤ nodes s → MeetsCriteria s

-- such a node that doesn't is at the path, clear of the others, and none is earlier
pub record IsFirstFree (least : ℕ) (ps : List (List Side)) (t : Shape) (path : List Side) : Type 0 where
  pub node : Shape
  pub there : at path t ≡ Some node
  pub clear : IsClear path ps
  pub large : least ≤ nodes node
  pub breach : MeetsCriteria node → ⊥
  pub before : (p : List Side) (s : Shape) → IsEarlier p path → at p t ≡ Some s → IsClear p ps → least ≤ nodes s → MeetsCriteria s
