-- Hits that a search has met so far.
use Rattle.std.specs.Prelude.{◌≡◌, ℕ, ◌*◌, ◌^◌, ◌≤◌, ◌<◌, ◌⊎◌, Bool, true, false, List, [], ◌∷◌, length, nat_le}
use Rattle.std.specs.declared.option.Option.{Option}
use Rattle.std.specs.declared.option.Option.TheVariants.{None, Some}
use Rattle.map_fold.specs.declared.hits.Hit.{Hit}
use Rattle.map_fold.specs.Answers.{put_hit}

-- all of the first, the last first, each in its place in the second
abbrev pub put_all : List Hit → List Hit → List Hit
put_all [] hits = hits
put_all (h ∷ found) hits = put_hit h (put_all found hits)

-- a squared distance that the greatest distance admits, where one is given
abbrev pub is_admitted : Option ℕ → ℕ → Bool
is_admitted None d = true
is_admitted (Some r) d = nat_le d (r * r)

-- each hit is at least as far as this
abbrev pub AreFrom : ℕ → List Hit → Type 0
AreFrom d [] = Unit {0}
AreFrom d (h ∷ hits) = (d ≤ h.dist2) × AreFrom d hits

-- each hit is nearer than this
abbrev pub AreBefore : ℕ → List Hit → Type 0
AreBefore d [] = Unit {0}
AreBefore d (h ∷ hits) = (h.dist2 < d) × AreBefore d hits

-- no hit is farther than a later one
abbrev pub Recede : List Hit → Type 0
Recede [] = Unit {0}
Recede (h ∷ hits) = AreFrom h.dist2 hits × Recede hits

-- at most k hits, the nearest first
pub record AreNearestFirst (k : ℕ) (hits : List Hit) : Type 0 where
  pub few : length hits ≤ k
  pub recede : Recede hits

-- k hits are held, and all are nearer than this
pub record AreFull (k : ℕ) (hits : List Hit) (d : ℕ) : Type 0 where
  pub all : length hits ≡ k
  pub before : AreBefore d hits

-- The bound on squared distances of a search for k hits within r, which holds these.
pub record IsBound (k : ℕ) (r : Option ℕ) (hits : List Hit) (bound : ℕ) : Type 0 where
  pub held : AreNearestFirst k hits
  -- what is no farther is near enough
  pub admits : (d : ℕ) → d ≤ bound → is_admitted r d ≡ true
  -- what is farther isn't, or doesn't come among the hits
  pub beyond : (d : ℕ) → bound < d → d < 2 ^ 128 → (is_admitted r d ≡ false) ⊎ AreFull k hits d
