-- Trees that are taken apart.
use Rattle.std.proofs.Common.{◌≡◌, Some}
use Rattle.kd_tree.specs.Shape.{Shape, fork}
use Rattle.kd_tree.specs.Sound.{IsSound, IsSoundFork}
use Rattle.kd_tree.specs.Parts.{pushed}
use Rattle.kd_tree.specs.declared.change.Fork.{Fork}
use Rattle.kd_tree.proofs.Actions.{pushed_sound}
use Rattle.kd_mark.specs.Refresh.{IsRefresh}
use Rattle.kd_mark.proofs.Trees.{at_pushed}
use Rattle.kd_mark.proofs.Refresh.{head, refresh_pushed}

-- what holds of a tree that is taken apart
pub record IsApart (s : Shape) (f : Fork) : Type 0 where
  pub sound : IsSoundFork (head f.item f.axis) f.left f.right
  pub refresh : IsRefresh s (fork (head f.item f.axis) f.left f.right)

pub apart : (s : Shape) (f : Fork) → Some f ≡ pushed s → IsSound s → IsApart s f
apart s f x = at_pushed (λ z g. IsSound z → IsApart z g) s f x (λ h l r k. record { sound = (pushed_sound h l r k).0; refresh = refresh_pushed h l r })
