-- A handle that isn't empty holds a content.
use Rattle.std.proofs.Common.{◌≡◌, true, Option, None, Some, refl, sym, true≢false}
use Rattle.std.specs.Prelude.{is_some}

pub content_of : {A : Type 0} (o : Option A) → is_some o ≡ true → A
content_of None e = absurd (true≢false (sym e))
content_of (Some s) e = s

pub is_it : {A : Type 0} (o : Option A) (e : is_some o ≡ true) → o ≡ Some (content_of o e)
unfolding content_of
is_it None e = absurd (true≢false (sym e))
is_it (Some s) e = refl
