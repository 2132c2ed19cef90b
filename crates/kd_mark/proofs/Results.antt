-- Results of calls that may fail.
use Rattle.std.proofs.Common.{Result, Ok, Err, IfOk}

-- two facts of the value, if there is one
pub ok_both : {X Y : Type 0} (r : Result X Y) (P Q R : X → Type 0) → ((x : X) → P x → Q x → R x) → IfOk r P → IfOk r Q → IfOk r R
ok_both (Ok x) P Q R f p q = f x p q
ok_both (Err e) P Q R f p q = tt

pub ok_three : {X E : Type 0} (r : Result X E) (P Q S R : X → Type 0) → ((x : X) → P x → Q x → S x → R x) → IfOk r P → IfOk r Q → IfOk r S → IfOk r R
ok_three (Ok x) P Q S R f p q s = f x p q s
ok_three (Err e) P Q S R f p q s = tt
