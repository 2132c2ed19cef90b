-- Steps that were passed, and the fault of those that were not.
use Rattle.std.proofs.Common.{◌≡◌, Bool, true, false, refl, Option, None, Some, Result, Ok, Err, ap}
use Rattle.std.specs.Prelude.{◌&&◌}
use Rattle.std.specs.Result.{IsErrAnd, result_err}
use Rattle.scan_log.specs.declared.fault.LogCause.{LogCause}
use Rattle.scan_log.specs.Steps.{◌>>=◌, given}
use Rattle.scan_log.specs.Faults.{◌orelse◌, fault_unless}

-- the fault that a step has is passed on
pub passed_on : {A E : Type 0} (r : Result A E) (e : E) → IsErrAnd r (λ y. y ≡ e) → r ≡ Err e
passed_on (Ok x) e h = absurd h
passed_on (Err y) e h = ap Err h

-- both tests pass
pub both : (a b : Bool) → (a && b) ≡ true → (a ≡ true) × (b ≡ true)
both true b h = (refl, h)
both false b h = cc

-- a test was passed
pub passed : {A E : Type 0} (b : Bool) (e : E) (r : Result A E) (x : A) → given b e r ≡ Ok x → (b ≡ true) × (r ≡ Ok x)
passed true e r x h = (refl, h)
passed false e r x h = cc

-- both steps gave something
pub bound : {A B E : Type 0} (r : Result A E) (f : A → Result B E) (y : B) → (r >>= f) ≡ Ok y
    → (x : A) × (r ≡ Ok x) × (f x ≡ Ok y)
bound (Ok x) f y h = (x, refl, h)
bound (Err e) f y h = cc

-- no fault_unless follows
pub orelse-None : {X : Type 0} (c : Option X) → c orelse None ≡ c
orelse-None None = refl
orelse-None (Some c) = refl

pub orelse_assoc : {X : Type 0} (a b c : Option X) → (a orelse b) orelse c ≡ a orelse (b orelse c)
orelse_assoc None b c = refl
orelse_assoc (Some a) b c = refl

-- the fault is the test's, or that of the step behind it
pub result_err-given : {A : Type 0} (b : Bool) (c : LogCause) (r : Result A LogCause)
    → result_err (given b c r) ≡ fault_unless b c orelse result_err r
result_err-given true c r = refl
result_err-given false c r = refl

-- the fault is the first step's, or that of the next
pub result_err-bind : {A B E : Type 0} (r : Result A E) (f : A → Result B E) (d : Option E)
    → ((x : A) → r ≡ Ok x → result_err (f x) ≡ d) → result_err (r >>= f) ≡ result_err r orelse d
result_err-bind (Ok x) f d h = h x refl
result_err-bind (Err e) f d h = refl

-- the fault is the first step's, where the next has none
pub result_err-last : {A B E : Type 0} (r : Result A E) (f : A → B) → result_err (r >>= λ x. Ok (f x)) ≡ result_err r
result_err-last (Ok x) f = refl
result_err-last (Err e) f = refl
