-- Several paths at once.
use Rattle.std.proofs.Common.{◌≡◌, Bool, true, false, not, ◌||◌, refl, ap, sym, ◌≢◌, ◌∙◌, List, [], ◌∷◌, ◌++◌, length, append-nil, arith}
use Rattle.std.specs.Bool.{Decides}
use Rattle.std.specs.List.{list_any}
use Rattle.kd_tree.specs.contracts.path.SidePartialEq.TheImpl.{eq-value}
use Rattle.kd_tree.specs.Apart.{IsClear, is_here, is_none_left, onward, beyond}
use Rattle.kd_tree.specs.declared.path.Side.{Side}
use Rattle.kd_tree.specs.declared.path.Side.TheVariants.{Left, Right}

-- the top is clear of no path
pub clear_top : (ps : List (List Side)) → IsClear [] ps → is_none_left ps ≡ true
clear_top [] clear = refl
clear_top (p ∷ ps) clear = absurd clear.0

pub top_clear : (ps : List (List Side)) → is_none_left ps ≡ true → IsClear [] ps
top_clear [] e = tt
top_clear (p ∷ ps) e = cc

-- a path that is clear of the others goes on where none of them ends
pub clear_past : (p : List Side) (ps : List (List Side)) → IsClear p ps → is_here ps ≡ false
clear_past p [] clear = refl
clear_past [] ([] ∷ ps) clear = absurd clear.0
clear_past (side ∷ p) ([] ∷ ps) clear = absurd clear.0
clear_past p ((side ∷ q) ∷ ps) clear = clear_past p ps clear.1

-- and is clear of those that go on to its side
pub clear_onward : (side : Side) (p : List Side) (ps : List (List Side)) → IsClear (side ∷ p) ps → IsClear p (onward side ps)
clear_onward side p [] clear = tt
clear_onward side p ([] ∷ ps) clear = absurd clear.0
clear_onward Left p ((Left ∷ q) ∷ ps) clear = (clear.0, clear_onward Left p ps clear.1)
clear_onward Left p ((Right ∷ q) ∷ ps) clear = clear_onward Left p ps clear.1
clear_onward Right p ((Left ∷ q) ∷ ps) clear = clear_onward Right p ps clear.1
clear_onward Right p ((Right ∷ q) ∷ ps) clear = (clear.0, clear_onward Right p ps clear.1)

pub onward_clear : (side : Side) (p : List Side) (ps : List (List Side)) → is_here ps ≡ false → IsClear p (onward side ps) → IsClear (side ∷ p) ps
onward_clear side p [] past clear = tt
onward_clear side p ([] ∷ ps) past clear = absurd cc
onward_clear Left p ((Left ∷ q) ∷ ps) past clear = (clear.0, onward_clear Left p ps past clear.1)
onward_clear Left p ((Right ∷ q) ∷ ps) past clear = (tt, onward_clear Left p ps past clear)
onward_clear Right p ((Left ∷ q) ∷ ps) past clear = (tt, onward_clear Right p ps past clear)
onward_clear Right p ((Right ∷ q) ∷ ps) past clear = (clear.0, onward_clear Right p ps past clear.1)

-- the paths that go on from a child
beyond-append : (path : List Side) (side : Side) (ps : List (List Side)) → beyond (path ++ side ∷ []) ps ≡ onward side (beyond path ps)
beyond-append [] side ps = refl
beyond-append (s ∷ path) side ps = beyond-append path side (onward s ps)

pub beyond-down : (path down : List Side) (side : Side) (ps : List (List Side)) → down ≡ path ++ side ∷ [] → beyond down ps ≡ onward side (beyond path ps)
beyond-down path down side ps below = ap (λ (p : List Side). beyond p ps) below ∙ beyond-append path side ps

beyond-none : (path : List Side) → beyond path [] ≡ []
beyond-none [] = refl
beyond-none (s ∷ path) = beyond-none path

-- each path goes on by itself
pub beyond-cons : (path p : List Side) (ps : List (List Side)) → beyond path (p ∷ ps) ≡ beyond path (p ∷ []) ++ beyond path ps
beyond-cons [] p ps = refl
beyond-cons (s ∷ path) [] ps = ap (λ (z : List (List Side)). z ++ beyond path (onward s ps)) (sym (beyond-none path))
beyond-cons (Left ∷ path) (Left ∷ p) ps = beyond-cons path p (onward Left ps)
beyond-cons (Left ∷ path) (Right ∷ p) ps = ap (λ (z : List (List Side)). z ++ beyond path (onward Left ps)) (sym (beyond-none path))
beyond-cons (Right ∷ path) (Left ∷ p) ps = ap (λ (z : List (List Side)). z ++ beyond path (onward Right ps)) (sym (beyond-none path))
beyond-cons (Right ∷ path) (Right ∷ p) ps = beyond-cons path p (onward Right ps)

-- what a path has after this one, where it begins with it
pub beyond_rest : (path rest : List Side) → beyond path ((path ++ rest) ∷ []) ≡ rest ∷ []
beyond_rest [] rest = refl
beyond_rest (Left ∷ path) rest = beyond_rest path rest
beyond_rest (Right ∷ path) rest = beyond_rest path rest

-- and nothing where it doesn't
pub beyond_other : (path p : List Side) → ((rest : List Side) → p ≢ path ++ rest) → beyond path (p ∷ []) ≡ []
beyond_other [] p other = absurd (other p refl)
beyond_other (s ∷ path) [] other = beyond-none path
beyond_other (Left ∷ path) (Left ∷ p) other = beyond_other path p (λ rest e. other rest (ap (λ (z : List Side). Left ∷ z) e))
beyond_other (Left ∷ path) (Right ∷ p) other = beyond-none path
beyond_other (Right ∷ path) (Left ∷ p) other = beyond-none path
beyond_other (Right ∷ path) (Right ∷ p) other = beyond_other path p (λ rest e. other rest (ap (λ (z : List Side). Right ∷ z) e))

-- `==` on sides decides whether they are the same
pub same_side : (s t : Side) → Decides (eq-value.it s t) (s ≡ t)
same_side Left Left = (λ e. refl, λ e. refl)
same_side Left Right = (λ e. cc, λ e. cc)
same_side Right Left = (λ e. cc, λ e. cc)
same_side Right Right = (λ e. refl, λ e. refl)

not_here : {X : Type 0} → false ≡ true → X
not_here e = cc

only_here : (path p : List Side) → is_here (beyond path (p ∷ [])) ≡ true → p ≡ path
only_here [] [] e = refl
only_here [] (s ∷ p) e = cc
only_here (s ∷ path) [] e = not_here (ap is_here (sym (beyond-none path)) ∙ e)
only_here (Left ∷ path) (Left ∷ p) e = ap (λ (z : List Side). Left ∷ z) (only_here path p e)
only_here (Left ∷ path) (Right ∷ p) e = not_here (ap is_here (sym (beyond-none path)) ∙ e)
only_here (Right ∷ path) (Left ∷ p) e = not_here (ap is_here (sym (beyond-none path)) ∙ e)
only_here (Right ∷ path) (Right ∷ p) e = ap (λ (z : List Side). Right ∷ z) (only_here path p e)

-- a path ends here where it is the one that leads here
pub ends_here : (path p : List Side) → Decides (is_here (beyond path (p ∷ []))) (p ≡ path)
ends_here path p = (only_here path p, λ is. ap (λ (z : List Side). is_here (beyond path (z ∷ []))) (is ∙ sym (append-nil path)) ∙ ap is_here (beyond_rest path []))

-- whether a path leads on, from whether it begins with this one
pub leads_on : (path p : List Side) (b : Bool) → (b ≡ true → (rest : List Side) × (p ≡ path ++ rest))
    → ((rest : List Side) → p ≡ path ++ rest → b ≡ true) → b ≡ not (is_none_left (beyond path (p ∷ [])))
leads_on path p true begins other =
    let k = begins refl in sym (ap (λ (z : List Side). not (is_none_left (beyond path (z ∷ [])))) k.1 ∙ ap (λ (z : List (List Side)). not (is_none_left z)) (beyond_rest path k.0))
leads_on path p false begins other = sym (ap (λ (z : List (List Side)). not (is_none_left z)) (beyond_other path p (λ rest is. let no = other rest is in cc)))

here-append : (ps qs : List (List Side)) → is_here (ps ++ qs) ≡ (is_here ps || is_here qs)
here-append [] qs = refl
here-append ([] ∷ ps) qs = refl
here-append ((s ∷ p) ∷ ps) qs = here-append ps qs

pub any_here : (path : List Side) (ps : List (List Side)) → list_any (λ p. is_here (beyond path (p ∷ []))) ps ≡ is_here (beyond path ps)
any_here path [] = sym (ap is_here (beyond-none path))
any_here path (p ∷ ps) = ap (λ b. is_here (beyond path (p ∷ [])) || b) (any_here path ps) ∙ sym (ap is_here (beyond-cons path p ps) ∙ here-append (beyond path (p ∷ [])) (beyond path ps))

-- where no path is, none leads on
pub none_leads : (path : List Side) (ps : List (List Side)) → length ps ≡ 0 → is_none_left ps ≡ is_none_left (beyond path ps)
none_leads path [] e = sym (ap is_none_left (beyond-none path))
none_leads path (p ∷ ps) e = absurd (omega arith)

-- where the first leads on, some do
pub first_leads : (path p : List Side) (ps : List (List Side)) (b : Bool) → b ≡ not (is_none_left (beyond path (p ∷ []))) → b ≡ true → is_none_left (p ∷ ps) ≡ is_none_left (beyond path (p ∷ ps))
first_leads path p ps b is leads = by (beyond path (p ∷ [])) (sym is ∙ leads) ∙ sym (ap is_none_left (beyond-cons path p ps))
  where
    by : (qs : List (List Side)) → not (is_none_left qs) ≡ true → false ≡ is_none_left (qs ++ beyond path ps)
    by [] e = not_here e
    by (q ∷ qs) e = refl

-- and where it doesn't, it leaves the others alone
pub others_lead : (path p : List Side) (ps : List (List Side)) (b : Bool) → b ≡ not (is_none_left (beyond path (p ∷ []))) → b ≡ false → beyond path ps ≡ beyond path (p ∷ ps)
others_lead path p ps b is leads = by (beyond path (p ∷ [])) (sym is ∙ leads) ∙ sym (beyond-cons path p ps)
  where
    by : (qs : List (List Side)) → not (is_none_left qs) ≡ false → beyond path ps ≡ qs ++ beyond path ps
    by [] e = refl
    by (q ∷ qs) e = not_here (sym e)
