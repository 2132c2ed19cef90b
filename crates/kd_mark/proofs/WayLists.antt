-- Lists of paths in parts.
use Rattle.std.proofs.Common.{◌≡◌, true, false, refl, ap, List, [], ◌∷◌, ◌++◌}
use Rattle.kd_tree.specs.declared.path.Side.{Side}
use Rattle.kd_tree.specs.declared.path.Side.TheVariants.{Left, Right}
use Rattle.kd_tree.specs.Apart.{is_none_left, onward}

pub onward-append : (side : Side) (ps qs : List (List Side)) → onward side (ps ++ qs) ≡ onward side ps ++ onward side qs
onward-append side [] qs = refl
onward-append Left ([] ∷ ps) qs = onward-append Left ps qs
onward-append Right ([] ∷ ps) qs = onward-append Right ps qs
onward-append Left ((Left ∷ p) ∷ ps) qs = ap (λ rs. p ∷ rs) (onward-append Left ps qs)
onward-append Left ((Right ∷ p) ∷ ps) qs = onward-append Left ps qs
onward-append Right ((Left ∷ p) ∷ ps) qs = onward-append Right ps qs
onward-append Right ((Right ∷ p) ∷ ps) qs = ap (λ rs. p ∷ rs) (onward-append Right ps qs)

-- without a path, and with one
pub none_of : (ps : List (List Side)) → is_none_left ps ≡ true → ps ≡ []
none_of [] e = refl
none_of (p ∷ ps) e = absurd (cc)

pub some_of : (ps : List (List Side)) → is_none_left ps ≡ false → ps ≡ [] → ⊥
some_of [] n e = cc
some_of (p ∷ ps) n e = cc

-- four lists of paths in a row, of each of which those that go on to the side are known
pub onward_four : (side : Side) (a b c d w x y z : List (List Side)) → w ≡ onward side a → x ≡ onward side b
    → y ≡ onward side c → z ≡ onward side d → w ++ (x ++ (y ++ z)) ≡ onward side (a ++ (b ++ (c ++ d)))
onward_four side a b c d w x y z e f g h =
    let k = onward-append side a (b ++ (c ++ d)) in
    let l = onward-append side b (c ++ d) in
    let m = onward-append side c d in
    cc
