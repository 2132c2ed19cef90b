use Rattle.std.proofs.Common.{◌∙◌, List, [], ◌∷◌, rules, tests}
use Rattle.std.proofs.lemmas.Iterator.{YieldsList-from_slice}
use Rattle.std.proofs.lemmas.Iterator.Search.{any_from_yields_List}
use Rattle.kd_tree.specs.Apart.{is_here, beyond}
use Rattle.kd_tree.specs.declared.path.Side.{Side}
use Rattle.kd_tree.proofs.Apart.{any_here}
use Rattle.kd_tree.proofs.breach.ends_here.Goals as goal

pub returns : goal.returns
returns c =
    let here = c.args.here.now in
    any_from_yields_List (λ (p : List Side). is_here (beyond here (p ∷ []))) _ _ c.any.result c.any.ensures.ran (YieldsList-from_slice c.args.except.now cc) (λ x b q k. search (rules, tests))
    ∙ any_here here c.args.except.now
