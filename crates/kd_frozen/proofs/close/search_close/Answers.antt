use Rattle.std.proofs.Common.{◌≡◌, ◌∙◌, take, sym, ap, subst, List}
use Rattle.map_fold.specs.declared.hits.Hit.{Hit}
use Rattle.map_fold.specs.Answers.{candidates}
use Rattle.kd_search.specs.Nearest.{IsBound, put_all}
use Rattle.kd_frozen.specs.Cells.{items_of}
use Rattle.kd_frozen.proofs.CloseBounds.{close_drew, close_kept}
use Rattle.kd_frozen.proofs.close.search_close.Goals as goal
use Rattle.kd_frozen.proofs.close.search_close.Goals.{After-copy_to}

-- what is copied is what was found
found : (c : After-copy_to) → c.copy_to.new.hits ≡ take c.args.query.now.k (put_all (candidates (items_of c.args.cells.now) c.args.query.now.point c.args.query.now.within) c.args.found.now.hits)
found c =
    let query = c.args.query.now in
    let none : c.new-list.result ≡ c.args.found.now.hits = c.new-list.ensures ∙ sym c.requires.none in
    c.copy_to.ensures ∙ c.fill-bound.ensures.found ∙ ap (λ (z : List Hit). take query.k (put_all (candidates (items_of c.args.cells.now) query.point query.within) z)) none

pub returns-then-bound-lt18446744073709551615-clause-bound :
    goal.returns-then-bound-lt18446744073709551615-clause-bound
returns-then-bound-lt18446744073709551615-clause-bound c =
    let query = c.args.query.now in
    let bound = c.fill-bound.result in
    subst (λ (z : List Hit). IsBound query.k query.within z bound) (sym c.copy_to.ensures)
    (close_drew query.k query.within c.fill-bound.new.list bound c.fill-bound.ensures.bound c.if-bound-lt18446744073709551615.true)

pub returns-then-bound-lt18446744073709551615-clause-found :
    goal.returns-then-bound-lt18446744073709551615-clause-found
returns-then-bound-lt18446744073709551615-clause-found c = found (goal.at.returns-then-bound-lt18446744073709551615-clause-found c).After-copy_to

pub returns-else-bound-lt18446744073709551615-clause-bound :
    goal.returns-else-bound-lt18446744073709551615-clause-bound
returns-else-bound-lt18446744073709551615-clause-bound c =
    let query = c.args.query.now in
    let start = c.args.found.now.bound in
    subst (λ (z : List Hit). IsBound query.k query.within z start) (sym c.copy_to.ensures)
    (close_kept query.k query.within c.args.found.now.hits c.fill-bound.new.list start c.fill-bound.result query.some c.requires.none c.requires.bound c.fill-bound.ensures.bound)

pub returns-else-bound-lt18446744073709551615-clause-found :
    goal.returns-else-bound-lt18446744073709551615-clause-found
returns-else-bound-lt18446744073709551615-clause-found c = found (goal.at.returns-else-bound-lt18446744073709551615-clause-found c).After-copy_to
