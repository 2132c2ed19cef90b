use Rattle.std.proofs.Common.{◌≡◌, ◌<◌, ◌∙◌, ap, arith, add-one, length, get_or}
use Rattle.std.proofs.lemmas.List.{length-set}
use Rattle.map_items.specs.Contents.{chosen_by, marked_item}
use Rattle.map_items.proofs.Numbered.{set-mapped, get_or-mapped}
use Rattle.map_fold.proofs.plain_map.relabel.Goals as goal

pub loop-i-preserved : goal.loop-i-preserved
loop-i-preserved c =
    let f = marked_item (chosen_by c.args.choice.now) c.args.tag in
    let i = c.loop-i.i in
    let xs = c.args.items.now.items in
    let x = c.index.result.now in
    let below : i < length xs = omega (arith, c.len-i-end.ensures) in
    let put : c.marked.result ≡ f (get_or xs i x) =
    c.marked.ensures ∙ ap f (c.index.ensures ∙ ap (λ ys. get_or ys i x) c.loop-i.invariant.mapped ∙ get_or-mapped f i xs x below) in
    record {
      long = length-set c.loop-i.items.items i c.marked.result ∙ c.loop-i.invariant.long;
      mapped = rw (c.loop-i.invariant.mapped, put, add-one) (set-mapped f i xs x below);
    }
