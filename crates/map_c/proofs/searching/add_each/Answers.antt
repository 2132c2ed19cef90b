use Rattle.std.proofs.Common.{◌≡◌, ◌∙◌, ◌-◌, ◌<◌, ◌++◌, List, ap, length, pos, refl, sym, arith}
use Rattle.std.proofs.lemmas.List.{map_more, take_more_set}
use Rattle.std.proofs.lemmas.List.Elements.{All-more}
use Rattle.std.proofs.Math.ListN.{get_or}
use Rattle.map_c.specs.declared.handles.forms.Hit.{Hit}
use Rattle.map_c.specs.declared.handles.forms.Place.{Place}
use Rattle.map_c.specs.Answers.{nearest_hits}
use Rattle.map_c.specs.Forms.{IsRightPlace}
use Rattle.map_c.proofs.Pieces.{piece_more, pieces_fit, pieces_length}
use Rattle.map_c.proofs.searching.add_each.Goals as goal

pub loop-i-preserved : goal.loop-i-preserved
loop-i-preserved g c =
    let d : Place = record { x = pos 0; y = pos 0; z = pos 0 } in
    let f : Place → List Hit = nearest_hits (g.S.Searched.items c.args.searched.now) c.args.k c.args.within in
    let ps : List Place = c.args.places.now in
    let lt : c.loop-i.i < length ps = c.loop-i-test.true in
    let room : c.loop-i.i < length c.loop-i.counts = omega (arith, c.requires.counts_room, c.loop-i.auto.counts, c.loop-i-test.true) in
    let number : c.in_ok-next.next - c.loop-i.at ≡ length (f (get_or ps c.loop-i.i d)) = omega (arith, c.in_ok-next.ensures.count) in (
      c.in_ok-next.ensures.list ∙ ap (λ hits. hits ++ f (get_or ps c.loop-i.i d)) c.loop-i.invariant.0 ∙ sym (piece_more f ps c.loop-i.i d lt),
      c.in_ok-next.ensures.count ∙ pieces_length f ps c.loop-i.i d c.loop-i.at lt c.loop-i.invariant.1,
      rw (take_more_set c.loop-i.counts c.loop-i.i (c.in_ok-next.next - c.loop-i.at) room, map_more (λ p. length (f p)) ps c.loop-i.i d lt, c.loop-i.invariant.2, number) refl,
      pieces_fit c.loop-i.i c.args.k c.loop-i.at c.in_ok-next.next c.loop-i.invariant.3 c.in_ok-next.ensures.few,
      All-more IsRightPlace ps c.loop-i.i d lt c.loop-i.invariant.4 c.in_ok-next.ensures.range,
    )
