use Rattle.std.proofs.Common.{◌≡◌, ◌+◌, [], ◌∷◌, ◌++◌, List, drop, length, ap, sym, ◌∙◌, arith, length-append, append_assoc}
use Rattle.map_items.specs.declared.item.Item.{Item}
use Rattle.map_items.specs.declared.op.Op.{Op}
use Rattle.map_items.specs.declared.op.Op.TheVariants.{Put}
use Rattle.map_items.proofs.Numbered.{drop-at}
use Rattle.map_items.proofs.Replays.{extends_on}
use Rattle.kd_update.specs.Crossing.{puts_of}
use Rattle.kd_update.proofs.watching.log_scan.note_puts.Goals as goal

pub note-requires : goal.note-requires
note-requires c =
    let i = c.loop-item.item-index in
    let x = c.item-item.result in
    let cut : drop i c.args.items.now ≡ x ∷ drop (i + 1) c.args.items.now = drop-at c.args.items.now _ i x (omega arith) c.loop-item-test.true c.item-item.is in
    let is = c.loop-item.invariant.whole in
    omega (
      arith,
      c.requires,
      ap length is,
      length-append c.loop-item.log (puts_of (drop i c.args.items.now)),
      length-append c.args.log.now (puts_of c.args.items.now),
      ap (λ (xs : List Item). length (puts_of xs)) cut,
    )

pub returns-in_err-note-clause-few : goal.returns-in_err-note-clause-few
returns-in_err-note-clause-few c =
    let i = c.loop-item.item-index in
    let x = c.item-item.result in
    let cut : drop i c.args.items.now ≡ x ∷ drop (i + 1) c.args.items.now = drop-at c.args.items.now _ i x (omega arith) c.loop-item-test.true c.item-item.is in
    let is = c.loop-item.invariant.whole in
    omega (
      arith,
      c.note.ensures.few,
      ap length is,
      length-append c.loop-item.log (puts_of (drop i c.args.items.now)),
      length-append c.args.log.now (puts_of c.args.items.now),
      ap (λ (xs : List Item). length (puts_of xs)) cut,
    )

pub loop-item-preserved : goal.loop-item-preserved
loop-item-preserved c =
    let i = c.loop-item.item-index in
    let x = c.item-item.result in
    let log = c.loop-item.log in
    let rest = puts_of (drop (i + 1) c.args.items.now) in
    let cut : drop i c.args.items.now ≡ x ∷ drop (i + 1) c.args.items.now = drop-at c.args.items.now _ i x (omega arith) c.loop-item-test.true c.item-item.is in
    record {
      whole =
          ap (λ (os : List Op). os ++ rest) c.in_ok-note.ensures.logged
          ∙ append_assoc log (Put x.number x.point ∷ []) rest ∙ ap (λ (xs : List Item). log ++ puts_of xs) (sym cut)
          ∙ c.loop-item.invariant.whole;
      begins = extends_on _ _ _ c.loop-item.invariant.begins c.note.ensures.begins;
    }
