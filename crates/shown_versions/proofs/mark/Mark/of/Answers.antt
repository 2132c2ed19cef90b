use Rattle.std.proofs.Common.{◌≡◌, sym, ◌∙◌, ap}
use Rattle.shown_versions.proofs.Adding.{adds_moves}
use Rattle.shown_versions.proofs.mark.Mark.of.Goals as goal

pub compare_exchange-found-requires : goal.compare_exchange-found-requires
compare_exchange-found-requires g c =
    let h = c.marks.invariant.0 in
    let book : c.marks.inside.seen.book ≡ c.marks.inside.word.book = sym (ap (λ w. w.book) h) in
    let offer = c.plain-offer.ensures in
    let pen = c.no_pen-pen.ensures in (
      ap (λ w. w.tracked) h,
      book,
      pen.0 ∙ book,
      offer.0,
      rw (ap (λ w. w.key) h, pen.1, offer.1, offer.3) (adds_moves c.marks.inside.seen.log c.args.page.now c.marks.inside.number (sym c.marks.invariant.1)),
    )
