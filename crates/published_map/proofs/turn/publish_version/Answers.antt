use Rattle.std.proofs.Common.{◌≡◌, ◌++◌, sym, ap, ◌∙◌}
use Rattle.left_right.specs.Sides.{view}
use Rattle.published_map.proofs.Pending.{grows_by}
use Rattle.published_map.proofs.turn.publish_version.Goals as goal

pub publish-requires : goal.publish-requires
publish-requires g c =
    let e = c.append.ensures.desk in
    let same : c.append.new.self.desk.shown.value ≡ c.args.writer.now.desk.shown.value = ap (λ d. d.shown.value) e in
    let more = c.requires.longer.0 in
    record {
      knows = ap (λ d. view d.place) e ∙ (c.requires.known ∙ sym same);
      grows = grows_by _ _ _ c.args.shown more c.in-Ok.ensures.pending (sym c.requires.longer.1 ∙ ap (λ h. h ++ more) (sym same));
    }
