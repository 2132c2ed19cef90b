use Rattle.std.proofs.Common.{◌≡◌, ℕ, List, [], length, refl, sym, ◌∙◌, ap, subst, arith}
use mathlib.Core.List.{IsPrefix}
use Rattle.map_items.specs.declared.entry.Entry.{Entry}
use Rattle.left_right.specs.Sides.{view}
use Rattle.shown_versions.specs.Marks.{AreOwnPlaces}
use Rattle.published_map.proofs.pass.Pass.new.Goals as goal

pub invariant_of-result : goal.invariant_of-result
invariant_of-result g c =
    let r = c.requires in
    let none : c.new.result.items ≡ [] = c.new.ensures.items in
    record {
      caller_from = r.caller_from;
      caller_to = r.caller_to;
      reader = subst (λ (s : List Entry). IsPrefix s (view c.args.reader.place)) (sym r.empty) (view c.args.reader.place, refl);
      marked = subst (λ (ks : List ℕ). AreOwnPlaces c.args.caller c.args.kept 0 ks) (sym none) tt;
      few = rw none (omega arith);
      part = r.part;
      counted = r.amount ∙ ap length (sym none);
    }
