use Rattle.std.proofs.Common.{rules, ◌≡◌, List, Some, ap, sym, ◌∙◌, subst, take, length, length-append, arith}
use Rattle.map_items.specs.declared.op.Op.{Op}
use Rattle.rebuild_core.specs.Known.{IsPartOf, undone}
use Rattle.rebuild_core.specs.Lawful.{Stored}
use Rattle.kd_update.specs.Detached.{PartAt, part_of}
use Rattle.rebuild_core.proofs.KnownItems.{known_part}
use Rattle.rebuild_core.proofs.KnownParts.{log_parts, undone_fit}
use Rattle.rebuild_core.proofs.state.MapState.part_known.Goals as goal

is_part : (c : goal.After-len-few) → IsPartOf c.args.built.now c.args.self.now.state.parts c.in_ok-part.part.now
is_part c =
    let s = c.args.self.now.state in
    let b = c.args.built.now in
    let p = c.in_ok-part.part.now in
    let parts = c.as_slice.ensures.value ∙ ap (λ (x : Stored). x.state.parts) c.self.view_is in
    let found : part_of b.ticket s.parts ≡ Some p = ap (λ n. part_of n s.parts) (sym c.ticket.ensures) ∙ ap (part_of c.ticket.result) (sym parts) ∙ sym c.in_ok-part.ensures in
    let ops = c.done-done.result.now in
    let done : ops ≡ b.done = c.done-done.ensures.value in
    let log : c.part.inside.log ≡ p.log = ap (λ (x : PartAt). x.log) c.part.view_is in
    let begins : take (length ops) p.log ≡ ops = subst (λ (l : List Op). take (length ops) l ≡ ops) log (c.begins_with.ensures.0 c.if-not-begins_with.false) in
    record { found = found; items = sym (known_part b.ticket b.items p s.parts c.requires.known found); begins = subst (λ (l : List Op). take (length l) p.log ≡ l) done begins }

pub returns-clause-some : goal.returns-clause-some
returns-clause-some c =
    let s = c.args.self.now.state in
    let b = c.args.built.now in
    let p = c.in_ok-part.part.now in
    let of = is_part c in
    record {
      of = of;
      done = omega (arith, ap (λ (ops : List Op). length ops) (log_parts b s.parts p of), length-append b.done (undone b p));
      few = search rules;
      fit = undone_fit s b p c.history-history.ensures.lawful c.done-done.ensures.lawful of;
    }
