use Rattle.std.proofs.Common.{List, length, nat_eq, ap, subst, sym, ◌∙◌}
use Rattle.map_items.specs.declared.entry.Entry.{Entry}
use Rattle.history_log.specs.Log.{IsLogFault, header_text}
use Rattle.history_log.proofs.Entries.{log_held}
use Rattle.history_log.proofs.SoFar.{all_of, no_log, none_of}
use Rattle.history_log.proofs.logging.history_log.Goals as goal

pub returns-then-is_empty-clause-spells : goal.returns-then-is_empty-clause-spells
returns-then-is_empty-clause-spells c =
    let s = c.args.state.now.state in
    let none = ap (λ (h : List Entry). nat_eq (length h) 0) (sym c.history.ensures.value) ∙ sym c.is_empty.ensures ∙ c.if-is_empty.true in
    let all = none_of s c.in_ok-header.field-0.items c.history.ensures.lawful none (c.in_ok-header.ensures ∙ ap header_text c.settings.ensures) in
    all.spells

pub returns-in-None-clause-spells : goal.returns-in-None-clause-spells
returns-in-None-clause-spells c =
    let s = c.args.state.now.state in
    let part = c.in_ok-part.part in
    let some = ap (λ (h : List Entry). nat_eq (length h) 0) (sym c.history.ensures.value) ∙ sym c.is_empty.ensures ∙ c.if-is_empty.false in
    let all = all_of s part.bytes.items part.next _ part.stop c.history.ensures.lawful some c.in_ok-part.ensures.text c.in-None.is c.in_ok-part.ensures.ends c.in_ok-part.ensures.lines in
    all.spells

pub returns-in-None-clause-held : goal.returns-in-None-clause-held
returns-in-None-clause-held c = log_held c.args.state.now.state c.history.ensures.lawful

pub returns-in-Some-clause-refused : goal.returns-in-Some-clause-refused
returns-in-Some-clause-refused c =
    let part = c.in_ok-part.part in
    subst (IsLogFault c.args.state.now.state.history) (sym c.fault_of.ensures) (no_log c.args.state.now.state part.next _ part.stop c.in-Some.stop c.in-Some.is c.in_ok-part.ensures.ends)
