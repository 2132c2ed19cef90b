use Rattle.std.proofs.Common.{◌≡◌, ◌+◌, ◌<◌, ◌≤◌, ◌++◌, List, length, get_or, ap, sym, ◌∙◌, arith}
use Rattle.std.specs.List.{flat_map}
use Rattle.map_items.specs.declared.entry.Entry.{Entry}
use Rattle.map_items.specs.Sizes.{Sizes}
use Rattle.scan_log.specs.Written.{command_text}
use Rattle.scan_log.specs.declared.format.Format.TheVariants.{Two}
use Rattle.history_log.specs.Lines.{HasLines, line_count, line_of}
use Rattle.history_log.specs.Log.{opening}
use Rattle.history_log.proofs.SoFar.{one_more, stopped, unstopped}
use Rattle.history_log.proofs.logging.history_lines.Goals as goal

pub returns-then-is_some-clause-ends : goal.returns-then-is_some-clause-ends
returns-then-is_some-clause-ends c =
    let s = c.args.state.now.state in
    let at = c.loop-at.at in
    let e = c.index-history-at.result in
    let here = c.index-history-at.is ∙ ap (λ (h : List Entry). get_or h at e) c.history-history.ensures.value in
    let below : at < length s.history = omega (arith, c.loop-at-test.true, ap (λ (h : List Entry). length h) c.history-history.ensures.value) in
    stopped s c.args.from at c.args.room c.loop-at.lines c.loop-at.bytes.items c.settings.result.now e c.in_ok-stop.stop
    (sym c.is_some.ensures ∙ c.if-is_some.true) c.in_ok-stop.ensures.why c.settings.ensures
    c.loop-at.invariant c.loop-at.auto.at below here

pub loop-at-preserved : goal.loop-at-preserved
loop-at-preserved c =
    let s = c.args.state.now.state in
    let at = c.loop-at.at in
    let e = c.index-history-at.result in
    let bytes = c.loop-at.bytes.items in
    let next = c.put_entry.new.bytes.items in
    let here = c.index-history-at.is ∙ ap (λ (h : List Entry). get_or h at e) c.history-history.ensures.value in
    let below : at < length s.history = omega (arith, c.loop-at-test.true, ap (λ (h : List Entry). length h) c.history-history.ensures.value) in
    let none = sym c.is_some.ensures ∙ c.if-is_some.false in
    let found = c.in_ok-stop.stop in
    let put = unstopped (next ≡ bytes ++ (opening c.settings.result.now at ++ flat_map (command_text Two) (line_of e))) found none c.in_ok-stop.ensures.put in
    let said = unstopped (HasLines e.update) found none c.in_ok-stop.ensures.said in
    let few = unstopped (c.loop-at.lines + line_count e.update ≤ 65536) found none c.in_ok-stop.ensures.few in
    let same = ap (λ (z : Sizes). bytes ++ (opening z at ++ flat_map (command_text Two) (line_of e))) c.settings.ensures in
    one_more s c.args.from at c.args.room c.loop-at.lines (c.loop-at.lines + c.line_count-lines.result) (at + 1) bytes
    next e c.history-history.ensures.lawful c.loop-at.invariant c.loop-at.auto.at below here
    (put ∙ same) said few c.in_ok-stop.ensures.fits (ap (λ n. c.loop-at.lines + n) c.line_count-lines.ensures.count) (omega arith)
