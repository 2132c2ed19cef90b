use Rattle.std.proofs.Common.{sym, ◌∙◌}
use Rattle.mapper_base.proofs.Ways.{done_legal, done_serial, done_checked, done_made, done_driven, bad_way, nothing_way, over_way, scans_way, spelled_way}
use Rattle.mapper_core.proofs.running.run.Goals as goal

pub returns-clause-done : goal.returns-clause-done
returns-clause-done g c = λ done asked.
    done_legal _ c.run_quietly-ending.result c.run_quietly-ending.ensures.cause (sym c.status.ensures ∙ done) asked

pub returns-clause-serial : goal.returns-clause-serial
returns-clause-serial g c = λ done asked.
    done_serial _ c.run_quietly-ending.result c.run_quietly-ending.ensures.cause (sym c.status.ensures ∙ done) asked

pub returns-clause-checked : goal.returns-clause-checked
returns-clause-checked g c = λ n done asked.
    done_checked _ c.run_quietly-ending.result n c.run_quietly-ending.ensures.cause (sym c.status.ensures ∙ done) asked

pub returns-clause-made : goal.returns-clause-made
returns-clause-made g c = λ n done asked.
    done_made _ c.run_quietly-ending.result n c.run_quietly-ending.ensures.cause (sym c.status.ensures ∙ done) asked

pub returns-clause-driven : goal.returns-clause-driven
returns-clause-driven g c = λ n done asked.
    done_driven _ c.run_quietly-ending.result n c.run_quietly-ending.ensures.cause (sym c.status.ensures ∙ done) asked

pub returns-clause-bad_log : goal.returns-clause-bad_log
returns-clause-bad_log g c = λ a bytes f asked told few fault small sure.
    rw c.status.ensures (bad_way _ c.run_quietly-ending.result a bytes f c.run_quietly-ending.ensures.cause asked told few fault small sure)

pub returns-clause-wrong_words : goal.returns-clause-wrong_words
returns-clause-wrong_words g c = λ nothing. rw c.status.ensures (nothing_way _ c.run_quietly-ending.result c.run_quietly-ending.ensures.cause nothing)

pub returns-clause-complete : goal.returns-clause-complete
returns-clause-complete g c = λ a bytes s asked told few spelled sure out.
    rw c.status.ensures (spelled_way _ c.run_quietly-ending.result a bytes s c.run_quietly-ending.ensures.cause asked told few spelled sure out)

pub returns-clause-complete_scans : goal.returns-clause-complete_scans
returns-clause-complete_scans g c = λ asked out. rw c.status.ensures (scans_way _ c.run_quietly-ending.result c.run_quietly-ending.ensures.cause asked out)

pub returns-clause-over_limit : goal.returns-clause-over_limit
returns-clause-over_limit g c = λ a bytes asked told over sure.
    rw c.status.ensures (over_way _ c.run_quietly-ending.result a bytes c.run_quietly-ending.ensures.cause asked told over sure)
