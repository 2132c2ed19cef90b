-- Commands on a state.
use Rattle.std.proofs.Common.{◌≡◌, ℕ, ◌∷◌, [], length, None, ap, sym, refl, ◌∙◌, append-nil, arith}
use Rattle.std.proofs.lemmas.List.{map-append}
use Rattle.map_items.specs.declared.entry.Entry.{Entry}
use Rattle.map_items.specs.declared.update.Update.{Update}
use Rattle.map_items.specs.Fold.{MapAt, fold}
use Rattle.map_items.proofs.Folds.{step_next}
use Rattle.kd_tree.specs.Contents.{contents}
use Rattle.rebuild_parts.specs.History.{updates, entry_by}
use Rattle.rebuild_core.specs.Lawful.{IsLawful, StateAt}
use Rattle.kd_tree.specs.Maps.{map_of}
use Rattle.rebuild_core.specs.Steps.{IsUpdateStep}
use Rattle.scan_log.specs.Commands.{command_update}
use Rattle.scan_log.specs.declared.command.Command.{Command}
use Rattle.scan_log.specs.declared.command.Command.TheVariants.{Change}
use Rattle.scan_log.specs.Scripts.{submitted}
use Rattle.scan_log.specs.Transcript.{reply_on}
use Rattle.mapper_base.specs.Turns.{Follows, IsMaintained, reply_of}
use Rattle.mapper_base.proofs.Passed.{all_taken, passed}

-- an update, and then the looking after
pub change_follows : (caller : ℕ) (u : Update) (s m t : StateAt) → IsUpdateStep caller u s m → IsMaintained m t → Follows (Change caller u) s t
change_follows caller u s m t step maintained = record {
  settings = maintained.settings ∙ step.settings;
  made = ap updates maintained.history ∙ ap updates step.history ∙ map-append (λ (e : Entry). e.update) s.history (entry_by caller u s.history ∷ []);
  next = maintained.next ∙ ap (λ (x : MapAt). x.next) step.stepped ∙ step_next s.settings.voxel u (map_of s.tree s.next);
}

none_submitted : (c : Command) → command_update c ≡ None → submitted c ≡ 0
none_submitted c none = rw none refl

-- a command that makes no update leaves the state as it is
pub query_follows : (c : Command) (s : StateAt) → command_update c ≡ None → Follows c s s
query_follows c s none = record {
  settings = refl;
  made = rw (passed c [] none) (sym (append-nil (updates s.history)));
  next = omega (arith, none_submitted c none);
}

-- what a state's version holds gives the reply after all its updates
pub lawful_reply : (s : StateAt) (c : Command) → IsLawful s → reply_on (contents s.version.tree) c (length s.history) ≡ reply_of s c
lawful_reply s c h =
    ap (λ is. reply_on is c (length s.history))
    (ap contents h.shown ∙ ap (λ (m : MapAt). m.items) h.folded ∙ ap (λ us. (fold s.settings.voxel us).items) (sym (all_taken s.history)))
