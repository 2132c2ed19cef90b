-- What a reply looks at, and what makes no update.
use Rattle.std.proofs.Common.{◌≡◌, ℕ, List, ◌∷◌, None, take, length, refl, ap, sym, ◌∙◌}
use Rattle.std.proofs.Math.Seq.{take-length}
use Rattle.std.proofs.lemmas.List.{length-map}
use Rattle.map_items.specs.declared.entry.Entry.{Entry}
use Rattle.map_items.specs.declared.update.Update.{Update}
use Rattle.map_items.specs.Fold.{fold}
use Rattle.rebuild_parts.specs.History.{updates}
use Rattle.scan_log.specs.Commands.{command_update, updates_made}
use Rattle.scan_log.specs.declared.command.Command.{Command}
use Rattle.scan_log.specs.Transcript.{reply_on, reply_to}

-- a reply at a mark follows from the updates before it
pub reply_take : (voxel m : ℕ) (us vs : List Update) (c : Command) → take m us ≡ take m vs → reply_to voxel us c m ≡ reply_to voxel vs c m
reply_take voxel m us vs c e = ap (λ ts. reply_on (fold voxel ts).items c m) e

-- a command that makes no update is passed over
pub passed : (c : Command) (cs : List Command) → command_update c ≡ None → updates_made (c ∷ cs) ≡ updates_made cs
passed c cs none = rw none refl

-- a history has no more updates than entries
pub all_taken : (h : List Entry) → take (length h) (updates h) ≡ updates h
all_taken h = ap (λ n. take n (updates h)) (sym (length-map h (λ (e : Entry). e.update))) ∙ take-length (updates h)
