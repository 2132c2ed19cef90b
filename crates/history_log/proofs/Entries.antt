-- The lines of a history lead to the same map.
use Rattle.std.proofs.Common.{◌≡◌, ℕ, ◌+◌, ◌≤◌, List, [], ◌∷◌, ◌++◌, map, refl, ap, sym, ◌∙◌, arith, append_assoc}
use Rattle.std.specs.List.{AllByRecursion}
use Rattle.std.specs.Option.{option_to_list}
use Rattle.map_items.specs.Contents.{AreContents}
use Rattle.map_items.specs.Fold.{MapAt, fold, fold_from, no_points, step}
use Rattle.map_items.specs.declared.entry.Entry.{Entry}
use Rattle.map_items.specs.declared.update.Update.{Update}
use Rattle.map_items.proofs.Folds.{step_next}
use Rattle.kd_tree.specs.Maps.{map_of}
use Rattle.rebuild_parts.specs.History.{AreEntries, updates}
use Rattle.rebuild_core.specs.Lawful.{IsLawful, StateAt}
use Rattle.scan_log.specs.Commands.{command_update, updates_made}
use Rattle.scan_log.specs.declared.command.Command.{Command}
use Rattle.scan_log.specs.declared.command.Command.TheVariants.{Change}
use Rattle.history_log.specs.Lines.{IsByCaller, first_parts, line_count, line_of, lines_of, submitted_by}
use Rattle.history_log.specs.Log.{script_of}
use Rattle.history_log.proofs.Pieces.{contents_step, parts_fold}

made_append : (cs ds : List Command) → updates_made (cs ++ ds) ≡ updates_made cs ++ updates_made ds
made_append [] ds = refl
made_append (c ∷ cs) ds = ap (λ x. option_to_list (command_update c) ++ x) (made_append cs ds) ∙ sym (append_assoc (option_to_list (command_update c)) (updates_made cs) (updates_made ds))

made_changes : (caller : ℕ) (us : List Update) → updates_made (map (λ u. Change caller u) us) ≡ us
made_changes caller [] = refl
made_changes caller (u ∷ us) = ap (λ x. u ∷ x) (made_changes caller us)

fold_append : (voxel : ℕ) (us vs : List Update) (m : MapAt) → fold_from voxel (us ++ vs) m ≡ fold_from voxel vs (fold_from voxel us m)
fold_append voxel [] vs m = refl
fold_append voxel (u ∷ us) vs m = fold_append voxel us vs (step voxel u m)

one_line : (voxel : ℕ) (e : Entry) (m : MapAt) → AreContents 0 m.next m.items → m.next ≤ 4194304 → fold_from voxel (updates_made (line_of e)) m ≡ step voxel e.update m
one_line voxel e m held few = ap (λ us. fold_from voxel us m) (made_changes e.caller (first_parts (line_count e.update) e.update)) ∙ parts_fold voxel e.update m held few

-- the lines lead to the same map
pub lines_fold : (voxel : ℕ) (h : List Entry) (m : MapAt) → AreContents 0 m.next m.items → m.next + submitted_by h ≤ 4194304
    → fold_from voxel (updates_made (lines_of h)) m ≡ fold_from voxel (updates h) m
lines_fold voxel [] m held few = refl
lines_fold voxel (e ∷ h) m held few =
    ap (λ us. fold_from voxel us m) (made_append (line_of e) (lines_of h))
    ∙ fold_append voxel (updates_made (line_of e)) (updates_made (lines_of h)) m
    ∙ ap (λ x. fold_from voxel (updates_made (lines_of h)) x) (one_line voxel e m held (omega (arith, few)))
    ∙ lines_fold voxel h (step voxel e.update m) (contents_step voxel e.update m held) (omega (arith, few, step_next voxel e.update m))

-- the next number counts what the entries submit
pub submitted_next : (voxel : ℕ) (h : List Entry) (m : MapAt) → (fold_from voxel (updates h) m).next ≡ m.next + submitted_by h
submitted_next voxel [] m = omega arith
submitted_next voxel (e ∷ h) m = omega (arith, submitted_next voxel h (step voxel e.update m), step_next voxel e.update m)

-- what a lawful state's history submits are as many points as it may
pub submitted_few : (s : StateAt) → IsLawful s → submitted_by s.history ≤ 4194304
submitted_few s k =
    let next : s.next ≡ 0 + submitted_by s.history = ap (λ (m : MapAt). m.next) k.folded ∙ submitted_next s.settings.voxel s.history no_points in
    omega (arith, next, k.few)

-- the lines lead to what the map holds
pub log_held : (s : StateAt) → IsLawful s → fold s.settings.voxel (updates_made (script_of s).commands) ≡ map_of s.tree s.next
log_held s k = lines_fold s.settings.voxel s.history no_points tt (omega (arith, submitted_few s k)) ∙ sym k.folded

-- each entry is a caller's
pub by_callers : (before h : List Entry) → AreEntries before h → AllByRecursion IsByCaller h
by_callers before [] k = tt
by_callers before (e ∷ h) k = ((k.0.caller_from, k.0.caller_to), by_callers (before ++ e ∷ []) h k.1)
