-- Histories that grow by one entry.
use Rattle.std.proofs.Common.{◌≡◌, ℕ, ◌≤◌, List, [], ◌∷◌, ◌++◌, length, length-append, append_assoc, append-nil, ap, sym, ◌∙◌, arith, subst, Option, Some, None}
use Rattle.std.proofs.lemmas.List.{map-append}
use Rattle.map_items.specs.Fold.{fold, no_points, step}
use Rattle.map_items.specs.declared.update.Update.{Update}
use Rattle.map_items.proofs.Folds.{fold_from-push}
use Rattle.map_items.specs.declared.entry.Entry.{Entry}
use Rattle.rebuild_parts.specs.History.{AreEntries, entries_of, entry_by, listed, MayComeNext, updates}
use Rattle.rebuild_core.specs.StateView.{IsNextOf}

-- one more entry is one more step
pub fold-entry : (voxel : ℕ) (h : List Entry) (e : Entry) → fold voxel (updates (h ++ e ∷ [])) ≡ step voxel e.update (fold voxel (updates h))
fold-entry voxel h e = ap (λ us. fold voxel us) (map-append (λ (x : Entry). x.update) h (e ∷ [])) ∙ fold_from-push voxel (updates h) e.update no_points

entries_after : (before es : List Entry) (e : Entry) → AreEntries before es → MayComeNext (before ++ es) e → AreEntries before (es ++ e ∷ [])
entries_after before [] e k f = (subst (λ b. MayComeNext b e) (append-nil before) f, tt)
entries_after before (x ∷ es) e k f = (k.0, entries_after (before ++ x ∷ []) es e k.1 (subst (λ b. MayComeNext b e) (sym (append_assoc before (x ∷ []) es)) f))

-- an entry that may follow the others
pub entries-push : (h : List Entry) (e : Entry) → AreEntries [] h → MayComeNext h e → AreEntries [] (h ++ e ∷ [])
entries-push h e k f = entries_after [] h e k f

follows_last : (before es : List Entry) (e : Entry) → AreEntries before (es ++ e ∷ []) → MayComeNext (before ++ es) e
follows_last before [] e k = subst (λ b. MayComeNext b e) (sym (append-nil before)) k.0
follows_last before (x ∷ es) e k = subst (λ b. MayComeNext b e) (append_assoc before (x ∷ []) es) (follows_last (before ++ x ∷ []) es e k.1)

-- the last entry may follow the others
pub entries-last : (h : List Entry) (e : Entry) → AreEntries [] (h ++ e ∷ []) → MayComeNext h e
entries-last h e k = follows_last [] h e k

-- where a history with one more entry is one, and short enough, the entry may follow
pub next_entry : (h : List Entry) (o : Option Entry) → AreEntries [] (h ++ listed o) → length (h ++ listed o) ≤ 1048576 → IsNextOf h o
next_entry h None k few = tt
next_entry h (Some e) k few = (entries-last h e k, omega (arith, few, length-append h (e ∷ [])))

pub entry_made : (caller seq n : ℕ) (u : Update) (h : List Entry) → seq ≡ entries_of n h → n ≡ caller → ◌≡◌ {A = Entry} (record { caller = caller; seq = seq; update = u }) (entry_by caller u h)
entry_made caller seq n u h e f =
    let F : ℕ → Entry = λ k. record { caller = caller; seq = k; update = u } in
    ap F (e ∙ ap (λ m. entries_of m h) f)
