-- The parts of which legal marks are made.
use Rattle.std.proofs.Common.{◌≡◌, ℕ, suc, ◌+◌, ◌≤◌, List, [], ◌∷◌, length, map, slice_get, Some, get_or, refl, sym, ap, ◌∙◌, arith, nat_lt, Bool, true, false, cond, Option, None, ◌++◌}
use Rattle.std.specs.Option.{option_to_list}
use Rattle.std.proofs.lemmas.List.{length-map}
use Rattle.std.proofs.lemmas.Option.{slice_get-get_or}
use Rattle.map_items.specs.declared.update.Update.{Update}
use Rattle.scan_log.specs.Commands.{command_update, updates_made}
use Rattle.scan_log.specs.declared.command.Command.{Command}
use Rattle.scan_log.specs.Legal.{IsLegal, numbers_from}
use Rattle.scan_log.specs.Transcript.{marked_updates, put_if, put_update, updates_in}
use Rattle.transcript_check.specs.MarkedLines.{updates_of}
use Rattle.transcript_check.specs.declared.order.Marked.{Marked}

length-put_update : (m : ℕ) (u : Update) (hs : List (ℕ × Update)) → length (put_update m u hs) ≡ suc (length hs)
length-put_update m u [] = refl
length-put_update m u (h ∷ hs) = go (nat_lt h.0 m) (length-put_update m u hs)
  where
    go : (b : Bool) → length (put_update m u hs) ≡ suc (length hs) → length (cond b (h ∷ put_update m u hs) ((m, u) ∷ h ∷ hs)) ≡ suc (suc (length hs))
    go true r = ap suc r
    go false r = refl

length_if : (m : ℕ) (made : Option Update) (hs : List (ℕ × Update)) (us : List Update) → length hs ≡ length us → length (put_if m made hs) ≡ length (option_to_list made ++ us)
length_if m (Some u) hs us e = length-put_update m u hs ∙ ap suc e
length_if m None hs us e = e

-- there is a mark for each update
pub length-marked_updates : (cs : List Command) (marks : List ℕ) → length cs ≤ length marks → length (marked_updates cs marks) ≡ updates_in cs
length-marked_updates [] [] h = refl
length-marked_updates [] (m ∷ marks) h = refl
length-marked_updates (c ∷ cs) [] h = absurd (omega arith)
length-marked_updates (c ∷ cs) (m ∷ marks) h = length_if m (command_update c) _ (updates_made cs) (length-marked_updates cs marks (omega arith))

first_of_pairs : (us : List Marked) → map (λ h. h.0) (updates_of us) ≡ map (λ (u : Marked). u.mark) us
first_of_pairs [] = refl
first_of_pairs (u ∷ us) = ap (λ ms. u.mark ∷ ms) (first_of_pairs us)

-- how many updates there are
pub updates_long : (cs : List Command) (marks : List ℕ) (us : List Marked) → updates_of us ≡ marked_updates cs marks → length marks ≡ length cs + 1 → length us ≡ updates_in cs
updates_long cs marks us is many =
    sym (length-map us (λ (u : Marked). (u.mark, u.update.now))) ∙ ap length is ∙ length-marked_updates cs marks (omega arith)

-- what the marks of the updates are
pub marks_counted : (cs : List Command) (marks : List ℕ) (us : List Marked) → updates_of us ≡ marked_updates cs marks → length marks ≡ length cs + 1
    → (map (λ (u : Marked). u.mark) us ≡ numbers_from 1 (length us)) → map (λ h. h.0) (marked_updates cs marks) ≡ numbers_from 1 (updates_in cs)
marks_counted cs marks us is many e =
    ap (λ (hs : List (ℕ × Update)). map (λ h. h.0) hs) (sym is) ∙ first_of_pairs us ∙ e ∙ ap (numbers_from 1) (updates_long cs marks us is many)

pub counted_marks : (cs : List Command) (marks : List ℕ) (us : List Marked) → updates_of us ≡ marked_updates cs marks → IsLegal cs marks
    → map (λ (u : Marked). u.mark) us ≡ numbers_from 1 (length us)
counted_marks cs marks us is legal =
    sym (first_of_pairs us) ∙ ap (λ (hs : List (ℕ × Update)). map (λ h. h.0) hs) is ∙ legal.each_once ∙ ap (numbers_from 1) (sym (updates_long cs marks us is legal.many))

-- the last mark
pub last_mark : (cs : List Command) (marks : List ℕ) (n : ℕ) → length marks ≡ length cs + 1 → get_or marks (length cs) 0 ≡ n → slice_get marks (length cs) ≡ Some n
last_mark cs marks n many is = slice_get-get_or marks (length cs) 0 (omega arith) ∙ ap (λ k. Some k) is
