-- How much the updates of some callers weigh together, each update by a weight of its own.
use Rattle.std.proofs.Common.{◌≡◌, ℕ, ◌+◌, ◌≤◌, ◌==◌, Bool, true, false, List, [], ◌∷◌, ◌++◌, length, Option, Some, None, inl, inr, refl, ap, sym, ◌∙◌, subst, arith}
use Rattle.std.proofs.lemmas.Bool.Decides.{nat_tests}
use Rattle.std.specs.Option.{option_map, option_to_list, unwrap_or}
use Rattle.map_items.specs.declared.entry.Entry.{Entry}
use Rattle.map_items.specs.declared.update.Update.{Update}
use Rattle.map_items.specs.Fold.{MapAt, step, fold, fold_from, no_points, points_in}
use Rattle.map_items.proofs.Folds.{step_next}
use Rattle.rebuild_parts.specs.History.{updates}
use Rattle.shown_versions.specs.Marks.{Seen, keep_if, own_updates, one_if, times_listed, IsDistinct, AllOf, callers_of, AllMet}
use Rattle.scan_log.specs.declared.command.Command.{Command}
use Rattle.scan_log.specs.declared.command.Command.TheVariants.{Change}
use Rattle.scan_log.specs.Commands.{command_update, updates_made}
use Rattle.scan_log.specs.Scripts.{points_of}
use Rattle.scan_log.proofs.Whose.{change_or_none}
use Rattle.mapper_core.specs.Mine.{updates_by}
use Rattle.mapper_core.specs.Meetings.{AllDone}
use Rattle.mapper_base.proofs.Passed.{passed}
use Rattle.mapper_core.proofs.Whose.{passed_by}

unfoldable pub weigh : (Update → ℕ) → List Update → ℕ
weigh w [] = 0
weigh w (u ∷ us) = w u + weigh w us

pub weigh_append : (w : Update → ℕ) (us vs : List Update) → weigh w (us ++ vs) ≡ weigh w us + weigh w vs
unfolding weigh
weigh_append w [] vs = omega arith
weigh_append w (u ∷ us) vs = let r = weigh_append w us vs in omega arith

pub weigh_one : (us : List Update) → weigh (λ u. 1) us ≡ length us
unfolding weigh
weigh_one [] = refl
weigh_one (u ∷ us) = let r = weigh_one us in omega arith

weigh_from : (voxel : ℕ) (us : List Update) (m : MapAt) → (fold_from voxel us m).next ≡ m.next + weigh points_in us
unfolding weigh
weigh_from voxel [] m = omega arith
weigh_from voxel (u ∷ us) m = let r = weigh_from voxel us (step voxel u m) in let s = step_next voxel u m in omega arith

-- the next number is how many points were submitted
pub weigh_points : (voxel : ℕ) (us : List Update) → (fold voxel us).next ≡ weigh points_in us
weigh_points voxel us = let r = weigh_from voxel us no_points in omega arith

weight_if : Bool → ℕ → ℕ
weight_if true n = n
weight_if false n = 0

keep_weight : (w : Update → ℕ) (b : Bool) (u : Update) (us : List Update) → weigh w (keep_if b u us) ≡ weight_if b (w u) + weigh w us
unfolding weigh weight_if
keep_weight w true u us = refl
keep_weight w false u us = omega arith

-- what counts so much for each time that the caller is among these
share : ℕ → List ℕ → ℕ → ℕ
share x [] n = 0
share x (c ∷ cs) n = weight_if (x == c) n + share x cs n

share_none : (x : ℕ) (cs : List ℕ) (n : ℕ) → times_listed x cs ≡ 0 → share x cs n ≡ 0
unfolding share weight_if
share_none x [] n is = refl
share_none x (c ∷ cs) n is = by_case (λ e. share_none x cs n e) (x == c) is
  where
    by_case : (times_listed x cs ≡ 0 → share x cs n ≡ 0) → (b : Bool) → one_if b + times_listed x cs ≡ 0 → weight_if b n + share x cs n ≡ 0
    by_case more true e = absurd (omega arith)
    by_case more false e = let r = more (omega arith) in omega arith

share_one : (x : ℕ) (cs : List ℕ) (n : ℕ) → times_listed x cs ≡ 1 → share x cs n ≡ n
unfolding share weight_if
share_one x [] n is = absurd (omega arith)
share_one x (c ∷ cs) n is = by_case (λ e. share_one x cs n e) (x == c) is
  where
    by_case : (times_listed x cs ≡ 1 → share x cs n ≡ n) → (b : Bool) → one_if b + times_listed x cs ≡ 1 → weight_if b n + share x cs n ≡ n
    by_case more true e = let r = share_none x cs n (omega arith) in omega arith
    by_case more false e = let r = more (omega arith) in omega arith

share_most : (x : ℕ) (cs : List ℕ) (n : ℕ) → IsDistinct cs → share x cs n ≤ n
unfolding share weight_if
share_most x [] n d = omega arith
share_most x (c ∷ cs) n d = by_case (share_most x cs n d.1) (x == c) refl
  where
    by_case : share x cs n ≤ n → (b : Bool) → (x == c) ≡ b → weight_if b n + share x cs n ≤ n
    by_case more true e =
        let same : c ≡ x = grind (arith, nat_tests) in
        let r = share_none x cs n (subst (λ z. times_listed z cs ≡ 0) same d.0) in omega arith
    by_case more false e = omega (arith, more)

-- the weight of these callers' entries
pub entries_of : (Update → ℕ) → List ℕ → List Entry → ℕ
entries_of w [] h = 0
entries_of w (c ∷ cs) h = weigh w (own_updates c h) + entries_of w cs h

-- and of their commands
unfoldable pub commands_of : (Update → ℕ) → List ℕ → List Command → ℕ
commands_of w [] ds = 0
commands_of w (c ∷ cs) ds = weigh w (updates_by c ds) + commands_of w cs ds

entries_nil : (w : Update → ℕ) (cs : List ℕ) → entries_of w cs [] ≡ 0
unfolding entries_of weigh
entries_nil w [] = refl
entries_nil w (c ∷ cs) = let r = entries_nil w cs in omega arith

entries_cons : (w : Update → ℕ) (cs : List ℕ) (e : Entry) (h : List Entry) → entries_of w cs (e ∷ h) ≡ share e.caller cs (w e.update) + entries_of w cs h
unfolding entries_of share
entries_cons w [] e h = refl
entries_cons w (c ∷ cs) e h = let r = entries_cons w cs e h in let k = keep_weight w (e.caller == c) e.update (own_updates c h) in omega arith

-- where all entries are of these callers, each once, theirs weigh as much as all
pub entries_whole : (w : Update → ℕ) (cs : List ℕ) (h : List Entry) → AllOf cs h → entries_of w cs h ≡ weigh w (updates h)
unfolding weigh
entries_whole w cs [] o = entries_nil w cs
entries_whole w cs (e ∷ h) o =
    let r = entries_whole w cs h o.1 in let k = entries_cons w cs e h in let t = share_one e.caller cs (w e.update) o.0 in omega arith

commands_nil : (w : Update → ℕ) (cs : List ℕ) → commands_of w cs [] ≡ 0
unfolding commands_of weigh
commands_nil w [] = refl
commands_nil w (c ∷ cs) = let r = commands_nil w cs in omega arith

commands_cons : (w : Update → ℕ) (cs : List ℕ) (x : ℕ) (u : Update) (ds : List Command) → commands_of w cs (Change x u ∷ ds) ≡ share x cs (w u) + commands_of w cs ds
unfolding commands_of share
commands_cons w [] x u ds = refl
commands_cons w (c ∷ cs) x u ds = let r = commands_cons w cs x u ds in let k = keep_weight w (x == c) u (updates_by c ds) in omega arith

commands_skip : (w : Update → ℕ) (cs : List ℕ) (d : Command) (ds : List Command) → command_update d ≡ None → commands_of w cs (d ∷ ds) ≡ commands_of w cs ds
unfolding commands_of
commands_skip w [] d ds none = refl
commands_skip w (c ∷ cs) d ds none = let r = commands_skip w cs d ds none in let k = ap (weigh w) (passed_by c d ds none) in omega arith

-- different callers' commands weigh no more than all
pub commands_most : (w : Update → ℕ) (cs : List ℕ) (ds : List Command) → IsDistinct cs → commands_of w cs ds ≤ weigh w (updates_made ds)
unfolding weigh
commands_most w cs [] d = let k = commands_nil w cs in omega arith
commands_most w cs (c ∷ ds) d =
    let r = commands_most w cs ds d in
    elim (change_or_none c) [
      | inl is ↦
          let k = commands_cons w cs is.0 is.1 ds in
          let one = share_most is.0 cs (w is.1) d in
          subst (λ z. commands_of w cs (z ∷ ds) ≤ weigh w (updates_made (z ∷ ds))) (sym is.2) (omega arith)
      | inr none ↦
          let k = commands_skip w cs c ds none in
          let e = ap (weigh w) (passed c ds none) in omega arith
    ]

-- each of the updates is of one of these callers
unfoldable pub AllChangesOf : List ℕ → List Command → Type 0
AllChangesOf cs [] = Unit {0}
AllChangesOf cs (d ∷ ds) = ((x : ℕ) (u : Update) → d ≡ Change x u → times_listed x cs ≡ 1) × AllChangesOf cs ds

pub commands_whole : (w : Update → ℕ) (cs : List ℕ) (ds : List Command) → AllChangesOf cs ds → commands_of w cs ds ≡ weigh w (updates_made ds)
unfolding weigh AllChangesOf
commands_whole w cs [] o = commands_nil w cs
commands_whole w cs (d ∷ ds) o =
    let r = commands_whole w cs ds o.1 in
    elim (change_or_none d) [
      | inl is ↦
          let k = commands_cons w cs is.0 is.1 ds in
          let one = share_one is.0 cs (w is.1) (o.0 is.0 is.1 is.2) in
          subst (λ z. commands_of w cs (z ∷ ds) ≡ weigh w (updates_made (z ∷ ds))) (sym is.2) (omega arith)
      | inr none ↦ commands_skip w cs d ds none ∙ r ∙ ap (weigh w) (sym (passed d ds none))
    ]

one_points : (made : Option Update) (us : List Update) → weigh points_in (option_to_list made ++ us) ≡ unwrap_or (option_map points_in made) 0 + weigh points_in us
unfolding weigh
one_points (Some u) us = refl
one_points None us = omega arith

pub all_points : (ds : List Command) → weigh points_in (updates_made ds) ≡ points_of ds
unfolding weigh
all_points [] = refl
all_points (d ∷ ds) = let r = all_points ds in let k = one_points (command_update d) (updates_made ds) in omega arith

-- what these passes have made
unfoldable pub made : (Update → ℕ) → List Seen → ℕ
made w [] = 0
made w (p ∷ ps) = weigh w p.mine + made w ps

pub made_met : (w : Update → ℕ) (h : List Entry) (ps : List Seen) → AllMet h ps → made w ps ≡ entries_of w (callers_of ps) h
unfolding made entries_of
made_met w h [] met = refl
made_met w h (p ∷ ps) met = let r = made_met w h ps met.2 in let e : weigh w p.mine ≡ weigh w (own_updates p.caller h) = ap (weigh w) met.1 in omega arith

pub made_done : (w : Update → ℕ) (ds : List Command) (ps : List Seen) → AllDone ds ps → made w ps ≡ commands_of w (callers_of ps) ds
unfolding made commands_of
made_done w ds [] done = refl
made_done w ds (p ∷ ps) done = let r = made_done w ds ps done.1 in let e : weigh w p.mine ≡ weigh w (updates_by p.caller ds) = ap (weigh w) done.0 in omega arith
