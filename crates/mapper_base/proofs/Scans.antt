-- Generated scans, taken apart.
use Rattle.std.proofs.Common.{◌≡◌, ℕ, zero, suc, ◌+◌, ◌*◌, ◌<◌, ◌≤◌, List, [], ◌∷◌, ◌++◌, length, refl, sym, ap, ap₂, ◌∙◌, arith, append_assoc, append-nil, length-append}
use Rattle.std.proofs.lemmas.List.{take_at, drop_at}
use Rattle.std.specs.List.{AllByRecursion}
use Rattle.point_geom.specs.Place.{Place}
use Rattle.scan_log.specs.declared.format.Format.{Format}
use Rattle.scan_log.specs.declared.format.Format.TheVariants.{One}
use Rattle.scan_log.specs.Scripts.{IsScannedPlace}
use Rattle.map_items.specs.Sizes.{Sizes}
use Rattle.scan_log.specs.declared.command.Command.{Command}
use Rattle.scan_log.specs.Scripts.{ScriptAt, IsScript, IsCommand, points_of, hits_of, submitted, asked, with_command}
use Rattle.scan_log.proofs.Growth.{points_of-push, hits_of-push}
use Rattle.mapper_base.specs.Generated.{next, drawn, next_draws, after, point, points_of_draws, scan_commands, commands_from, generated}

-- more draws are the first ones, and those after them
draws_split : (j k s : ℕ) → next_draws (j + k) s ≡ next_draws j s ++ next_draws k (after j s)
unfolding next_draws after
draws_split zero k s = let none : 0 + k ≡ k = omega arith in rw none refl
draws_split (suc j) k s =
    let more : suc j + k ≡ suc (j + k) = omega arith in
    rw more (ap (λ ds. drawn (next s) ∷ ds) (draws_split j k (next s)))

length-draws : (k s : ℕ) → length (next_draws k s) ≡ k
unfolding next_draws
length-draws zero s = refl
length-draws (suc k) s = ap suc (length-draws k (next s))

-- the first of n points
points_next : (i k s : ℕ) → points_of_draws i (next_draws (3 * suc k) s)
    ≡ point i (drawn (next s)) (drawn (next (next s))) (drawn (next (next (next s)))) ∷ points_of_draws i (next_draws (3 * k) (next (next (next s))))
unfolding next_draws points_of_draws
points_next i k s = let three : 3 * suc k ≡ suc (suc (suc (3 * k))) = omega arith in rw three refl

after_next : (k s : ℕ) → after (3 * suc k) s ≡ after (3 * k) (next (next (next s)))
unfolding after
after_next k s = let three : 3 * suc k ≡ suc (suc (suc (3 * k))) = omega arith in rw three refl

no_points : (i s : ℕ) → points_of_draws i (next_draws (3 * 0) s) ≡ []
unfolding next_draws points_of_draws
no_points i s = refl

no_draws : (s : ℕ) → after (3 * 0) s ≡ s
unfolding after
no_draws s = refl

-- How far a scan has come: the points so far and those of the remaining draws are the scan's.
pub record HasSeen (i s left t : ℕ) (ps : List Place) : Type 0 where
  pub rest : ps ++ points_of_draws i (next_draws (3 * left) t) ≡ points_of_draws i (next_draws 6000 s)
  pub moved : after (3 * left) t ≡ after 6000 s
  pub many : length ps + left ≡ 2000
  pub each : AllByRecursion (IsScannedPlace One) ps

-- what holds of each holds with one more
pub each_push : {X : Type 0} (P : X → Type 0) (xs : List X) (y : X) → AllByRecursion P xs → P y → AllByRecursion P (xs ++ y ∷ [])
each_push P [] y each last = (last, tt)
each_push P (x ∷ xs) y each last = (each.0, each_push P xs y each.1 last)

pub length_push : {X : Type 0} (xs : List X) (y : X) → length (xs ++ y ∷ []) ≡ length xs + 1
length_push xs y = length-append xs (y ∷ [])

-- a script with one more command is in its limits, where there was room
pub script_push : (s : ScriptAt) (c : Command) → IsScript s → IsCommand s.format c → length s.commands < 65536 → points_of s.commands + submitted c ≤ 4194304
    → hits_of s.commands ≤ 256 * length s.commands → asked c ≤ 256 → IsScript (with_command s c)
script_push s c is good few room held asks = record {
  sizes = is.sizes;
  each = each_push (IsCommand s.format) s.commands c is.each good;
  few = omega (arith, few, length_push s.commands c);
  room = omega (arith, room, points_of-push s.commands c);
  hits = omega (arith, few, held, asks, hits_of-push s.commands c);
}

pub seen_next : (i s left k t u : ℕ) (ps : List Place) (p : Place) → HasSeen i s left t ps → left ≡ suc k → IsScannedPlace One p
    → p ≡ point i (drawn (next t)) (drawn (next (next t))) (drawn (next (next (next t)))) → u ≡ next (next (next t)) → HasSeen i s k u (ps ++ p ∷ [])
seen_next i s left k t u ps p seen one place made moved =
    let all : ps ++ points_of_draws i (next_draws (3 * suc k) t) ≡ points_of_draws i (next_draws 6000 s) = rw one at seen.rest in
    let on : after (3 * suc k) t ≡ after 6000 s = rw one at seen.moved in
    record {
      rest = append_assoc ps (p ∷ []) (points_of_draws i (next_draws (3 * k) u)) ∙ rw (made, moved, ← points_next i k t) all;
      moved = rw (moved, ← after_next k t) on;
      many = omega (arith, seen.many, one, length_push ps p);
      each = each_push (IsScannedPlace One) ps p seen.each place;
    }

pub seen_all : (i s left t : ℕ) (ps : List Place) → HasSeen i s left t ps → left ≡ 0 → (ps ≡ points_of_draws i (next_draws 6000 s)) × (t ≡ after 6000 s)
seen_all i s left t ps seen none =
    let all : ps ++ points_of_draws i (next_draws (3 * 0) t) ≡ points_of_draws i (next_draws 6000 s) = rw none at seen.rest in
    let on : after (3 * 0) t ≡ after 6000 s = rw none at seen.moved in
    (sym (append-nil ps) ∙ ap (λ qs. ps ++ qs) (sym (no_points i t)) ∙ all, sym (no_draws t) ∙ on)

-- the first of n scans
scans_next : (i k s : ℕ)
    → commands_from i (suc k) (next_draws (6000 * suc k) s)
    ≡ scan_commands i (points_of_draws i (next_draws 6000 s))
    ++ commands_from (i + 1) k (next_draws (6000 * k) (after 6000 s))
unfolding commands_from
scans_next i k s =
    let more : 6000 * suc k ≡ 6000 + 6000 * k = omega arith in
    let first = take_at (next_draws 6000 s) (next_draws (6000 * k) (after 6000 s)) 6000 (length-draws 6000 s) in
    let others = drop_at (next_draws 6000 s) (next_draws (6000 * k) (after 6000 s)) 6000 (length-draws 6000 s) in
    rw (more, draws_split 6000 (6000 * k) s, first, others) refl

no_scans : (i : ℕ) (ds : List ℕ) → commands_from i 0 ds ≡ []
unfolding commands_from
no_scans i ds = refl

-- How many scans are made: the commands so far and those of the remaining scans are the script's.
pub record HasMade (n left i t : ℕ) (z : ScriptAt) : Type 0 where
  pub format : z.format ≡ One
  pub sizes : z.sizes ≡ (generated n).sizes
  pub rest : z.commands ++ commands_from i left (next_draws (6000 * left) t) ≡ (generated n).commands
  pub few : length z.commands ≤ 5 * i
  pub room : points_of z.commands ≡ 2000 * i
  pub held : hits_of z.commands ≤ 256 * length z.commands

pub made_next : (n left k i t u : ℕ) (z w : ScriptAt) → HasMade n left i t z → left ≡ suc k → w.format ≡ One → w.sizes ≡ z.sizes
    → w.commands ≡ z.commands ++ scan_commands i (points_of_draws i (next_draws 6000 t)) → length w.commands ≤ length z.commands + 5
    → points_of w.commands ≡ points_of z.commands + 2000 → hits_of w.commands ≤ 256 * length w.commands → u ≡ after 6000 t → HasMade n k (i + 1) u w
made_next n left k i t u z w made one format sizes commands few room held moved =
    let all : z.commands ++ commands_from i (suc k) (next_draws (6000 * suc k) t) ≡ (generated n).commands = rw one at made.rest in
    record {
      format = format;
      sizes = sizes ∙ made.sizes;
      rest = rw (commands, moved) (append_assoc z.commands (scan_commands i (points_of_draws i (next_draws 6000 t))) _ ∙ ap (λ cs. z.commands ++ cs) (sym (scans_next i k t)) ∙ all);
      few = omega (arith, few, made.few);
      room = omega (arith, room, made.room);
      held = held;
    }

pub made_all : (n left i t : ℕ) (z : ScriptAt) → HasMade n left i t z → left ≡ 0 → z ≡ generated n
made_all n left i t z made none =
    let all : z.commands ++ commands_from i 0 (next_draws (6000 * 0) t) ≡ (generated n).commands = rw none at made.rest in
    let own : z.commands ≡ (generated n).commands = sym (append-nil z.commands) ∙ ap (λ cs. z.commands ++ cs) (sym (no_scans i (next_draws (6000 * 0) t))) ∙ all in
    let sizes : z.sizes ≡ (generated n).sizes = made.sizes in
    let format : z.format ≡ (generated n).format = made.format in
    ap₂ (λ (f : Format) (r : Sizes × List Command). record { format = f; sizes = r.0; commands = r.1 }) format (ap₂ (λ (a : Sizes) (cs : List Command). (a, cs)) sizes own)
