-- What is read of a line is spelled so, and in its limits.
use Rattle.std.proofs.Common.{◌≡◌, ℕ, ◌+◌, ◌-◌, ◌*◌, ◌/◌, ◌≤◌, Bool, true, false, cond, ◌⊎◌, inl, inr, List, [], ◌∷◌, ◌++◌, map, length, min, refl, sym, ap, ◌∙◌, arith, None, Some, Result, Ok}
use Rattle.std.specs.Prelude.{◌&&◌, ◌||◌, if◌then◌else◌, codes, decimal, nat_eq, nat_le}
use Rattle.std.specs.List.{flat_map}
use Rattle.std.specs.Str.{bytes_eq}
use Rattle.std.proofs.lemmas.Bool.Decides.{nat_tests}
use Rattle.std.proofs.lemmas.Fmt.{decimal_digit}
use Rattle.point_geom.specs.Place.{Place, Bounds}
use Rattle.point_geom.specs.Boxes.{unit_box}
use Rattle.map_items.specs.Sizes.{Sizes, AreSizes}
use Rattle.map_items.specs.Fold.{points_in}
use Rattle.map_items.specs.declared.update.Update.{Update}
use Rattle.map_items.specs.declared.update.Update.TheVariants.{Add, Thin, Delete, Suspend, Restore, Expire}
use Rattle.scan_log.specs.declared.format.Format.{Format}
use Rattle.scan_log.specs.Formats.{version_field, is_version, format_of, has_expiry, farthest, width}
use Rattle.scan_log.specs.declared.format.Format.TheVariants.{One, Two}
use Rattle.scan_log.specs.declared.command.Command.{Command}
use Rattle.scan_log.specs.declared.command.Command.TheVariants.{Change, Near, Nears, Inside, Ball, Lonely, Clusters, Pose, Sync}
use Rattle.scan_log.specs.declared.fault.LogCause.TheVariants.{WrongCount}
use Rattle.scan_log.specs.Steps.{◌>>=◌, given}
use Rattle.scan_log.specs.Faults.{fields_points, fields_hits}
use Rattle.scan_log.specs.Reading.{few_scanned_of, place_of, places_of, box_of, groups_of, few_places_of, few_boxes_of, units_of, expiry_of, update_of, near_of, inside_of, nears_of, ball_of, reach_of, pose_of, basic_of, called_of, digit_caller, caller_of, after_caller, command_of, header_of}
use Rattle.scan_log.specs.Numbers.{natural_in}
use Rattle.scan_log.specs.Scripts.{AreScanned, IsCaller, ArePoints, AreBoxes, IsUpdate, IsCommand, room_of, asked, submitted}
use Rattle.scan_log.specs.Spelling.{header_fields, scanned_fields, box_fields, caller_field, update_fields, command_fields, SpelledAsErase}
use Rattle.scan_log.proofs.StepLemmas.{both, bound, passed}
use Rattle.scan_log.proofs.Spelled.{natural_takes}
use Rattle.scan_log.proofs.Takes.{word_is, place_takes, box_takes, length-point_fields, places_take, few_places_take, few_scanned_take, few_boxes_take}
use Rattle.scan_log.proofs.NumbersAgain.{farthest_fits}
use Rattle.scan_log.proofs.Units.{units_are}

-- the fields spell the command, in either way
abbrev pub FieldsSpell : Format → List (List ℕ) → Command → Type 0
FieldsSpell format fields c = (fields ≡ command_fields format c) ⊎ SpelledAsErase format fields c

-- the fields spell the command, which is in its limits, and its points have room
pub record TakesCommand (format : Format) (most : ℕ) (fields : List (List ℕ)) (c : Command) : Type 0 where
  pub spelled : FieldsSpell format fields c
  pub limits : IsCommand format c
  pub room : submitted c ≤ most
  pub counted : fields_points format fields ≡ submitted c
  pub listed : fields_hits fields ≡ asked c

-- points that are added or thinned
added_takes : (format : Format) (word : List ℕ) (done : List Place → Update) (room caller : ℕ) (args : List (List ℕ)) (u : Update) → IsCaller caller
    → ((ps : List Place) → update_fields format (done ps) ≡ word ∷ flat_map (scanned_fields format) ps)
    → ((ps : List Place) → AreScanned format ps → IsUpdate format (done ps)) → ((ps : List Place) → points_in (done ps) ≡ length ps)
    → fields_points format (caller_field caller ∷ word ∷ args) ≡ length args / width format → fields_hits (caller_field caller ∷ word ∷ args) ≡ 0
    → (few_scanned_of format (min 262144 room) args >>= λ ps. Ok (done ps)) ≡ Ok u → TakesCommand format room (caller_field caller ∷ word ∷ args) (Change caller u)
added_takes format word done room caller args u from fields is count points hits e =
    let r = bound (few_scanned_of format (min 262144 room) args) _ u e in
    let t = few_scanned_take format (min 262144 room) args r.0 r.1 in
    let made : done r.0 ≡ u = cc r.2 in
    rw (← made) (record {
      spelled = inl (rw (fields r.0, ← t.text) refl);
      limits = (from, is r.0 (t.some, omega (arith, t.few), t.each));
      room = rw (count r.0) (omega (arith, t.few));
      counted = points ∙ t.count ∙ sym (count r.0);
      listed = hits;
    })

-- boxes that something is done to
boxes_done : (format : Format) (word : List ℕ) (done : List Bounds → Update) (room caller : ℕ) (args : List (List ℕ)) (u : Update) → IsCaller caller
    → ((cs : List Bounds) → update_fields format (done cs) ≡ word ∷ flat_map box_fields cs)
    → ((cs : List Bounds) → AreBoxes format cs → IsUpdate format (done cs)) → ((cs : List Bounds) → points_in (done cs) ≡ 0)
    → fields_points format (caller_field caller ∷ word ∷ args) ≡ 0 → fields_hits (caller_field caller ∷ word ∷ args) ≡ 0
    → (few_boxes_of format args >>= λ cs. Ok (done cs)) ≡ Ok u → TakesCommand format room (caller_field caller ∷ word ∷ args) (Change caller u)
boxes_done format word done room caller args u from fields is count points hits e =
    let r = bound (few_boxes_of format args) _ u e in
    let t = few_boxes_take format args r.0 r.1 in
    let made : done r.0 ≡ u = cc r.2 in
    rw (← made) (record {
      spelled = inl (rw (fields r.0, ← t.0) refl);
      limits = (from, is r.0 t.1);
      room = rw (count r.0) (omega arith);
      counted = points ∙ sym (count r.0);
      listed = hits;
    })

-- points that are erased
erased_takes : (format : Format) (room caller : ℕ) (args : List (List ℕ)) (u : Update) → IsCaller caller → (units_of format args >>= λ cs. Ok (Delete cs)) ≡ Ok u
    → TakesCommand format room (caller_field caller ∷ codes "erase" ∷ args) (Change caller u)
unfolding units_of
erased_takes format room caller args u from e =
    let r = bound (units_of format args) _ u e in
    let p = bound (few_places_of format 262144 args) _ r.0 r.1 in
    let t = few_places_take format 262144 args p.0 p.1 in
    let units : map unit_box p.0 ≡ r.0 = cc p.2 in
    let made : Delete (map unit_box p.0) ≡ u = cc (r.2, units) in
    let are : ArePoints format p.0 = (t.some, t.few, t.each) in
    rw (← made) (record {
      spelled = inr (record { caller = caller; points = p.0; limits = are; command = refl; text = rw (← t.text) refl });
      limits = (from, units_are format p.0 are);
      room = omega arith;
      counted = refl;
      listed = refl;
    })

-- what expires
expiry_takes : (format : Format) (room caller : ℕ) (args : List (List ℕ)) (u : Update) → IsCaller caller → has_expiry format ≡ true → expiry_of args ≡ Ok u
    → TakesCommand format room (caller_field caller ∷ codes "expire" ∷ args) (Change caller u)
unfolding expiry_of
expiry_takes One room caller args u from has e = cc
expiry_takes Two room caller [] u from has e = cc
expiry_takes Two room caller (f ∷ g ∷ args) u from has e = cc
expiry_takes Two room caller (f ∷ []) u from has e =
    let n = bound (natural_in 0 4194304 f) _ u e in
    let made : Expire n.0 ≡ u = cc n.2 in
    let t = natural_takes 0 4194304 f n.0 (omega arith) (omega arith) n.1 in
    rw (← made) (record {
      spelled = inl (rw (← t.text) refl);
      limits = (from, t.to);
      room = omega arith;
      counted = refl;
      listed = refl;
    })

-- one of two was read
choice : {A E : Type 0} (b : Bool) (r s : Result A E) (x : A) → cond b r s ≡ Ok x → ((b ≡ true) × (r ≡ Ok x)) ⊎ (s ≡ Ok x)
choice true r s x e = inl (refl, e)
choice false r s x e = inr e

-- the update of a word
update_takes : (format : Format) (room caller : ℕ) (word : List ℕ) (args : List (List ℕ)) (u : Update) → IsCaller caller → update_of format room word args ≡ Ok u
    → TakesCommand format room (caller_field caller ∷ word ∷ args) (Change caller u)
unfolding update_of
update_takes format room caller word args u from e =
    elim (choice (bytes_eq word (codes "add")) _ _ u e) [
      | inl q ↦ rw (word_is word (codes "add") q.0) (added_takes format (codes "add") Add room caller args u from (λ ps. refl) (λ ps h. h) (λ ps. refl) refl refl q.1)
      | inr e ↦ elim (choice (bytes_eq word (codes "thin")) _ _ u e) [
        | inl q ↦ rw (word_is word (codes "thin") q.0) (added_takes format (codes "thin") Thin room caller args u from (λ ps. refl) (λ ps h. h) (λ ps. refl) refl refl q.1)
        | inr e ↦ elim (choice (bytes_eq word (codes "erase")) _ _ u e) [
          | inl q ↦ rw (word_is word (codes "erase") q.0) (erased_takes format room caller args u from q.1)
          | inr e ↦ elim (choice (bytes_eq word (codes "delete")) _ _ u e) [
            | inl q ↦ rw (word_is word (codes "delete") q.0) (boxes_done format (codes "delete") Delete room caller args u from (λ cs. refl) (λ cs h. h) (λ cs. refl) refl refl q.1)
            | inr e ↦ elim (choice (bytes_eq word (codes "suspend")) _ _ u e) [
              | inl q ↦ rw (word_is word (codes "suspend") q.0) (boxes_done format (codes "suspend") Suspend room caller args u from (λ cs. refl) (λ cs h. h) (λ cs. refl) refl refl q.1)
              | inr e ↦ elim (choice (bytes_eq word (codes "restore")) _ _ u e) [
                | inl q ↦ rw (word_is word (codes "restore") q.0) (boxes_done format (codes "restore") Restore room caller args u from (λ cs. refl) (λ cs h. h) (λ cs. refl) refl refl q.1)
                | inr e ↦ elim (choice (has_expiry format && bytes_eq word (codes "expire")) _ _ u e) [
                  | inl q ↦
                      let b = both (has_expiry format) (bytes_eq word (codes "expire")) q.0 in
                      rw (word_is word (codes "expire") b.1) (expiry_takes format room caller args u from b.0 q.1)
                  | inr e ↦ cc e
                ]
              ]
            ]
          ]
        ]
      ]
    ]

-- a query, which submits nothing
near_plain_takes : (format : Format) (room caller : ℕ) (k x y z : List ℕ) (c : Command) → IsCaller caller → near_of format caller (k ∷ x ∷ y ∷ z ∷ []) ≡ Ok c
    → TakesCommand format room (caller_field caller ∷ codes "near" ∷ k ∷ x ∷ y ∷ z ∷ []) c
unfolding near_of
near_plain_takes format room caller k x y z c from e =
    let n = bound (natural_in 1 256 k) _ c e in
    let p = bound (place_of format x y z) _ c n.2 in
    let is : Near caller n.0 p.0 None ≡ c = cc p.2 in
    let tn = natural_takes 1 256 k n.0 (omega arith) (omega arith) n.1 in
    let tp = place_takes format x y z p.0 p.1 in
    rw (← is) (record {
      spelled = inl (rw (← tn.text, ← tp.0) refl);
      limits = (from, tn.from, tn.to, tp.1, λ r h. cc h);
      room = omega arith;
      counted = refl;
      listed = ap room_of tn.value;
    })

near_within_takes : (format : Format) (room caller : ℕ) (k x y z word r : List ℕ) (c : Command) → IsCaller caller
    → near_of format caller (k ∷ x ∷ y ∷ z ∷ word ∷ r ∷ []) ≡ Ok c
    → TakesCommand format room (caller_field caller ∷ codes "near" ∷ k ∷ x ∷ y ∷ z ∷ word ∷ r ∷ []) c
unfolding near_of
near_within_takes format room caller k x y z word r c from e =
    let w = passed (bytes_eq word (codes "within")) _ _ c e in
    let n = bound (natural_in 1 256 k) _ c w.1 in
    let p = bound (place_of format x y z) _ c n.2 in
    let d = bound (natural_in 0 (farthest format) r) _ c p.2 in
    let is : Near caller n.0 p.0 (Some d.0) ≡ c = cc d.2 in
    let tn = natural_takes 1 256 k n.0 (omega arith) (omega arith) n.1 in
    let tp = place_takes format x y z p.0 p.1 in
    let td = natural_takes 0 (farthest format) r d.0 (omega arith) (farthest_fits format) d.1 in
    let text = ap (λ (v : List ℕ). caller_field caller ∷ codes "near" ∷ k ∷ x ∷ y ∷ z ∷ v ∷ r ∷ []) (word_is word (codes "within") w.0) in
    rw (← is) (record {
      spelled = inl (text ∙ rw (← tn.text, ← td.text) (ap (λ (fs : List (List ℕ)). caller_field caller ∷ codes "near" ∷ k ∷ (fs ++ codes "within" ∷ r ∷ [])) tp.0));
      limits = (from, tn.from, tn.to, tp.1, λ n h. let same : d.0 ≡ n = cc h in rw (← same) td.to);
      room = omega arith;
      counted = refl;
      listed = ap room_of tn.value;
    })

near_takes : (format : Format) (room caller : ℕ) (args : List (List ℕ)) (c : Command) → IsCaller caller → near_of format caller args ≡ Ok c
    → TakesCommand format room (caller_field caller ∷ codes "near" ∷ args) c
unfolding near_of
near_takes format room caller [] c from e = cc
near_takes format room caller (k ∷ []) c from e = cc
near_takes format room caller (k ∷ x ∷ []) c from e = cc
near_takes format room caller (k ∷ x ∷ y ∷ []) c from e = cc
near_takes format room caller (k ∷ x ∷ y ∷ z ∷ []) c from e = near_plain_takes format room caller k x y z c from e
near_takes format room caller (k ∷ x ∷ y ∷ z ∷ word ∷ []) c from e = cc
near_takes format room caller (k ∷ x ∷ y ∷ z ∷ word ∷ r ∷ []) c from e = near_within_takes format room caller k x y z word r c from e
near_takes format room caller (k ∷ x ∷ y ∷ z ∷ word ∷ r ∷ s ∷ rest) c from e = cc

inside_seven_takes : (format : Format) (room caller : ℕ) (k x y z f g h : List ℕ) (c : Command) → IsCaller caller
    → inside_of format caller (k ∷ x ∷ y ∷ z ∷ f ∷ g ∷ h ∷ []) ≡ Ok c → TakesCommand format room (caller_field caller ∷ codes "box" ∷ k ∷ x ∷ y ∷ z ∷ f ∷ g ∷ h ∷ []) c
unfolding inside_of
inside_seven_takes format room caller k x y z f g h c from e =
    let n = bound (natural_in 1 256 k) _ c e in
    let b = bound (box_of format x y z f g h) _ c n.2 in
    let is : Inside caller n.0 b.0 ≡ c = cc b.2 in
    let tn = natural_takes 1 256 k n.0 (omega arith) (omega arith) n.1 in
    let tb = box_takes format x y z f g h b.0 b.1 in
    rw (← is) (record {
      spelled = inl (rw (← tn.text, ← tb.0) refl);
      limits = (from, tn.from, tn.to, tb.1);
      room = omega arith;
      counted = refl;
      listed = refl;
    })

inside_takes : (format : Format) (room caller : ℕ) (args : List (List ℕ)) (c : Command) → IsCaller caller → inside_of format caller args ≡ Ok c
    → TakesCommand format room (caller_field caller ∷ codes "box" ∷ args) c
unfolding inside_of
inside_takes format room caller [] c from e = cc
inside_takes format room caller (k ∷ []) c from e = cc
inside_takes format room caller (k ∷ x ∷ []) c from e = cc
inside_takes format room caller (k ∷ x ∷ y ∷ []) c from e = cc
inside_takes format room caller (k ∷ x ∷ y ∷ z ∷ []) c from e = cc
inside_takes format room caller (k ∷ x ∷ y ∷ z ∷ f ∷ []) c from e = cc
inside_takes format room caller (k ∷ x ∷ y ∷ z ∷ f ∷ g ∷ []) c from e = cc
inside_takes format room caller (k ∷ x ∷ y ∷ z ∷ f ∷ g ∷ h ∷ []) c from e = inside_seven_takes format room caller k x y z f g h c from e
inside_takes format room caller (k ∷ x ∷ y ∷ z ∷ f ∷ g ∷ h ∷ i ∷ rest) c from e = cc

-- searches round several places
nears_some_take : (room caller : ℕ) (k : List ℕ) (args : List (List ℕ)) (c : Command) → IsCaller caller → nears_of caller (k ∷ args) ≡ Ok c
    → TakesCommand Two room (caller_field caller ∷ codes "nears" ∷ k ∷ args) c
unfolding nears_of
nears_some_take room caller k args c from e =
    let g = bound (groups_of 3 262144 args) _ c e in
    let n = bound (natural_in 1 256 k) _ c g.2 in
    let p = bound (places_of Two args) _ c n.2 in
    let is : Nears caller n.0 p.0 ≡ c = cc p.2 in
    let tn = natural_takes 1 256 k n.0 (omega arith) (omega arith) n.1 in
    let tp = places_take Two 262144 args g.0 p.0 g.1 p.1 in
    let many : length (k ∷ args) / 3 ≡ length p.0 = omega (arith, ap length tp.text, length-point_fields p.0) in
    rw (← is) (record {
      spelled = inl (rw (← tn.text, ← tp.text) refl);
      limits = (from, tn.from, tn.to, (tp.some, tp.few, tp.each), tt);
      room = omega arith;
      counted = refl;
      listed = rw many (ap (λ (m : ℕ). length p.0 * room_of m) tn.value);
    })

nears_take : (room caller : ℕ) (args : List (List ℕ)) (c : Command) → IsCaller caller → nears_of caller args ≡ Ok c
    → TakesCommand Two room (caller_field caller ∷ codes "nears" ∷ args) c
unfolding nears_of
nears_take room caller [] c from e = cc
nears_take room caller (k ∷ args) c from e = nears_some_take room caller k args c from e

-- what is in a ball
ball_five_takes : (room caller : ℕ) (k r x y z : List ℕ) (c : Command) → IsCaller caller → ball_of caller (k ∷ r ∷ x ∷ y ∷ z ∷ []) ≡ Ok c
    → TakesCommand Two room (caller_field caller ∷ codes "ball" ∷ k ∷ r ∷ x ∷ y ∷ z ∷ []) c
unfolding ball_of
ball_five_takes room caller k r x y z c from e =
    let n = bound (natural_in 1 256 k) _ c e in
    let d = bound (natural_in 0 (farthest Two) r) _ c n.2 in
    let p = bound (place_of Two x y z) _ c d.2 in
    let is : Ball caller n.0 d.0 p.0 ≡ c = cc p.2 in
    let tn = natural_takes 1 256 k n.0 (omega arith) (omega arith) n.1 in
    let td = natural_takes 0 (farthest Two) r d.0 (omega arith) (farthest_fits Two) d.1 in
    let tp = place_takes Two x y z p.0 p.1 in
    rw (← is) (record {
      spelled = inl (rw (← tn.text, ← td.text, ← tp.0) refl);
      limits = (from, tn.from, tn.to, td.to, tp.1, tt);
      room = omega arith;
      counted = refl;
      listed = refl;
    })

ball_takes : (room caller : ℕ) (args : List (List ℕ)) (c : Command) → IsCaller caller → ball_of caller args ≡ Ok c
    → TakesCommand Two room (caller_field caller ∷ codes "ball" ∷ args) c
unfolding ball_of
ball_takes room caller [] c from e = cc
ball_takes room caller (k ∷ []) c from e = cc
ball_takes room caller (k ∷ r ∷ []) c from e = cc
ball_takes room caller (k ∷ r ∷ x ∷ []) c from e = cc
ball_takes room caller (k ∷ r ∷ x ∷ y ∷ []) c from e = cc
ball_takes room caller (k ∷ r ∷ x ∷ y ∷ z ∷ []) c from e = ball_five_takes room caller k r x y z c from e
ball_takes room caller (k ∷ r ∷ x ∷ y ∷ z ∷ f ∷ rest) c from e = cc

-- a count and a distance
record TakesReach (args : List (List ℕ)) (k r : ℕ) : Type 0 where
  text : args ≡ decimal k ∷ decimal r ∷ []
  from : 1 ≤ k
  to : k ≤ 256
  near : r ≤ farthest Two

reach_two_takes : (f g : List ℕ) (q : ℕ × ℕ) → reach_of (f ∷ g ∷ []) ≡ Ok q → TakesReach (f ∷ g ∷ []) q.0 q.1
unfolding reach_of
reach_two_takes f g q e =
    let n = bound (natural_in 1 256 f) _ q e in
    let d = bound (natural_in 0 (farthest Two) g) _ q n.2 in
    let is : (n.0, d.0) ≡ q = cc d.2 in
    let tn = natural_takes 1 256 f n.0 (omega arith) (omega arith) n.1 in
    let td = natural_takes 0 (farthest Two) g d.0 (omega arith) (farthest_fits Two) d.1 in
    rw (← is) (record { text = rw (← tn.text, ← td.text) refl; from = tn.from; to = tn.to; near = td.to })

reach_takes : (args : List (List ℕ)) (q : ℕ × ℕ) → reach_of args ≡ Ok q → TakesReach args q.0 q.1
unfolding reach_of
reach_takes [] q e = cc
reach_takes (f ∷ []) q e = cc
reach_takes (f ∷ g ∷ []) q e = reach_two_takes f g q e
reach_takes (f ∷ g ∷ h ∷ rest) q e = cc

lonely_takes : (room caller : ℕ) (args : List (List ℕ)) (c : Command) → IsCaller caller → (reach_of args >>= λ q. Ok (Lonely caller q.0 q.1)) ≡ Ok c
    → TakesCommand Two room (caller_field caller ∷ codes "lonely" ∷ args) c
lonely_takes room caller args c from e =
    let q = bound (reach_of args) _ c e in
    let is : Lonely caller q.0.0 q.0.1 ≡ c = cc q.2 in
    let t = reach_takes args q.0 q.1 in
    rw (← is) (record {
      spelled = inl (rw (← t.text) refl);
      limits = (from, t.from, t.to, t.near, tt);
      room = omega arith;
      counted = refl;
      listed = refl;
    })

clusters_take : (room caller : ℕ) (args : List (List ℕ)) (c : Command) → IsCaller caller → (reach_of args >>= λ q. Ok (Clusters caller q.0 q.1)) ≡ Ok c
    → TakesCommand Two room (caller_field caller ∷ codes "clusters" ∷ args) c
clusters_take room caller args c from e =
    let q = bound (reach_of args) _ c e in
    let is : Clusters caller q.0.0 q.0.1 ≡ c = cc q.2 in
    let t = reach_takes args q.0 q.1 in
    rw (← is) (record {
      spelled = inl (rw (← t.text) refl);
      limits = (from, t.from, t.to, t.near, tt);
      room = omega arith;
      counted = refl;
      listed = refl;
    })

-- where a robot is
pose_six_takes : (room caller : ℕ) (side ball step x y z : List ℕ) (c : Command) → IsCaller caller → pose_of caller (side ∷ ball ∷ step ∷ x ∷ y ∷ z ∷ []) ≡ Ok c
    → TakesCommand Two room (caller_field caller ∷ codes "pose" ∷ side ∷ ball ∷ step ∷ x ∷ y ∷ z ∷ []) c
unfolding pose_of
pose_six_takes room caller side ball step x y z c from e =
    let s = bound (natural_in 2 2199023255552 side) _ c e in
    let b = bound (natural_in 0 ((s.0 - 1) / 2) ball) _ c s.2 in
    let t = bound (natural_in 1 s.0 step) _ c b.2 in
    let p = bound (place_of Two x y z) _ c t.2 in
    let is : Pose caller (record { side = s.0; ball = b.0; step = t.0 }) p.0 ≡ c = cc p.2 in
    let sides = natural_takes 2 2199023255552 side s.0 (omega arith) (omega arith) s.1 in
    let balls = natural_takes 0 ((s.0 - 1) / 2) ball b.0 (omega arith) (omega (arith, sides.to)) b.1 in
    let steps = natural_takes 1 s.0 step t.0 (omega arith) (omega (arith, sides.to)) t.1 in
    let place = place_takes Two x y z p.0 p.1 in
    rw (← is) (record {
      spelled = inl (rw (← sides.text, ← balls.text, ← steps.text, ← place.0) refl);
      limits = (
        from,
        record { side_from = sides.from; side_to = sides.to; ball = omega (arith, balls.to, sides.from); step_from = steps.from; step_to = steps.to },
        place.1,
        tt,
      );
      room = omega arith;
      counted = refl;
      listed = refl;
    })

pose_takes : (room caller : ℕ) (args : List (List ℕ)) (c : Command) → IsCaller caller → pose_of caller args ≡ Ok c
    → TakesCommand Two room (caller_field caller ∷ codes "pose" ∷ args) c
unfolding pose_of
pose_takes room caller [] c from e = cc
pose_takes room caller (k ∷ []) c from e = cc
pose_takes room caller (k ∷ x ∷ []) c from e = cc
pose_takes room caller (k ∷ x ∷ y ∷ []) c from e = cc
pose_takes room caller (k ∷ x ∷ y ∷ z ∷ []) c from e = cc
pose_takes room caller (k ∷ x ∷ y ∷ z ∷ f ∷ []) c from e = cc
pose_takes room caller (k ∷ x ∷ y ∷ z ∷ f ∷ g ∷ []) c from e = pose_six_takes room caller k x y z f g c from e
pose_takes room caller (k ∷ x ∷ y ∷ z ∷ f ∷ g ∷ h ∷ rest) c from e = cc

-- a word of version 1, or an expiry
basic_takes : (format : Format) (room caller : ℕ) (word : List ℕ) (args : List (List ℕ)) (c : Command) → IsCaller caller → basic_of format room caller word args ≡ Ok c
    → TakesCommand format room (caller_field caller ∷ word ∷ args) c
unfolding basic_of
basic_takes format room caller word args c from e =
    elim (choice (bytes_eq word (codes "near")) _ _ c e) [
      | inl q ↦ rw (word_is word (codes "near") q.0) (near_takes format room caller args c from q.1)
      | inr e ↦ elim (choice (bytes_eq word (codes "box")) _ _ c e) [
        | inl q ↦ rw (word_is word (codes "box") q.0) (inside_takes format room caller args c from q.1)
        | inr e ↦
            let u = bound (update_of format room word args) _ c e in
            let is : Change caller u.0 ≡ c = cc u.2 in
            rw (← is) (update_takes format room caller word args u.0 from u.1)
      ]
    ]

-- a caller's word and its arguments
called_takes : (format : Format) (room caller : ℕ) (word : List ℕ) (args : List (List ℕ)) (c : Command) → IsCaller caller → called_of format room caller word args ≡ Ok c
    → TakesCommand format room (caller_field caller ∷ word ∷ args) c
unfolding called_of
called_takes One room caller word args c from e = basic_takes One room caller word args c from e
called_takes Two room caller word args c from e =
    elim (choice (bytes_eq word (codes "nears")) _ _ c e) [
      | inl q ↦ rw (word_is word (codes "nears") q.0) (nears_take room caller args c from q.1)
      | inr e ↦ elim (choice (bytes_eq word (codes "ball")) _ _ c e) [
        | inl q ↦ rw (word_is word (codes "ball") q.0) (ball_takes room caller args c from q.1)
        | inr e ↦ elim (choice (bytes_eq word (codes "lonely")) _ _ c e) [
          | inl q ↦ rw (word_is word (codes "lonely") q.0) (lonely_takes room caller args c from q.1)
          | inr e ↦ elim (choice (bytes_eq word (codes "clusters")) _ _ c e) [
            | inl q ↦ rw (word_is word (codes "clusters") q.0) (clusters_take room caller args c from q.1)
            | inr e ↦ elim (choice (bytes_eq word (codes "pose")) _ _ c e) [
              | inl q ↦ rw (word_is word (codes "pose") q.0) (pose_takes room caller args c from q.1)
              | inr e ↦ basic_takes Two room caller word args c from e
            ]
          ]
        ]
      ]
    ]

digit_takes : (digits : List ℕ) (caller : ℕ) → digit_caller digits ≡ Ok caller → (digits ≡ decimal caller) × IsCaller caller
digit_takes [] caller e = cc
digit_takes (d ∷ []) caller e =
    let p = passed (nat_le 49 d && nat_le d 56) _ _ caller e in
    let q = both (nat_le 49 d) (nat_le d 56) p.0 in
    let low : 49 ≤ d = grind (arith, nat_tests, q.0) in
    let high : d ≤ 56 = grind (arith, nat_tests, q.1) in
    let is : d - 48 ≡ caller = cc p.1 in
    let back : 48 + caller ≡ d = omega arith in
    (sym (decimal_digit caller (omega arith) ∙ ap (λ (n : ℕ). n ∷ []) back), (omega arith, omega arith))
digit_takes (d ∷ e ∷ digits) caller h = cc

caller_takes : (who : List ℕ) (caller : ℕ) → caller_of who ≡ Ok caller → (who ≡ caller_field caller) × IsCaller caller
unfolding caller_of
caller_takes [] caller e = cc
caller_takes (c ∷ digits) caller e =
    let p = passed (nat_eq c 64) _ _ caller e in
    let at : c ≡ 64 = grind (arith, nat_tests, p.0) in
    let t = digit_takes digits caller p.1 in
    (rw (at, t.0) refl, t.1)

-- what is read as a command is spelled so
pub command_takes : (format : Format) (room : ℕ) (fields : List (List ℕ)) (c : Command) → command_of format room fields ≡ Ok c → TakesCommand format room fields c
unfolding command_of
command_takes format room [] c e = cc
command_takes format room (who ∷ fields) c e = elim (choice (bytes_eq who (codes "sync")) _ _ c e) [
  | inl q ↦ rw (word_is who (codes "sync") q.0) (sync fields q.1)
  | inr e ↦
      let caller = bound (caller_of who) _ c e in
      let t = caller_takes who caller.0 caller.1 in
      rw t.0 (after fields caller.0 t.1 caller.2)
]
  where
    sync : (fields : List (List ℕ)) → given (nat_eq (length fields) 0) WrongCount (Ok Sync) ≡ Ok c → TakesCommand format room (codes "sync" ∷ fields) c
    sync [] e = let is : Sync ≡ c = cc in rw (← is) (record { spelled = inl refl; limits = tt; room = omega arith; counted = refl; listed = refl })
    sync (f ∷ fields) e =
        let p = passed (nat_eq (length (f ∷ fields)) 0) WrongCount (Ok Sync) c e in
        let none : length (f ∷ fields) ≡ 0 = grind (arith, nat_tests, p.0) in absurd (omega (arith, none))

    after : (fields : List (List ℕ)) (caller : ℕ) → IsCaller caller → after_caller format room caller fields ≡ Ok c
        → TakesCommand format room (caller_field caller ∷ fields) c
    after [] caller from e = cc e
    after (word ∷ args) caller from e = called_takes format room caller word args c from e

-- the fields of a header, one by one
header_is : (format : Format) (a b c voxel d large : List ℕ) (v l : ℕ) → a ≡ codes "ikdmap" → b ≡ version_field format → c ≡ codes "voxel"
    → voxel ≡ decimal v → d ≡ codes "large" → large ≡ decimal l
    → a ∷ b ∷ c ∷ voxel ∷ d ∷ large ∷ [] ≡ header_fields format (record { voxel = v; large = l })
header_is format a b c voxel d large v l p q r x t y = rw (p, q, r, x, t, y) refl

-- a version that was read
version_is : (b : List ℕ) → is_version b ≡ true → b ≡ version_field (format_of b)
version_is b e = by_two (bytes_eq b (codes "1")) (bytes_eq b (codes "2")) refl refl e
  where
    by_two : (one two : Bool) → bytes_eq b (codes "1") ≡ one → bytes_eq b (codes "2") ≡ two → (one || two) ≡ true → b ≡ version_field (if two then Two else One)
    by_two one true p q h = word_is b (codes "2") q
    by_two true false p q h = word_is b (codes "1") p
    by_two false false p q h = absurd (cc)

-- what is read as a header is spelled so
pub header_takes : (fs : List (List ℕ)) (s : Format × Sizes) → header_of fs ≡ Ok s → (fs ≡ header_fields s.0 s.1) × AreSizes s.1
unfolding header_of
header_takes [] s e = cc
header_takes (a ∷ []) s e = cc
header_takes (a ∷ b ∷ []) s e = cc
header_takes (a ∷ b ∷ c ∷ []) s e = cc
header_takes (a ∷ b ∷ c ∷ d ∷ []) s e = cc
header_takes (a ∷ b ∷ c ∷ d ∷ f ∷ []) s e = cc
header_takes (a ∷ b ∷ c ∷ voxel ∷ d ∷ large ∷ []) s e =
    let p = passed (bytes_eq a (codes "ikdmap") && is_version b && bytes_eq c (codes "voxel") && bytes_eq d (codes "large")) _ _ s e in
    let q = both (bytes_eq a (codes "ikdmap") && is_version b && bytes_eq c (codes "voxel")) (bytes_eq d (codes "large")) p.0 in
    let r = both (bytes_eq a (codes "ikdmap") && is_version b) (bytes_eq c (codes "voxel")) q.0 in
    let t = both (bytes_eq a (codes "ikdmap")) (is_version b) r.0 in
    let v = bound (natural_in 1 1000000 voxel) _ s p.1 in
    let l = bound (natural_in 16 1000000 large) _ s v.2 in
    let is : (format_of b, record { voxel = v.0; large = l.0 }) ≡ s = cc l.2 in
    let tv = natural_takes 1 1000000 voxel v.0 (omega arith) (omega arith) v.1 in
    let tl = natural_takes 16 1000000 large l.0 (omega arith) (omega arith) l.1 in
    rw (← is) (
      header_is (format_of b) a b c voxel d large v.0 l.0 (word_is a (codes "ikdmap") t.0) (version_is b t.1) (word_is c (codes "voxel") r.1) tv.text (word_is d (codes "large") q.1) tl.text,
      record { voxel_from = tv.from; voxel_to = tv.to; large_from = tl.from; large_to = tl.to },
    )
header_takes (a ∷ b ∷ c ∷ d ∷ f ∷ g ∷ h ∷ more) s e = cc
