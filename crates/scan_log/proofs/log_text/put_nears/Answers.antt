use Rattle.std.proofs.Common.{◌≡◌, ◌++◌, ℕ, List, OnOk, append_assoc, subst}
use Rattle.std.specs.Prelude.{codes, decimal}
use Rattle.std.specs.List.{flat_map}
use Rattle.point_geom.specs.Place.{Place}
use Rattle.scan_log.specs.Spelling.{caller_field, point_fields}
use Rattle.scan_log.specs.Transcript.{all_spaced, point_text, spaced}
use Rattle.scan_log.proofs.WrittenLines.{spaced_places}
use Rattle.scan_log.proofs.log_text.put_nears.Goals as goal

-- the head and the places, piece by piece, are the line
line : (old head caller word k : List ℕ) (ps : List Place) → head ≡ old ++ (caller ++ word ++ k)
    → head ++ flat_map point_text ps ≡ old ++ (caller ++ (word ++ (k ++ all_spaced (flat_map point_fields ps))))
line old head caller word k ps e = rw (e, spaced_places ps) (simp append_assoc)

pub returns : goal.returns
returns c =
    let all = line c.args.out.now.items c.put_head.new.out.items (caller_field c.args.caller) (spaced (codes "nears")) (spaced (decimal c.args.k)) c.args.points.now c.in_ok-put_head.ensures in
    subst (λ l. OnOk c.put_all.result (c.put_all.new.out.items ≡ l)) all c.put_all.ensures
