use Rattle.std.proofs.Common.{◌≡◌, ◌∷◌, [], ◌++◌, ℕ, List, ap, append_assoc, w64}
use Rattle.std.specs.Fmt.{signed_decimal}
use Rattle.std.proofs.lemmas.Int.{to_z-of_z}
use Rattle.std.proofs.lemmas.List.{append-nil}
use Rattle.std.proofs.lemmas.Result.{on_ok_weaker}
use Rattle.scan_log.specs.Transcript.{all_spaced, spaced}
use Rattle.scan_log.proofs.append.put_three.Goals as goal

-- three numbers, one by one, are all
line : (old x y z first second last : List ℕ) → first ≡ old ++ spaced x → second ≡ first ++ spaced y → last ≡ second ++ spaced z → last ≡ old ++ all_spaced (x ∷ y ∷ z ∷ [])
line old x y z first second last p q r = rw (r, q, p) (simp (append_assoc, append-nil))

pub returns : goal.returns
returns c =
    let x = ap signed_decimal (to_z-of_z w64 c.args.x c.ranges.x) in
    let y = ap signed_decimal (to_z-of_z w64 c.args.y c.ranges.y) in
    let z = ap signed_decimal (to_z-of_z w64 c.args.z c.ranges.z) in
    on_ok_weaker c.put_spaced-3.result (λ last. line _ _ _ _ _ _ _ (rw x at c.in_ok-put_spaced.ensures) (rw y at c.in_ok-put_spaced-2.ensures) (rw z at last)) c.put_spaced-3.ensures
