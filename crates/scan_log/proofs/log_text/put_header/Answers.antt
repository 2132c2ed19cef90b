use Rattle.std.proofs.Common.{◌≡◌, ◌∷◌, [], ◌++◌, ℕ, List, append_assoc}
use Rattle.std.specs.Prelude.{codes, decimal}
use Rattle.std.proofs.lemmas.List.{append-nil}
use Rattle.std.proofs.lemmas.Result.{on_ok_weaker}
use Rattle.scan_log.specs.Formats.{version_field}
use Rattle.scan_log.specs.Transcript.{spaced}
use Rattle.scan_log.proofs.log_text.put_header.Goals as goal

-- what was put, piece by piece, is the line
line : (old first a x b y end : List ℕ) →
    (((old ++ first) ++ (a ++ x)) ++ (b ++ y)) ++ end ≡ old ++ ((first ++ (a ++ (x ++ (b ++ (y ++ []))))) ++ end)
line old first a x b y end = simp (append_assoc, append-nil)

pub returns : goal.returns
returns c =
    let sizes = c.args.settings.now in
    let e = line c.args.out.now.items (codes "ikdmap" ++ spaced (version_field c.args.format)) (spaced (codes "voxel")) (spaced (decimal sizes.voxel)) (spaced (codes "large")) (spaced (decimal sizes.large)) (10 ∷ []) in
    on_ok_weaker c.put-2.result (λ last. cc (e, last, c.in_ok-put.ensures.ok, c.in_ok-put_named.ensures, c.in_ok-put_named-2.ensures, c.voxel.ensures.value, c.large.ensures.value)) c.put-2.ensures.ok
