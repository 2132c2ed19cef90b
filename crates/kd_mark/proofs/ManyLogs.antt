-- Several watches.
use Rattle.std.proofs.Common.{◌≡◌, ℕ, ◌+◌, ◌≤◌, refl, ap, ◌∙◌, sym, arith, length, List, [], ◌∷◌, append-nil}
use Rattle.map_items.specs.declared.op.Op.{Op}
use Rattle.kd_tree.specs.declared.path.Side.{Side}
use Rattle.kd_mark.specs.declared.watch.Watch.{Watch}
use Rattle.map_items.specs.Ops.{Extends}
use Rattle.kd_mark.specs.Watches.{AreMore, AreExtended, paths_in}

pub extended_itself : (ws : List Watch) → AreExtended ws ws
extended_itself [] = refl
extended_itself (w ∷ ws) = (refl, ([], sym (append-nil w.log)), extended_itself ws)

pub extended_front : (all ws new : List Watch) (w : Watch) (log : List Op) → all ≡ w ∷ ws → Extends w.log log → AreExtended ws new → AreExtended all (record w { log = log } ∷ new)
extended_front all ws new w log e k f = rw e (refl, k, f)

pub same_paths : (ws vs : List Watch) → AreExtended ws vs → paths_in vs ≡ paths_in ws
same_paths [] vs e = ap paths_in e
same_paths (w ∷ ws) [] e = absurd e
same_paths (w ∷ ws) (v ∷ vs) e = ap (λ (p : List Side). p ∷ paths_in vs) e.0 ∙ ap (λ (ps : List (List Side)). w.path ∷ ps) (same_paths ws vs e.2)

-- paths that are those of the watches once these were logged to are those of before
pub watched_before : (ps : List (List Side)) (ws vs us : List Watch) → ps ≡ paths_in us → us ≡ vs → AreExtended ws vs → ps ≡ paths_in ws
watched_before ps ws vs us e f x = e ∙ ap paths_in f ∙ same_paths ws vs x

pub more_itself : (n : ℕ) (ws : List Watch) → AreMore n ws ws
more_itself n [] = tt
more_itself n (w ∷ ws) = (omega arith, more_itself n ws)

pub more_front : (n : ℕ) (all ws new : List Watch) (w : Watch) (log : List Op) → all ≡ w ∷ ws → length log ≤ length w.log + n → AreMore n ws new → AreMore n all (record w { log = log } ∷ new)
more_front n all ws new w log e k f = rw e (k, f)
