use Rattle.std.proofs.Common.{◌≡◌, ℕ, ◌+◌, ◌<◌, ◌≤◌, Bool, true, false, List, length, slice_index_or, below_more, ap, sym, ◌∙◌, arith}
use Rattle.std.specs.List.{AllWithin, SwappedAt}
use Rattle.std.proofs.lemmas.List.{get_or_read}
use Rattle.std.proofs.lemmas.List.Sorted.{IsPermutation-trans}
use Rattle.point_geom.specs.Place.{Bounds}
use Rattle.point_geom.specs.Extents.{meets}
use Rattle.map_update.proofs.clear.moved_front.Goals.{then-meets, else-meets}
use Rattle.map_update.proofs.clear.moved_front.Goals as goal

-- the box at i passes and has come to the place n, and what was there to i
met_more : (p : Bounds → Bool) (ys zs : List Bounds) (n i : ℕ) → ((d : Bounds) → p (slice_index_or ys i d) ≡ true) → n ≤ i → SwappedAt ys zs n i
    → AllWithin (λ y. p y ≡ true) ys 0 n → AllWithin (λ y. p y ≡ true) zs 0 (n + 1)
met_more p ys zs n i here from moved old = λ k d low below.
    below_more (λ k. p (slice_index_or zs k d) ≡ true) n
    (λ k b. ap p (moved.2 k d (omega arith) (omega arith)) ∙ old k d (omega arith) b) (ap p (moved.0 d) ∙ here d) k below

missed_more : (p : Bounds → Bool) (ys zs : List Bounds) (n i : ℕ) → n ≤ i → SwappedAt ys zs n i → AllWithin (λ y. p y ≡ false) ys n i → AllWithin (λ y. p y ≡ false) zs (n + 1) (i + 1)
missed_more p ys zs n i from moved old = λ k d low below.
    below_more (λ k. n + 1 ≤ k → p (slice_index_or zs k d) ≡ false) i
    (λ k b up. ap p (moved.2 k d (omega arith) (omega arith)) ∙ old k d (omega arith) b)
    (λ up. ap p (moved.1 d) ∙ old n d (omega arith) (omega arith)) k below low

-- the box at i doesn't pass and stays
missed_here : (p : Bounds → Bool) (ys : List Bounds) (n i : ℕ) → ((d : Bounds) → p (slice_index_or ys i d) ≡ false) → AllWithin (λ y. p y ≡ false) ys n i → AllWithin (λ y. p y ≡ false) ys n (i + 1)
missed_here p ys n i here old = λ k d low below. below_more (λ k. n ≤ k → p (slice_index_or ys k d) ≡ false) i (λ k b up. old k d up b) (λ up. here d) k below low

-- what was read at i, at any default
read_at : (p : Bounds → Bool) (ys : List Bounds) (i : ℕ) (x : Bounds) (b : Bool) → i < length ys → x ≡ slice_index_or ys i x → p (slice_index_or ys i x) ≡ b → (d : Bounds) → p (slice_index_or ys i d) ≡ b
read_at p ys i x b below is pass d = ap p (sym (get_or_read ys i x below is d) ∙ is) ∙ pass

pub loop-i-preserved : goal.loop-i-preserved
loop-i-preserved c =
    let p : Bounds → Bool = λ b. meets b c.args.extent.now in
    let ys = c.loop-i.cuboids in
    let n = c.loop-i.count in
    let i = c.loop-i.i in
    let old = c.loop-i.invariant in
    let x = c.index-cuboids-i.result in
    elim c.if-meets.branch [
      | then-meets w ↦
          let here = read_at p ys i x true (omega arith) c.index-cuboids-i.is (sym c.meets.ensures.value ∙ w.if-meets.true) in
          let moved = w.swap.ensures.by_index in
          rw (w.cuboids-is, w.count-is)
          (record {
            moved = IsPermutation-trans _ _ _ old.moved w.swap.ensures.permutation;
            behind = omega arith;
            met = met_more p ys w.swap.new.self n i here old.behind moved old.met;
            missed = missed_more p ys w.swap.new.self n i old.behind moved old.missed;
          })
      | else-meets w ↦
          let here = read_at p ys i x false (omega arith) c.index-cuboids-i.is (sym c.meets.ensures.value ∙ w.if-meets.false) in
          rw (w.cuboids-is, w.count-is)
          (record {
            moved = old.moved;
            behind = omega arith;
            met = old.met;
            missed = missed_here p ys n i here old.missed;
          })
    ]
