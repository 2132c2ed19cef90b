use Rattle.std.proofs.Common.{◌≡◌, ℕ, ◌+◌, ◌<◌, ◌≤◌, Bool, true, false, List, length, slice_index_or, below_more, ap, sym, ◌∙◌, arith}
use Rattle.std.specs.List.{AllWithin, SwappedAt}
use Rattle.std.proofs.lemmas.List.{get_or_read}
use Rattle.std.proofs.lemmas.List.Sorted.{IsPermutation-trans}
use Rattle.map_items.specs.declared.item.Item.{Item}
use Rattle.kd_update.specs.Put.{goes_left}
use Rattle.kd_update.proofs.scans.part_items.moved_left.Goals.{then-goes_left, else-goes_left}
use Rattle.kd_update.proofs.scans.part_items.moved_left.Goals as goal

-- the item at i passes and has come to the place n, and what was there to i
left_more : (p : Item → Bool) (ys zs : List Item) (n i : ℕ) → ((d : Item) → p (slice_index_or ys i d) ≡ true) → n ≤ i → SwappedAt ys zs n i
    → AllWithin (λ y. p y ≡ true) ys 0 n → AllWithin (λ y. p y ≡ true) zs 0 (n + 1)
left_more p ys zs n i here from moved old = λ k d low below.
    below_more (λ k. p (slice_index_or zs k d) ≡ true) n
    (λ k b. ap p (moved.2 k d (omega arith) (omega arith)) ∙ old k d (omega arith) b) (ap p (moved.0 d) ∙ here d) k below

right_more : (p : Item → Bool) (ys zs : List Item) (n i : ℕ) → n ≤ i → SwappedAt ys zs n i → AllWithin (λ y. p y ≡ false) ys n i → AllWithin (λ y. p y ≡ false) zs (n + 1) (i + 1)
right_more p ys zs n i from moved old = λ k d low below.
    below_more (λ k. n + 1 ≤ k → p (slice_index_or zs k d) ≡ false) i
    (λ k b up. ap p (moved.2 k d (omega arith) (omega arith)) ∙ old k d (omega arith) b)
    (λ up. ap p (moved.1 d) ∙ old n d (omega arith) (omega arith)) k below low

-- the item at i doesn't pass and stays
right_here : (p : Item → Bool) (ys : List Item) (n i : ℕ) → ((d : Item) → p (slice_index_or ys i d) ≡ false) → AllWithin (λ y. p y ≡ false) ys n i → AllWithin (λ y. p y ≡ false) ys n (i + 1)
right_here p ys n i here old = λ k d low below. below_more (λ k. n ≤ k → p (slice_index_or ys k d) ≡ false) i (λ k b up. old k d up b) (λ up. here d) k below low

-- what was read at i, at any default
read_at : (p : Item → Bool) (ys : List Item) (i : ℕ) (x : Item) (b : Bool) → i < length ys → x ≡ slice_index_or ys i x → p (slice_index_or ys i x) ≡ b → (d : Item) → p (slice_index_or ys i d) ≡ b
read_at p ys i x b below is pass d = ap p (sym (get_or_read ys i x below is d) ∙ is) ∙ pass

pub loop-i-preserved : goal.loop-i-preserved
loop-i-preserved c =
    let p : Item → Bool = λ i. goes_left c.args.axis i.point c.args.point.now in
    let ys = c.loop-i.items in
    let n = c.loop-i.count in
    let i = c.loop-i.i in
    let old = c.loop-i.invariant in
    let x = c.index-items-i.result in
    elim c.if-goes_left.branch [
      | then-goes_left w ↦
          let here = read_at p ys i x true (omega arith) c.index-items-i.is (sym c.goes_left.ensures ∙ w.if-goes_left.true) in
          let moved = w.swap.ensures.by_index in
          rw (w.items-is, w.count-is)
          (record {
            moved = IsPermutation-trans _ _ _ old.moved w.swap.ensures.permutation;
            behind = omega arith;
            left = left_more p ys w.swap.new.self n i here old.behind moved old.left;
            right = right_more p ys w.swap.new.self n i old.behind moved old.right;
          })
      | else-goes_left w ↦
          let here = read_at p ys i x false (omega arith) c.index-items-i.is (sym c.goes_left.ensures ∙ w.if-goes_left.false) in
          rw (w.items-is, w.count-is)
          (record {
            moved = old.moved;
            behind = omega arith;
            left = old.left;
            right = right_here p ys n i here old.right;
          })
    ]
