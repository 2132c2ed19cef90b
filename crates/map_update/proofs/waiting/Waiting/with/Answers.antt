use Rattle.std.proofs.Common.{◌≡◌, ◌<◌, ◌++◌, ◌∙◌, ℕ, List, [], ◌∷◌, ap, arith, subst, sym}
use Rattle.std.specs.Prelude.{All}
use Rattle.std.proofs.lemmas.List.Elements.{All-append, All-cons, All-nil}
use Rattle.node_labels.specs.declared.label.Label.TheVariants.{Live}
use Rattle.map_items.specs.declared.item.Item.{Item}
use Rattle.map_items.specs.Contents.{AreContents, put}
use Rattle.map_items.specs.Ops.{IsUnheld}
use Rattle.map_items.proofs.Puts.{contents_put}
use Rattle.kd_update.specs.Scan.{AreLive}
use Rattle.kd_update.proofs.Grown.{IsLive}
use Rattle.map_update.specs.declared.waiting.Waiting.{Waiting}
use Rattle.map_update.specs.Waiting.{contents_of, left_in}
use Rattle.map_update.proofs.Both.{both, distinct_both, with_held}
use Rattle.map_update.proofs.waiting.Waiting.with.Goals as goal

-- with what was pushed
pushed : (high : ℕ) (w : Waiting) (us : List Item) (x : Item) → us ≡ w.items.items ++ x ∷ [] → AreContents 0 high (contents_of w) → x.label ≡ Live → IsUnheld x.number (contents_of w)
    → both (left_in w) us ≡ put (contents_of w) x.number x.point
pushed high w us x e k live new = ap (both (left_in w)) e ∙ with_held (left_in w) w.items.items x live (distinct_both high (left_in w) w.items.items k) new

pub returns-clause-held : goal.returns-clause-held
returns-clause-held c = pushed c.args.high c.args.self c.push.new.self.items c.args.item c.in_ok-push.ensures.items c.requires.waiting.held c.requires.live c.requires.new

pub returns-clause-waiting : goal.returns-clause-waiting
returns-clause-waiting c =
    let k = c.requires.waiting in
    let high = c.args.high in
    let x = c.args.item in
    let ws = c.args.self.items.items in
    let last = sym c.in_ok-push.ensures.items in
    let held = pushed high c.args.self c.push.new.self.items x c.in_ok-push.ensures.items k.held c.requires.live c.requires.new in
    let P : Item → Type 0 = λ i. i.number < high in
    record {
      live = subst AreLive last (All-append IsLive ws (x ∷ []) k.live (All-cons IsLive x [] c.requires.live (All-nil IsLive)));
      held = subst (AreContents 0 high) (sym held) (contents_put 0 high x.number (contents_of c.args.self) x.point (omega arith) c.requires.below k.held);
      given = subst (All P) last (All-append P ws (x ∷ []) k.given (All-cons P x [] c.requires.below (All-nil P)));
      below = k.below;
    }
