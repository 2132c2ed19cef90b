-- Operations of an update, and where their numbers lie.
use Rattle.std.proofs.Common.{◌≡◌, ℕ, ◌+◌, ◌*◌, ◌<◌, ◌≤◌, List, [], ◌∷◌, ◌∙◌, length, drop, arith, refl, ap, sym, subst, Some}
use Rattle.std.specs.Prelude.{All, Contains}
use Rattle.std.proofs.lemmas.List.Elements.{All-contains, All-contains_itself, All-weaker}
use Rattle.node_labels.specs.declared.tag.Tag.{Tag}
use Rattle.point_geom.specs.Place.{Place, Bounds}
use Rattle.map_items.specs.Contents.{inside_box}
use Rattle.map_items.specs.declared.op.Op.{Op}
use Rattle.map_items.specs.declared.op.Op.TheVariants.{Mark, Put}
use Rattle.map_items.specs.declared.update.Update.TheVariants.{Add}
use Rattle.kd_tree.specs.Shape.{Shape}
use Rattle.kd_mark.specs.Refresh.{AreAmong}
use Rattle.map_update.specs.Single.{RebuildsNothing, entered_nodes, only_mark, only_op}

all_among : (P : ℕ → Type 0) (ns ms : List ℕ) → AreAmong ns ms → All P ms → All P ns
all_among P ns ms f k = All-weaker (λ n. Contains ns n) P (λ n c. All-contains P ms n k (f n c)) ns (All-contains_itself ns)

-- numbers that are among those of before lie below the next too
pub among_below : (next : ℕ) (ns ms : List ℕ) → AreAmong ns ms → All (λ n. n < next) ms → All (λ n. n < next) ns
among_below next ns ms f k = all_among (λ n. n < next) ns ms f k

-- the list of an update of one operation has one item, which the operation is of
pub only_put : (next : ℕ) (ps rest : List Place) (p : Place) (op : Op) → ps ≡ p ∷ rest → only_op next (Add ps) ≡ Some op → (Put next p ≡ op)
only_put next [] rest p op e o = absurd cc
only_put next (q ∷ []) rest p op e o = cc
only_put next (q ∷ r ∷ ps) rest p op e o = absurd cc

pub only_point : (next : ℕ) (ps : List Place) (op : Op) → only_op next (Add ps) ≡ Some op → length ps ≡ 1
only_point next [] op o = absurd cc
only_point next (q ∷ []) op o = refl
only_point next (q ∷ r ∷ ps) op o = absurd cc

pub only_marked : (a : Tag) (cs rest : List Bounds) (c : Bounds) (op : Op) → cs ≡ c ∷ rest → only_mark a cs ≡ Some op → (Mark (inside_box c) a ≡ op)
only_marked a [] rest c op e o = absurd cc
only_marked a (d ∷ []) rest c op e o = cc
only_marked a (d ∷ f ∷ cs) rest c op e o = absurd cc

pub only_box : (a : Tag) (cs : List Bounds) (op : Op) → only_mark a cs ≡ Some op → length cs ≡ 1
only_box a [] op o = absurd cc
only_box a (d ∷ []) op o = refl
only_box a (d ∷ f ∷ cs) op o = absurd cc

-- the first of the points, or of the boxes, is the operation's
pub first_point : (next n i : ℕ) (ps : List Place) (p : Place) (op : Op) → drop i ps ≡ p ∷ drop (i + 1) ps → i ≡ 0 → n ≡ next → only_op next (Add ps) ≡ Some op → Put n p ≡ op
first_point next n i ps p op cut none same only = ap (λ k. Put k p) same ∙ only_put next ps (drop (i + 1) ps) p op (sym (ap (λ k. drop k ps) none) ∙ cut) only

pub first_box : (a : Tag) (i : ℕ) (cs : List Bounds) (c : Bounds) (op : Op) → drop i cs ≡ c ∷ drop (i + 1) cs → i ≡ 0 → only_mark a cs ≡ Some op → Mark (inside_box c) a ≡ op
first_box a i cs c op cut none only = only_marked a cs (drop (i + 1) cs) c op (sym (ap (λ k. drop k cs) none) ∙ cut) only

-- what is promised of an operation that rebuilds nothing, said of equal values
pub unrebuilt_nodes_made : (large : ℕ) (o op : Op) (t s : Shape) (m n new : ℕ) → o ≡ op → t ≡ s → m ≡ n
    → (RebuildsNothing large o t → new ≤ m + (5 * entered_nodes o t + 1)) → RebuildsNothing large op s
    → new ≤ n + (5 * entered_nodes op s + 1)
unrebuilt_nodes_made large o op t s m n new e f same k =
    let first : RebuildsNothing large op t → new ≤ m + (5 * entered_nodes op t + 1) = subst (λ (x : Op). RebuildsNothing large x t → new ≤ m + (5 * entered_nodes x t + 1)) e k in
    let second : RebuildsNothing large op s → new ≤ m + (5 * entered_nodes op s + 1) = subst (λ (x : Shape). RebuildsNothing large op x → new ≤ m + (5 * entered_nodes op x + 1)) f first in
    λ unrebuilt. let h = second unrebuilt in omega (arith, h, same)
