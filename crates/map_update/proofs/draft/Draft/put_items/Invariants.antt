use Rattle.std.proofs.Common.{◌≡◌, ℕ, ◌+◌, ◌<◌, List, length}
use Rattle.std.specs.Prelude.{All}
use Rattle.kd_tree.specs.Contents.{contents}
use Rattle.kd_update.specs.Scan.{MayJoin, put_each}
use Rattle.map_update.specs.Draft.{IsDraft, IsDraftLeft, IsDrafted}
use Rattle.kd_update.specs.Detached.{PartAt}
use Rattle.map_update.proofs.draft.Draft.put_items.Given as goal

abbrev pub invariant-loop-rest : goal.invariant-loop-rest
invariant-loop-rest g l = record {
  fit : MayJoin (contents l.draft.tree) l.rest;
  rest : put_each (contents l.draft.tree) l.rest ≡ put_each (contents l.fn.self.tree) l.items;
  draft : (next last : ℕ) (ps : List PartAt) → All (λ i. i.number < next) l.items → IsDraft l.large next last ps l.fn.self
      → All (λ i. i.number < next) l.rest × IsDraftLeft l.large next last ps l.draft;
  drafted : (done : ℕ) × (done + length l.rest ≡ length l.items) × IsDrafted done done l.fn.self l.draft;
}

abbrev pub decreases-loop-rest : goal.decreases-loop-rest
decreases-loop-rest g l = length l.rest
