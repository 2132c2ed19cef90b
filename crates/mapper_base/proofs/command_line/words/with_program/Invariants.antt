use Rattle.std.proofs.Common.{◌≡◌, ◌∷◌, codes, map, take}
use Rattle.mapper_base.specs.Asks.{texts}
use Rattle.mapper_base.proofs.command_line.words.with_program.Given as goal

abbrev pub invariant-loop-word : goal.invariant-loop-word
invariant-loop-word l = map (λ w. w.now) l.argv.items ≡ codes "mapper" ∷ texts (take l.word-index l.words)
