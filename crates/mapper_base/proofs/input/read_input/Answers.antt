use Rattle.std.proofs.Common.{◌≡◌, ◌≤◌, ◌++◌, ℕ, List, length, Option, None, Some, IfSome, sym, ◌∙◌, ap, subst, arith}
use Rattle.std.proofs.lemmas.List.{append-nil}
use Rattle.std.specs.Io.KnownBytes.{Consumes, IsAtEnd}
use Rattle.scan_log.specs.Spelling.{Spells}
use Rattle.scan_log.specs.Faults.{first_fault}
use Rattle.mapper_base.specs.Asks.{log_of, most_of}
use Rattle.mapper_base.proofs.input.read_input.Goals as goal

-- what is read to its end is all
all_read : (before after : Option (List ℕ)) (items : List ℕ) → Consumes before after items → IsAtEnd after → IfSome before (λ bytes. bytes ≡ items)
all_read None after items all end = tt
all_read (Some xs) None items all end = absurd all
all_read (Some xs) (Some ys) items all end = all ∙ ap (λ ys. items ++ ys) end ∙ append-nil items

-- and what holds of it holds of what there was
holds_of_all : (before : Option (List ℕ)) (items : List ℕ) (P : List ℕ → Type 0) → IfSome before (λ bytes. bytes ≡ items) → P items → IfSome before P
holds_of_all None items P all h = tt
holds_of_all (Some xs) items P all h = subst P (sym all) h

pub returns-in-Ok-parse-clause-bytes : goal.returns-in-Ok-parse-clause-bytes
returns-in-Ok-parse-clause-bytes g c = all_read _ _ c.in-Ok.bytes.items c.in-Ok.ensures.all c.in-Ok.ensures.end

pub returns-in-Ok-parse-clause-says : goal.returns-in-Ok-parse-clause-says
returns-in-Ok-parse-clause-says g c =
    let items = c.in-Ok.bytes.items in
    let script = c.in-Ok-parse.script in
    let few : length items ≤ most_of c.args.ask = omega (arith, c.in-Ok.ensures.bytes, c.most_of.ensures) in
    let same : c.log_of.result.now ≡ log_of c.args.ask items = c.log_of.ensures ∙ ap (log_of c.args.ask) c.as_slice.ensures.value in
    let spells : Spells (log_of c.args.ask items) script = subst (λ bytes. Spells bytes script) same c.in-Ok-parse.ensures.found in
    let sound : first_fault (log_of c.args.ask items) ≡ None = ap first_fault (sym same) ∙ c.in-Ok-parse.ensures.sound in
    let all = all_read _ _ items c.in-Ok.ensures.all c.in-Ok.ensures.end in (
      c.in-Ok.ensures.ended,
      holds_of_all _ items (λ bytes. (length bytes ≤ most_of c.args.ask) × (Spells (log_of c.args.ask bytes) script × (first_fault (log_of c.args.ask bytes) ≡ None))) all (few, (spells, sound)),
    )
