use Rattle.std.proofs.Common.{◌≤◌, ◌+◌, ℕ, List, Option, subst}
use Rattle.mapper_base.specs.declared.command_line.words.Ask.{Ask}
use Rattle.mapper_base.specs.Asks.{Asks, most_of}
use Rattle.byte_streams.specs.Outside.{HasRead}
use Rattle.mapper_base.proofs.OneAsk.{same_ask}
use Rattle.mapper_core.proofs.running.run_quietly.Goals as goal

-- what was read for one ask was read for the other, which is the same
read_for : (a b : Ask) (words : List (List ℕ)) (left left_after : Option (List ℕ)) → Asks a words → HasRead left left_after (λ n. n ≤ most_of a + 1)
    → Asks b words → HasRead left left_after (λ n. n ≤ most_of b + 1)
read_for a b words left left_after asked read also = subst (λ x. HasRead left left_after (λ n. n ≤ most_of x + 1)) (same_ask a b words asked also) read

pub returns-in-Err-text_of-clause-reads : goal.returns-in-Err-text_of-clause-reads
returns-in-Err-text_of-clause-reads g c = λ a also. read_for c.in-Ok-Some.ask a _ _ _ (rw c.in-Ok-Some.field-0-is at c.in-Ok-Some.ensures.found) c.text_of.ensures.reads also

pub returns-in-Ok-write_all-clause-reads : goal.returns-in-Ok-write_all-clause-reads
returns-in-Ok-write_all-clause-reads g c = λ a also. read_for c.in-Ok-Some.ask a _ _ _ (rw c.in-Ok-Some.field-0-is at c.in-Ok-Some.ensures.found) c.text_of.ensures.reads also

pub returns-in-Err-Failed-clause-reads : goal.returns-in-Err-Failed-clause-reads
returns-in-Err-Failed-clause-reads g c = λ a also. read_for c.in-Ok-Some.ask a _ _ _ (rw c.in-Ok-Some.field-0-is at c.in-Ok-Some.ensures.found) c.text_of.ensures.reads also

pub returns-clause-reads : goal.returns-clause-reads
returns-clause-reads g c = λ a also. read_for c.in-Ok-Some.ask a _ _ _ (rw c.in-Ok-Some.field-0-is at c.in-Ok-Some.ensures.found) c.text_of.ensures.reads also
