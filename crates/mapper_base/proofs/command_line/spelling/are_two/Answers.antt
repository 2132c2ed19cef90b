use Rattle.std.specs.String.{string_bytes}
use Rattle.mapper_base.proofs.FewWords.{two_words, tells_two, tells_none}
use Rattle.mapper_base.proofs.command_line.spelling.are_two.Goals as goal

pub returns-then-eq : goal.returns-then-eq
returns-then-eq c =
    rw (two_words (λ w. string_bytes w) c.args.words.now c.word-item.result c.other-item.result c.in-len2.len_at_least c.in-len2.len_below c.word-item.is c.other-item.is)
    (tells_two c.eq.result c.eq-then-eq.result _ c.args.first.now _ c.args.second.now
    (rw c.as_str.ensures.value at c.eq.ensures) c.if-eq.true
    (rw c.as_str-then-eq.ensures.value at c.eq-then-eq.ensures))

pub returns-else-eq : goal.returns-else-eq
returns-else-eq c =
    rw (two_words (λ w. string_bytes w) c.args.words.now c.word-item.result c.other-item.result c.in-len2.len_at_least c.in-len2.len_below c.word-item.is c.other-item.is)
    (tells_none c.eq.result _ c.args.first.now _ c.args.second.now (rw c.as_str.ensures.value at c.eq.ensures) c.if-eq.false)
