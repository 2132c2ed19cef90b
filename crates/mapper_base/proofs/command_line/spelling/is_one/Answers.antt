use Rattle.std.specs.String.{string_bytes}
use Rattle.mapper_base.proofs.FewWords.{one_word, tells_one}
use Rattle.mapper_base.proofs.command_line.spelling.is_one.Goals as goal

pub returns-in-len1 : goal.returns-in-len1
returns-in-len1 c =
    rw (one_word (λ w. string_bytes w) c.args.words.now c.word-item.result c.in-len1.len_at_least c.in-len1.len_below c.word-item.is)
    (tells_one c.eq.result _ c.args.first.now (rw c.as_str.ensures.value at c.eq.ensures))
