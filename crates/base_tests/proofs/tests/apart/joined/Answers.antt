use Rattle.std.proofs.Common.{rules}
use Rattle.base_tests.proofs.tests.apart.joined.Goals as goal

pub pull_up-requires : goal.pull_up-requires
pull_up-requires g c = record {
  sound = record {
    below = search rules;
    above = search rules;
    once = search rules;
    few = search rules;
    low = search rules;
  };
}
