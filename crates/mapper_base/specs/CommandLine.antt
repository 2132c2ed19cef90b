-- The command line, as `clap` gets it, and what is read in its words. Cited by private functions alone.
use Rattle.std.specs.Prelude.{◌≡◌, List, codes, decimal, Option, Some, None}
use Rattle.clap.specs.Words.{App, Rule, Text, first_value, one_text, new_app, new_rule, with_rule, with_subcommand}
use Rattle.clap.specs.declared.parser.matches.Found.{Found}
use Rattle.clap.specs.declared.builder.ArgAction.TheVariants.{SetTrue, Set}
use Rattle.mapper_base.specs.declared.command_line.words.Ask.{Ask}
use Rattle.mapper_base.specs.declared.command_line.words.Ask.TheVariants.{Run, Serial, Make, Drive, Check}
use Rattle.mapper_base.specs.Asks.{spelled}

-- the flag --serial
abbrev pub serial : Rule
serial = record (new_rule (codes "serial")) { long = Some (codes "serial"); action = Some SetTrue }

-- a value n
abbrev pub number : Rule
number = record (new_rule (codes "n")) { action = Some Set }

-- the command that runs a log, which takes the flag
abbrev pub run : App
run = with_rule (new_app (codes "run")) serial

-- a command that takes such a value
abbrev pub numbered : Text → App
numbered name = with_rule (new_app name) number

-- the program: run, make, drive and check
abbrev pub mapper : App
mapper = with_subcommand (with_subcommand (with_subcommand (with_subcommand (new_app (codes "mapper")) run.top)
    (numbered (codes "make")).top) (numbered (codes "drive")).top) (numbered (codes "check")).top

-- a subcommand of this name, with what was found in it, asks for it
abbrev pub IsMatch : Ask → Text → Found → Type 0
IsMatch Run t f = (t ≡ codes "run") × (one_text f (codes "serial") ≡ Some (codes "false"))
IsMatch Serial t f = (t ≡ codes "run") × (one_text f (codes "serial") ≡ Some (codes "true"))
IsMatch (Make n) t f = (t ≡ codes "make") × (first_value f (codes "n") ≡ Some (decimal n))
IsMatch (Drive n) t f = (t ≡ codes "drive") × (first_value f (codes "n") ≡ Some (decimal n))
IsMatch (Check n) t f = (t ≡ codes "check") × (first_value f (codes "n") ≡ Some (decimal n))

-- something was read that is spelled so
abbrev pub IsParsed : Option Ask → List Text → Type 0
IsParsed None words = ⊥
IsParsed (Some a) words = spelled a ≡ words
