-- What a command makes of a state, and what is replied. Cited by private functions alone.
use Rattle.std.specs.Prelude.{◌≡◌, ◌+◌, [], ◌∷◌, ◌++◌, length}
use Rattle.kd_tree.specs.Contents.{contents}
use Rattle.rebuild_parts.specs.History.{updates}
use Rattle.rebuild_core.specs.Lawful.{StateAt}
use Rattle.scan_log.specs.Commands.{updates_made}
use Rattle.scan_log.specs.declared.command.Command.{Command}
use Rattle.scan_log.specs.declared.reply.Reply.{Reply}
use Rattle.scan_log.specs.Scripts.{submitted}
use Rattle.scan_log.specs.Transcript.{reply_to}

-- The second state is the first after the command: its updates are one more, or the same.
pub record Follows (c : Command) (s t : StateAt) : Type 0 where
  pub settings : t.settings ≡ s.settings
  pub made : updates t.history ≡ updates s.history ++ updates_made (c ∷ [])
  pub next : t.next ≡ s.next + submitted c

-- the tree may be another one, and all that is seen stays
pub record IsMaintained (s t : StateAt) : Type 0 where
  pub settings : t.settings ≡ s.settings
  pub held : contents t.tree ≡ contents s.tree
  pub history : t.history ≡ s.history
  pub next : t.next ≡ s.next

-- the reply to a command after all updates of the state's history
abbrev pub reply_of : StateAt → Command → Reply
reply_of s c = reply_to s.settings.voxel (updates s.history) c (length s.history)
