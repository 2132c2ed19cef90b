use Rattle.transcript_check.proofs.heads.after_answer.Goals as goal

pub returns-in-Clusters : goal.returns-in-Clusters
returns-in-Clusters c = rw c.in-Clusters.is c.after_caller-in-Clusters.ensures
