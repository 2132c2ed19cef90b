use Rattle.published_map.proofs.Crossing.{shared_sync}
use Rattle.mapper_core.proofs.Sent.{to_worker}
use Rattle.mapper_core.proofs.callers.threads.beside_worker.Goals as goal

pub join-all-requires-send-F : goal.join-all-requires-send-F
join-all-requires-send-F g c κs within =
    let sent = c.type_bounds.send-L in
    let seen = c.type_bounds.sync-L in
    let gate = c.type_bounds.sync-G in
    let host = c.type_bounds.sync-R in
    let map = shared_sync _ g.L.MapName g.L.Ledger sent seen in
    search to_worker depth 60 fits 100000
