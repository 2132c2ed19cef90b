use Rattle.published_map.proofs.Crossing.{pass_send, shared_sync}
use Rattle.map_bench.proofs.Sent.{to_thread}
use Rattle.map_bench.proofs.threads.play_beside.Goals as goal

pub join-others-requires-send-F : goal.join-others-requires-send-F
join-others-requires-send-F g c κs within =
    let host = c.type_bounds.sync-R in
    let pass = pass_send _ g.L.MapName g.L.Ledger c.type_bounds.send-L c.type_bounds.sync-L in
    let map = shared_sync _ g.L.MapName g.L.Ledger c.type_bounds.send-L c.type_bounds.sync-L in
    search to_thread depth 60 fits 100000
