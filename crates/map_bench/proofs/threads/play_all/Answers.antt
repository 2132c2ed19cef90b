use Rattle.published_map.proofs.Crossing.{pass_send, shared_sync}
use Rattle.map_bench.proofs.Sent.{to_thread}
use Rattle.map_bench.proofs.threads.play_all.Goals as goal

pub map_vec-requires-send-J : goal.map_vec-requires-send-J
map_vec-requires-send-J g c κs within =
    let pass = pass_send _ g.L.MapName g.L.Ledger c.type_bounds.send-L c.type_bounds.sync-L in
    search to_thread depth 60 fits 100000

pub map_vec-requires-sync-F : goal.map_vec-requires-sync-F
map_vec-requires-sync-F g c κs within =
    let host = c.type_bounds.sync-R in
    let map = shared_sync _ g.L.MapName g.L.Ledger c.type_bounds.send-L c.type_bounds.sync-L in
    search to_thread depth 60 fits 100000
