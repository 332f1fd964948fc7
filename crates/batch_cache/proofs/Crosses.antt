-- A cache may move to any thread, so many threads may share one behind a lock.
use denote.Param.Send.{IsSend, IsSync, sendable}
use Rattle.std.proofs.Crossing.{crosses}
use Rattle.std.proofs.MapsCrossing.{crosses as maps}
use Rattle.std.specs.contracts.sync.Mutex as Mutex
use Rattle.lru.proofs.list.List.TheSendSync.{the_send as list_send}
use Rattle.lru.proofs.entry.Deed.TheSendSync.{the_send as deed_send}
use Rattle.lru.proofs.key_ref.KeyRef.TheSendSync.{the_send as key_ref_send}
use Rattle.pack_defs.specs.contracts.channel_map.ChannelMap as ChannelMap
use Rattle.batch_cache.specs.contracts.signed_set.SignedSet as SignedSet
use Rattle.batch_cache.specs.contracts.key.Key as Key
use Rattle.batch_cache.specs.contracts.kept_refutation.KeptRefutation as KeptRefutation
use Rattle.batch_cache.specs.contracts.cache.Cache as Cache

pub map-send : IsSend ChannelMap.the_row
map-send = search (crosses, sendable) depth 30

pub set-send : IsSend SignedSet.the_row
set-send = search (crosses, sendable) depth 30

pub set-sync : IsSync SignedSet.the_row
set-sync = search (crosses, sendable) depth 30

pub key-send : IsSend Key.the_row
key-send = search (set-send, crosses, sendable) depth 30

pub key-sync : IsSync Key.the_row
key-sync = search (set-sync, crosses, sendable) depth 30

pub kept-send : IsSend KeptRefutation.the_row
kept-send = search (set-send, crosses, sendable) depth 30

pub cache-send : IsSend Cache.the_row
cache-send = search (key-send, key-sync, map-send, kept-send, list_send, deed_send, key_ref_send, maps, crosses, sendable) depth 60 fits 100000

-- Many threads may share a cache behind a lock.
pub mutex_cache-sync : IsSync (Mutex.the_row Cache.the_row)
mutex_cache-sync = search (cache-send, crosses, sendable) depth 30
