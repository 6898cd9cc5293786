-- At which ports a node may answer over HTTP.
use Rattle.std.specs.Prelude.{◌≡◌, ◌≢◌, [], ◌∷◌}
use Rattle.std.specs.Net.Addr.{ipv4_octets, IsLoopbackV6}
use Rattle.std.specs.Net.Socket.{v4_ip, v4_port, v6_ip, v6_port, v6_scope_id}
use Rattle.std.specs.declared.net.socket_addr.SocketAddr.{SocketAddr}
use Rattle.std.specs.declared.net.socket_addr.SocketAddr.TheVariants.{V4, V6}

-- 127.0.0.1 or [::1], with a port from 1 on
abbrev pub IsOwnPort : SocketAddr → Type 0
IsOwnPort (V4 own) = (v4_port own ≢ 0) × (ipv4_octets (v4_ip own) ≡ 127 ∷ 0 ∷ 0 ∷ 1 ∷ [])
IsOwnPort (V6 own) = (v6_port own ≢ 0) × (v6_scope_id own ≡ 0) × IsLoopbackV6 (v6_ip own)
