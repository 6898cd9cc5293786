-- Whether the host that a request names is this machine.
use Rattle.std.specs.Prelude.{ℕ, Bool, true, false, ◌&&◌, ◌||◌, ◌==◌, nat_eq, List, [], ◌∷◌, length, take, drop, codes, Option, Some, None, option_map}
use Rattle.std.specs.List.{list_all}
use Rattle.std.specs.Char.{is_ascii_digit}
use Rattle.std.specs.Cmp.Lexicographic.{pointwise}
use Rattle.http.specs.declared.request.Request.{Request}
use Rattle.http.specs.Request.{head_of}
use Rattle.http_header.specs.HeaderMap.{get}
use Rattle.http_uri.specs.Uri.{uri_authority}

-- nothing, or a colon and digits
abbrev pub is_port : List ℕ → Bool
is_port [] = true
is_port (b ∷ digits) = b == 58 && list_all is_ascii_digit digits

-- the name, with a port or without one
abbrev pub is_named : List ℕ → List ℕ → Bool
is_named name host = pointwise nat_eq (take (length name) host) name && is_port (drop (length name) host)

abbrev pub is_local : List ℕ → Bool
is_local host = is_named (codes "127.0.0.1") host || is_named (codes "[::1]") host || is_named (codes "localhost") host

-- the first field `Host`
abbrev pub host_field : Request (List ℕ) → Option (List ℕ)
host_field request = option_map (λ value. value.bytes) (get (head_of request).headers (codes "host"))

-- the host of the target, or of that field if the target has none
abbrev pub host_in : Option (List ℕ) → Option (List ℕ) → Option (List ℕ)
host_in (Some host) field = Some host
host_in None field = field

abbrev pub is_local_host : Option (List ℕ) → Bool
is_local_host (Some host) = is_local host
is_local_host None = false

abbrev pub names_local_host : Request (List ℕ) → Bool
names_local_host request = is_local_host (host_in (uri_authority (head_of request).uri) (host_field request))
