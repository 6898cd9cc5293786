-- Which bytes are a name, a key, a prefix, an address or a text.
use Rattle.std.specs.Prelude.{ℕ, Bool, ◌&&◌, ◌||◌, ◌==◌, nat_le, List, length}
use Rattle.std.specs.List.{list_all}
use Rattle.std.specs.Str.{is_utf8}
use Rattle.sb_types.specs.declared.limits.TheConstants.{NAME_MOST, KEY_MOST, ADDR_MOST, TEXT_MOST, SHORT_TEXT_MOST}

abbrev pub is_between : ℕ → ℕ → ℕ → Bool
is_between least most n = nat_le least n && nat_le n most

-- a letter or a digit
abbrev pub is_plain_byte : ℕ → Bool
is_plain_byte b = is_between 97 122 b || is_between 48 57 b

-- a letter, a digit or a dash
abbrev pub is_name_byte : ℕ → Bool
is_name_byte b = is_plain_byte b || b == 45

-- a letter, a digit, a dot, an underscore, a slash or a dash
abbrev pub is_key_byte : ℕ → Bool
is_key_byte b = is_plain_byte b || b == 46 || b == 95 || b == 47 || b == 45

-- a printing byte, but not a space
abbrev pub is_addr_byte : ℕ → Bool
is_addr_byte b = is_between 33 126 b

abbrev pub is_name : List ℕ → Bool
is_name text = is_between 1 NAME_MOST (length text) && list_all is_name_byte text

abbrev pub is_key : List ℕ → Bool
is_key text = is_between 1 KEY_MOST (length text) && list_all is_key_byte text

abbrev pub is_prefix : List ℕ → Bool
is_prefix text = nat_le (length text) KEY_MOST && list_all is_key_byte text

abbrev pub is_addr : List ℕ → Bool
is_addr text = is_between 1 ADDR_MOST (length text) && list_all is_addr_byte text

-- UTF-8 of 1 to 512 bytes
abbrev pub is_text : List ℕ → Bool
is_text text = is_between 1 TEXT_MOST (length text) && is_utf8 text

-- UTF-8 of 1 to 128 bytes
abbrev pub is_short_text : List ℕ → Bool
is_short_text text = is_between 1 SHORT_TEXT_MOST (length text) && is_utf8 text
