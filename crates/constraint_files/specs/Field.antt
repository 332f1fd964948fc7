-- Numbers and channels in fields.
use Rattle.std.specs.Prelude.{ℕ, Bool, not, ◌&&◌, nat_le, if◌then◌else◌, List, [], ◌∷◌, Option, Some, None}
use Rattle.std.specs.Str.{all_ascii_digits}
use Rattle.std.specs.Str.Parse.{digits_value}
use Rattle.pack_defs.specs.Limits.{GREATEST_CHANNEL}
use Rattle.pack_defs.specs.Lists.{is_empty}
use Rattle.std.specs.Option.{option_and_then}

-- The number of a field: one or more ASCII digits, leading zeros allowed, at most 2^32 - 1.
unfoldable pub number : List ℕ → Option ℕ
number field =
    if not (is_empty field) && (all_ascii_digits field && nat_le (digits_value 10 field) 4294967295)
    then Some (digits_value 10 field)
    else None

-- The numbers of some fields, if each is a number.
unfoldable pub numbers : List (List ℕ) → Option (List ℕ)
numbers [] = Some []
numbers (field ∷ fields) = option_and_then (λ n. option_and_then (λ ns. Some (n ∷ ns)) (numbers fields)) (number field)

-- Whether a file may name the channel: 2 to 51. A domain keeps only those from 14 on.
abbrev pub is_channel : ℕ → Bool
is_channel c = nat_le 2 c && nat_le c GREATEST_CHANNEL
