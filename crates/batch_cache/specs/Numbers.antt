-- Fast tests on a list: that it lacks a number of another one or, if it ascends, a number that would fill a gap.
use Rattle.std.specs.Prelude.{ℕ, zero, suc, Bool, true, false, not, ◌&&◌, nat_lt, List, Option, Some, None, slice_get}
use Rattle.pack_defs.specs.Lists.{is_in}

-- Whether the element is above the number; true if there is none.
abbrev pub next_above : Option ℕ → ℕ → Bool
next_above None n = true
next_above (Some x) n = nat_lt n x

-- Whether the element is below the number; false if there is none.
abbrev pub last_below : Option ℕ → ℕ → Bool
last_below None n = false
last_below (Some x) n = nat_lt x n

-- Whether the element at the place, if there is one, is above the number.
abbrev pub continues_above : List ℕ → ℕ → ℕ → Bool
continues_above xs p n = next_above (slice_get xs p) n

-- Whether the list reaches up to the place, and the element before it, if there is one, is below the number.
abbrev pub ends_below : List ℕ → ℕ → ℕ → Bool
ends_below xs zero n = true
ends_below xs (suc p) n = last_below (slice_get xs p) n

-- Whether the number would be at the place.
abbrev pub has_gap : List ℕ → ℕ → ℕ → Bool
has_gap xs p n = continues_above xs p n && ends_below xs p n

-- Whether the list lacks the number; false if there is none.
abbrev pub lacks : List ℕ → Option ℕ → Bool
lacks xs None = false
lacks xs (Some n) = not (is_in xs n)

-- Whether the first list lacks the number at this place of the second.
abbrev pub lacks_at : List ℕ → List ℕ → ℕ → Bool
lacks_at xs ys place = lacks xs (slice_get ys place)
