-- The order of the owners' lines, and their equality.
use Rattle.std.specs.Prelude.{Bool, not, ◌&&◌, ◌==◌, if◌then◌else◌}
use Rattle.std.specs.Ordering.{nat_cmp, bool_cmp, ordering_then}
use Rattle.std.specs.declared.cmp.Ordering.{Ordering}
use Rattle.pack_defs.specs.declared.owners.OwnerLine.{OwnerLine}

-- The order of two lines: by round, then by station; a line that says leave comes before one that says stay.
abbrev pub line_cmp : OwnerLine → OwnerLine → Ordering
line_cmp x y = ordering_then (nat_cmp x.round y.round) (ordering_then (nat_cmp x.station y.station) (bool_cmp x.stays y.stays))

-- Whether the two lines are equal.
abbrev pub is_same_line : OwnerLine → OwnerLine → Bool
is_same_line x y = ((y.round == x.round) && (y.station == x.station)) && (if x.stays then y.stays else not y.stays)
