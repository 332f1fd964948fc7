-- The text of what is kept of a transcript's beginning.
use Rattle.std.specs.Prelude.{ℕ, Bool, if◌then◌else◌, List, [], ◌++◌, length}
use Rattle.std.specs.List.{flat_map}
use Rattle.std.specs.Option.{option_map_or}
use Rattle.pack_defs.specs.Book.{BookView}
use Rattle.auction_core.specs.declared.prefix.Prefix.{Prefix}
use Rattle.transcript_text.specs.Spelling.{end_text, start_text, step_text, version_text}

-- The `end` line, which counts the steps, if it was read.
abbrev pub last_text : Bool → ℕ → List ℕ
last_text ended steps = if ended then end_text steps else []

-- The lines after the first.
abbrev pub behind_first : BookView → Prefix → List ℕ
behind_first book kept =
    option_map_or start_text kept.start [] ++ (flat_map (step_text book) kept.steps ++ last_text kept.ended (length kept.steps))

-- The text of what is kept.
unfoldable pub prefix_spelling : BookView → Prefix → List ℕ
prefix_spelling book kept = option_map_or version_text kept.order [] ++ behind_first book kept
