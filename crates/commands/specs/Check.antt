-- The counts that `check` prints.
use Rattle.std.specs.Prelude.{ℕ, List, ◌++◌, length, codes}
use Rattle.commands.specs.declared.inputs.Inputs.{Inputs}
use Rattle.result_text.specs.ResultText.{count_line}

-- The numbers of the book's stations and pairs. Then, for the rows file, how many fields pair a station with itself and how many
-- name a station without a domain row.
unfoldable pub counts_text : Inputs → List ℕ
counts_text inputs =
    count_line (codes "stations") (length inputs.book.domains)
    ++ count_line (codes "pairs") (length inputs.book.pairs)
    ++ count_line (codes "self-pairs") inputs.self_pairs
    ++ count_line (codes "strangers") inputs.strangers
