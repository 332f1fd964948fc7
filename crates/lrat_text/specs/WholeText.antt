-- A log accounts for the complete text: each line that is not skipped is in the log, with all its words.
use Rattle.std.specs.Prelude.{ℕ, Bool, true, not, ◌≡◌, ◌-◌, ◌||◌, nat_le, if◌then◌else◌, List, [], ◌∷◌, ◌++◌, map, filter, length, get_or, Option, Some, is_some, codes}
use Rattle.std.specs.Str.{bytes_eq}
use Rattle.pack_defs.specs.Lists.{is_ascending}
use Rattle.clause_db.specs.declared.lit.Lit.{Lit}
use Rattle.rup_check.specs.declared.line.Line.{Line}
use Rattle.rup_check.specs.declared.line.Log.{Log}
use Rattle.lrat_text.specs.declared.field.Field.{Field}
use Rattle.lrat_text.specs.declared.field.Field.TheVariants.{End, Number}
use Rattle.lrat_text.specs.Lines.{ended_lines, without_return, words_of}
use Rattle.lrat_text.specs.Read.{after_deletion_mark, field_of}

-- Whether the line is empty, a comment or a deletion.
abbrev pub is_passed_over : List (List ℕ) → Bool
is_passed_over [] = true
is_passed_over (word ∷ words) = bytes_eq word (codes "c") || is_some (after_deletion_mark words)

-- The words of each line that is not skipped.
unfoldable pub kept_lines : List (List ℕ) → List (List (List ℕ))
kept_lines lines = filter (λ words. not (is_passed_over words)) (map (λ line. words_of (without_return line)) lines)

-- The meaning of a literal's field.
abbrev pub literal_field : Lit → Option Field
literal_field l = Some (Number l)

-- The meaning of a number's field.
abbrev pub number_field : ℕ → Option Field
number_field n = Some (Number (record { var = n; positive = true }))

-- The meaning of the field that ends a list.
abbrev pub end_field : Option Field
end_field = Some End

-- The meanings of the words of a log's line: its number, its literals, 0, the numbers of what its hints name, 0.
abbrev pub line_has_words : (ℕ → ℕ) → ℕ → Line → List (Option Field)
line_has_words named number line =
    number_field number ∷ (map literal_field line.lits ++ end_field ∷ (map (λ place. number_field (named place)) line.hints ++ end_field ∷ []))

-- The meanings of the words of lines with these numbers.
abbrev pub lines_have_words : (ℕ → ℕ) → List ℕ → List Line → List (List (Option Field))
lines_have_words named [] lines = []
lines_have_words named (number ∷ numbers) [] = []
lines_have_words named (number ∷ numbers) (line ∷ lines) = line_has_words named number line ∷ lines_have_words named numbers lines

-- The number that the text has for a place: a clause's place, or the number of a line.
abbrev pub number_in_text : ℕ → List ℕ → ℕ → ℕ
number_in_text clauses numbers place = if nat_le place clauses then place else get_or numbers (place - clauses - 1) 0

-- Whether the log accounts for the text: its lines have numbers that ascend from above the clauses, and with these
-- the lines mean exactly what the lines of the text that are not skipped mean. No word is left out and none is added.
pub record IsWholeText (clauses : ℕ) (text : List ℕ) (log : Log) : Type 0 where
  pub numbers : List ℕ
  pub many : length numbers ≡ length log.lines
  pub rising : is_ascending (clauses ∷ numbers) ≡ true
  pub parsed : map (map field_of) (kept_lines (ended_lines text)) ≡ lines_have_words (number_in_text clauses numbers) numbers log.lines
