-- The proof log that a text spells in LRAT's format, or the first error. How numbers are spelled, and which error
-- comes first, is this project's own.
use Rattle.std.specs.Prelude.{ℕ, Bool, IsTrue, true, false, not, ◌&&◌, ◌+◌, ◌==◌, nat_lt, nat_le, if◌then◌else◌, List, [], ◌∷◌, ◌++◌, Option, Some, None, is_some, Result, Ok, Err, codes}
use Rattle.std.specs.List.{list_all}
use Rattle.std.specs.Str.{all_ascii_digits, bytes_eq}
use Rattle.std.specs.Str.Parse.{digits_value}
use Rattle.pack_defs.specs.Lists.{is_ascending, is_empty}
use Rattle.clause_db.specs.declared.lit.Lit.{Lit}
use Rattle.rup_check.specs.declared.line.Line.{Line}
use Rattle.rup_check.specs.declared.line.Log.{Log}
use Rattle.lrat_text.specs.declared.error.LratErr.{LratErr}
use Rattle.lrat_text.specs.declared.error.LratErr.TheVariants.{Truncated, BadLine, RatStep}
use Rattle.lrat_text.specs.declared.field.Field.{Field}
use Rattle.lrat_text.specs.declared.field.Field.TheVariants.{End, Number}
use Rattle.lrat_text.specs.Write.{greatest}
use Rattle.lrat_text.specs.Lines.{ended_lines, is_whole, words_of, without_return}
use Rattle.pack_defs.specs.Steps.{◌>>=◌}

-- The number that the digits spell, with leading zeros allowed, if it is at most the bound.
unfoldable pub natural : ℕ → List ℕ → Option ℕ
natural most word =
    if not (is_empty word) && (all_ascii_digits word && nat_le (digits_value 10 word) most)
    then Some (digits_value 10 word)
    else None

-- The meaning of a number with this sign; 0 ends a list and has no sign.
abbrev pub signed_field : Bool → ℕ → Option Field
signed_field positive n = if n == 0 then (if positive then Some End else None) else Some (Number (record { var = n; positive = positive }))

-- The meaning of a number with this sign, if there is a number.
abbrev pub signed_of : Bool → Option ℕ → Option Field
signed_of positive None = None
signed_of positive (Some n) = signed_field positive n

-- The meaning of a word of a log's line, which may have a minus sign.
unfoldable pub field_of : List ℕ → Option Field
field_of [] = None
field_of (c ∷ rest) = if c == 45 then signed_of false (natural greatest rest) else signed_of true (natural greatest (c ∷ rest))

-- The literals before a 0, and the words after the 0, given the meaning of the first word and what the words after it
-- come to.
abbrev pub log_lits_or : ℕ → Option Field → List (List ℕ) → Result (List Lit × List (List ℕ)) LratErr → Result (List Lit × List (List ℕ)) LratErr
log_lits_or n None words rest = Err (BadLine n)
log_lits_or n (Some End) words rest = Ok ([], words)
log_lits_or n (Some (Number l)) words rest = rest >>= λ x. Ok (l ∷ x.0, x.1)

-- The literals before a 0 on line `n`, and the words after the 0.
unfoldable pub log_lits_at : ℕ → List (List ℕ) → Result (List Lit × List (List ℕ)) LratErr
log_lits_at n [] = Err (BadLine n)
log_lits_at n (word ∷ words) = log_lits_or n (field_of word) words (log_lits_at n words)

-- The place of a line's number among the numbers of the lines so far, the first of which has place `next`.
abbrev pub place_in : ℕ → List ℕ → ℕ → Option ℕ
place_in next [] number = None
place_in next (m ∷ ms) number = if m == number then Some next else place_in (next + 1) ms number

-- The place of what a hint names: a clause has its number, a line its place after the clauses.
unfoldable pub hint_place : ℕ → List ℕ → ℕ → Option ℕ
hint_place clauses numbers h = if nat_le h clauses then Some h else place_in (clauses + 1) numbers h

-- The place, or an error on line `n` without one.
abbrev pub place_or : ℕ → Option ℕ → Result ℕ LratErr
place_or n None = Err (BadLine n)
place_or n (Some place) = Ok place

-- Whether the numbers of the lines so far ascend from above the clauses.
abbrev pub AreLineNumbers : ℕ → List ℕ → Type 0
AreLineNumbers clauses numbers = IsTrue (is_ascending (clauses ∷ numbers))

-- The place of what a hint on line `n` names; a negative hint is a RAT step.
abbrev pub hint_at : ℕ → ℕ → List ℕ → Lit → Result ℕ LratErr
hint_at n clauses numbers hint =
    if hint.positive then place_or n (hint_place clauses numbers hint.var) else Err (RatStep n)

-- The hints before a 0, which is the last word, given the meaning of the first word and what the words after it come
-- to.
abbrev pub log_hints_or : ℕ → ℕ → List ℕ → Option Field → List (List ℕ) → Result (List ℕ) LratErr → Result (List ℕ) LratErr
log_hints_or n clauses numbers None words rest = Err (BadLine n)
log_hints_or n clauses numbers (Some End) words rest = if is_empty words then Ok [] else Err (BadLine n)
log_hints_or n clauses numbers (Some (Number hint)) words rest =
    hint_at n clauses numbers hint >>= λ place. rest >>= λ hints. Ok (place ∷ hints)

-- The places of the hints before a 0, which is the last word of line `n`.
unfoldable pub log_hints_at : ℕ → ℕ → List ℕ → List (List ℕ) → Result (List ℕ) LratErr
log_hints_at n clauses numbers [] = Err (BadLine n)
log_hints_at n clauses numbers (word ∷ words) =
    log_hints_or n clauses numbers (field_of word) words (log_hints_at n clauses numbers words)

-- What was read so far: the numbers of the lines, and the lines.
pub record LogRead : Type 0 where
  pub numbers : List ℕ
  pub lines : List Line

-- Whether a number may be the next line's: above the clauses, and above the number of every line so far.
abbrev pub is_next : ℕ → List ℕ → ℕ → Bool
is_next clauses numbers number = nat_lt clauses number && list_all (λ m. nat_lt m number) numbers

-- The number of a log's line, given the meaning of its first word.
abbrev pub number_or : ℕ → ℕ → List ℕ → Option Field → Result ℕ LratErr
number_or n clauses numbers None = Err (BadLine n)
number_or n clauses numbers (Some End) = Err (BadLine n)
number_or n clauses numbers (Some (Number l)) =
    if l.positive && is_next clauses numbers l.var then Ok l.var else Err (BadLine n)

-- What was read, with another line of the log.
unfoldable pub with_line : ℕ → ℕ → LogRead → List ℕ → List (List ℕ) → Result LogRead LratErr
with_line n clauses state word words = do
  number ← number_or n clauses state.numbers (field_of word)
  lits ← log_lits_at n words
  hints ← log_hints_at n clauses state.numbers lits.1
  Ok (record { numbers = state.numbers ++ number ∷ []; lines = state.lines ++ record { lits = lits.0; hints = hints } ∷ [] })

-- What was read, with this line of the log if it has a number.
abbrev pub read_more : LogRead → Line → Option ℕ → LogRead
read_more state line None = state
read_more state line (Some number) = record { numbers = state.numbers ++ number ∷ []; lines = state.lines ++ line ∷ [] }

-- The check of a deletion's words after its `d`: numbers, and a 0 at the end, given the meaning of the first word and
-- the check of the words after it.
abbrev pub deleted_or : ℕ → Option Field → List (List ℕ) → Result (Unit {0}) LratErr → Result (Unit {0}) LratErr
deleted_or n None words rest = Err (BadLine n)
deleted_or n (Some End) words rest = if is_empty words then Ok tt else Err (BadLine n)
deleted_or n (Some (Number l)) words rest = if l.positive then rest else Err (BadLine n)

-- The check of a deletion's words after its `d`, on line `n`.
unfoldable pub deleted_at : ℕ → List (List ℕ) → Result (Unit {0}) LratErr
deleted_at n [] = Err (BadLine n)
deleted_at n (word ∷ words) = deleted_or n (field_of word) words (deleted_at n words)

-- A deletion: any number, which is not compared with others, and then what is deleted. Nothing changes.
unfoldable pub deletion : ℕ → LogRead → List ℕ → List (List ℕ) → Result LogRead LratErr
deletion n state word words = if is_some (natural greatest word) then (deleted_at n words >>= λ u. Ok state) else Err (BadLine n)

-- The words after a `d`, if that is the first word.
abbrev pub after_deletion_mark : List (List ℕ) → Option (List (List ℕ))
after_deletion_mark [] = None
after_deletion_mark (word ∷ words) = if bytes_eq word (codes "d") then Some words else None

-- What was read after a line, by its second word: a deletion, or a line of the log.
abbrev pub by_second_word : ℕ → ℕ → LogRead → List ℕ → List (List ℕ) → Option (List (List ℕ)) → Result LogRead LratErr
by_second_word n clauses state word words None = with_line n clauses state word words
by_second_word n clauses state word words (Some deleted) = deletion n state word deleted

-- What was read after line `n` of the text, given the line's words and the number of clauses. A line without words, a
-- comment (first word `c`) and a deletion change nothing.
unfoldable pub after_words : ℕ → ℕ → LogRead → List (List ℕ) → Result LogRead LratErr
after_words n clauses state [] = Ok state
after_words n clauses state (word ∷ words) =
    if bytes_eq word (codes "c") then Ok state else by_second_word n clauses state word words (after_deletion_mark words)

-- What was read after these lines, the first of which is line `n` of the text.
unfoldable pub after_log_lines : ℕ → ℕ → LogRead → List (List ℕ) → Result LogRead LratErr
after_log_lines n clauses state [] = Ok state
after_log_lines n clauses state (line ∷ lines) =
    after_words n clauses state (words_of (without_return line)) >>= λ next. after_log_lines (n + 1) clauses next lines

-- The state before the first line.
abbrev pub empty_log_read : LogRead
empty_log_read = record { numbers = []; lines = [] }

-- The log that was read.
abbrev pub log_read : LogRead → Result Log LratErr
log_read state = Ok (record { lines = state.lines })

-- The log that a text spells over this number of clauses, or the first error: a text that ends within a line, or the
-- first invalid line, and in that line the first invalid word.
unfoldable pub log_of : List ℕ → ℕ → Result Log LratErr
log_of text clauses =
    if is_whole text then (after_log_lines 1 clauses empty_log_read (ended_lines text) >>= log_read)
    else Err Truncated
