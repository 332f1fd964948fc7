-- Plain texts, of which each log has exactly one: the texts that the writer writes, described without it.
use Rattle.std.specs.Prelude.{ℕ, Bool, true, not, ◌≡◌, ◌+◌, ◌==◌, ◌||◌, if◌then◌else◌, List, [], ◌∷◌, Some, None}
use Rattle.std.specs.List.{list_all}
use Rattle.pack_defs.specs.Lists.{is_empty}
use Rattle.lrat_text.specs.Lines.{with_spaces, without_return, words_of}
use Rattle.lrat_text.specs.Write.{greatest}
use Rattle.lrat_text.specs.Read.{after_deletion_mark, natural}

-- Whether the digits are a single one, or do not begin with 0.
abbrev pub has_no_leading_zero : List ℕ → Bool
has_no_leading_zero [] = true
has_no_leading_zero (c ∷ rest) = is_empty rest || not (c == 48)

-- Whether a number has no leading zero, neither at its start nor after a minus sign.
unfoldable pub is_shortest : List ℕ → Bool
is_shortest [] = true
is_shortest (c ∷ rest) = if c == 45 then has_no_leading_zero rest else has_no_leading_zero (c ∷ rest)

-- Whether the first word spells this number and the second is no `d`, so that the line is neither a comment nor a
-- deletion.
abbrev pub IsNumberedLine : ℕ → List (List ℕ) → Type 0
IsNumberedLine number [] = ⊥
IsNumberedLine number (word ∷ words) = (natural greatest word ≡ Some number) × (after_deletion_mark words ≡ None)

-- Whether a line is nothing but its words, separated by single spaces and without leading zeros, and its first word
-- spells this number.
pub record IsPlain (number : ℕ) (line : List ℕ) : Type 0 where
  pub spaced : line ≡ with_spaces (words_of (without_return line))
  pub shortest : list_all is_shortest (words_of (without_return line)) ≡ true
  pub numbered : IsNumberedLine number (words_of (without_return line))

-- Whether these are plain lines, numbered from this number on.
abbrev pub ArePlain : ℕ → List (List ℕ) → Type 0
ArePlain number [] = Unit {0}
ArePlain number (line ∷ lines) = IsPlain number line × ArePlain (number + 1) lines
