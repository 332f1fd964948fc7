-- A list of numbers as the value of a lock.
use Rattle.std.specs.Prelude.{ℕ, List}
use Rattle.turn_lock.specs.declared.number_list.NumberList.{NumberList}

-- The title of a list, which never changes.
abbrev pub title_of : NumberList → ℕ
title_of list = list.title

-- The history of a list: its numbers, each with its pass.
abbrev pub history_in : NumberList → List (ℕ × ℕ)
history_in list = list.numbers.items
