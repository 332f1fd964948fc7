-- The statuses at which the program ends, a name for each.
use Rattle.std.specs.Prelude.{ℕ}

-- Everything is done, and every test was decided.
abbrev pub DONE : ℕ
DONE = 0

-- Everything is done, and some test is undecided.
abbrev pub LEFT_OPEN : ℕ
LEFT_OPEN = 1

-- The words are no command, or ask for help or the version.
abbrev pub NO_COMMAND : ℕ
NO_COMMAND = 2

-- A file can't be read.
abbrev pub UNREAD : ℕ
UNREAD = 3

-- A file can't be stored, or what is printed can't be written.
abbrev pub UNWRITTEN : ℕ
UNWRITTEN = 4

-- An input is rejected, a file is too long, or the name of a file to store is repeated.
abbrev pub REFUSED : ℕ
REFUSED = 5

-- The start set doesn't fit.
abbrev pub START_UNFIT : ℕ
START_UNFIT = 6

-- No worker decides whether the start set fits.
abbrev pub START_OPEN : ℕ
START_OPEN = 7

-- Memory ran out.
abbrev pub NO_MEMORY : ℕ
NO_MEMORY = 8

-- A transcript's text is rejected, or one of its steps doesn't verify.
abbrev pub NOT_SHOWN : ℕ
NOT_SHOWN = 9

-- A transcript has no step of this number, or the step isn't settled by the log.
abbrev pub NOT_SETTLED : ℕ
NOT_SETTLED = 10

-- All of a batch is done, and one of its auctions ended at its start.
abbrev pub SOME_UNSTARTED : ℕ
SOME_UNSTARTED = 11
