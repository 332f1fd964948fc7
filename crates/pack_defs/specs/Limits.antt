-- The limits of an auction and its files. The code has each as a constant (`limits`), which is proved equal.
use Rattle.std.specs.Prelude.{ℕ}

-- The most stations of a scenario.
abbrev pub MOST_STATIONS : ℕ
MOST_STATIONS = 8192

-- The most rounds in which the price falls.
abbrev pub MOST_ROUNDS : ℕ
MOST_ROUNDS = 1000

-- The greatest decrement, in cents per unit of volume.
abbrev pub MOST_DECREMENT : ℕ
MOST_DECREMENT = 1000000

-- The greatest rate and the greatest floor of a fall by rate, in thousandths.
abbrev pub MOST_THOUSANDTHS : ℕ
MOST_THOUSANDTHS = 1000

-- The greatest opening price, in cents per unit of volume.
abbrev pub MOST_OPENING : ℕ
MOST_OPENING = 1000000

-- The greatest volume of a station, in units.
abbrev pub MOST_VOLUME : ℕ
MOST_VOLUME = 1000000

-- The greatest value of a station, in cents.
abbrev pub MOST_VALUE : ℕ
MOST_VALUE = 1000000000000000

-- The most workers of a scenario.
abbrev pub MOST_WORKERS : ℕ
MOST_WORKERS = 16

-- The greatest budget of a worker of kind "cdcl", in proof lines for a query.
abbrev pub MOST_PROOF_LINES : ℕ
MOST_PROOF_LINES = 100000

-- The greatest budget of a worker of kind "walk", in moves for a query.
abbrev pub MOST_MOVES : ℕ
MOST_MOVES = 1000000

-- The most interfering pairs of one file.
abbrev pub MOST_PAIRS : ℕ
MOST_PAIRS = 4000000

-- The most rows of a file of domains.
abbrev pub MOST_DOMAIN_ROWS : ℕ
MOST_DOMAIN_ROWS = 65536

-- The least channel that a station may have, and the least top channel of a scenario.
abbrev pub LEAST_CHANNEL : ℕ
LEAST_CHANNEL = 14

-- The greatest channel that a file may name, and the greatest top channel of a scenario.
abbrev pub GREATEST_CHANNEL : ℕ
GREATEST_CHANNEL = 51
