-- The book that a scenario makes of the constraint files.
use Rattle.std.specs.Prelude.{◌≡◌, ℕ, not, find, List, Option, Some, None, is_some, Result, Ok, Err, ⊤}
use Rattle.constraint_files.specs.Domains.{channels_of}
use Rattle.pack_defs.specs.declared.domain.Domain.{Domain}
use Rattle.pack_defs.specs.declared.pair.Pair.{Pair}
use Rattle.pack_defs.specs.declared.scenario.Scenario.{Scenario}
use Rattle.pack_defs.specs.Book.{BookView, cut_book}
use Rattle.pack_defs.specs.Scenario.{facilities}
use Rattle.scenario_json.specs.declared.join.JoinErr.{JoinErr}
use Rattle.scenario_json.specs.declared.join.JoinErr.TheVariants.{MissingDomain, NoMemory}

-- The first of the stations that has no domain row.
abbrev pub first_missing : List ℕ → List Domain → Option ℕ
first_missing stations domains = find (λ s. not (is_some (channels_of domains s))) stations

-- The book, unless a station is missing.
abbrev pub book_unless : Option ℕ → BookView → Result BookView JoinErr
book_unless (Some s) book = Err (MissingDomain s)
book_unless None book = Ok book

-- The book of the scenario's stations, or the first of them, which is the least, that has no domain row.
unfoldable pub joined : Scenario → List Domain → List Pair → Result BookView JoinErr
joined sc domains pairs = book_unless (first_missing (facilities sc) domains) (cut_book sc.top (facilities sc) domains pairs)

-- What a call's result says of the join: it is this one, and `NoMemory` says nothing.
abbrev pub Joins : Result BookView JoinErr → Result BookView JoinErr → Type 0
Joins join (Ok book) = join ≡ Ok book
Joins join (Err (MissingDomain s)) = join ≡ Err (MissingDomain s)
Joins join (Err NoMemory) = ⊤
