-- Preconditions of the round-trip law besides that a record is backed. Every record that the program builds satisfies
-- them, because of how numbers, books and maps are stored.
use Rattle.std.specs.Prelude.{ℕ, true, ◌≡◌, ◌≤◌, ◌<◌, ◌^◌, length}
use Rattle.std.specs.List.{All}
use Rattle.pack_defs.specs.Book.{BookView, IsInOrder, domain_of}
use Rattle.pack_defs.specs.ChannelMap.{IsAscending}
use Rattle.pack_defs.specs.Lists.{is_in}
use Rattle.pack_defs.specs.declared.scenario.Scenario.{Scenario}
use Rattle.auction_core.specs.declared.record.Record.{Record}
use Rattle.auction_core.specs.declared.record.Shown.{Shown}
use Rattle.auction_core.specs.declared.record.Shown.TheVariants.{Empty, Fits, Same, NoChannel, Refuted, Outside, Undecided}
use Rattle.transcript_text.specs.Fields.{greatest_u32}
use Rattle.transcript_text.specs.Spelled.{IsChannel}

-- Whether the entries of a fit ascend, as those of every channel map do.
abbrev pub IsFitAscending : Shown → Type 0
IsFitAscending Empty = Unit {0}
IsFitAscending (Fits delta) = IsAscending delta
IsFitAscending Same = Unit {0}
IsFitAscending (NoChannel s) = Unit {0}
IsFitAscending (Refuted worker how) = Unit {0}
IsFitAscending (Outside proof) = Unit {0}
IsFitAscending (Undecided receipts) = Unit {0}

-- Whether the fits of a record ascend, at its start and at its steps, and a list can hold its steps.
pub record IsHeld (rec : Record) : Type 0 where
  pub start : IsFitAscending rec.start
  pub steps : All (λ x. IsFitAscending x.shown) rec.steps
  pub count : length rec.steps < 2 ^ 64

-- Whether the channels of each station are 14 to 51, as those read from a file are.
abbrev pub HasFileChannels : BookView → Type 0
HasFileChannels book = (s c : ℕ) → is_in (domain_of book s) c ≡ true → IsChannel c

-- Whether the scenario's stations have numbers of 32 bits, the book is in order with channels 14 to 51, and a list
-- can hold its pairs. Every scenario and book read from files satisfies this.
pub record IsNamed (sc : Scenario) (book : BookView) : Type 0 where
  pub numbers : All (λ x. x.id ≤ greatest_u32) sc.stations
  pub in_order : IsInOrder book
  pub channels : HasFileChannels book
  pub pairs : length book.pairs < 2 ^ 62
