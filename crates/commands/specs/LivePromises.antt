-- What a live auction, one with an owners' file, promises in addition to every other auction.
use Rattle.std.specs.Prelude.{Contains, ◌≡◌, ◌<◌, ◌≤◌, ◌↔◌, ℕ, List, length, Option, Some, None, Ok, IsFalse, IsTrue, MatchOption}
use Rattle.outside_io.specs.Files.{StoredFile, bytes_of}
use Rattle.owner_line.specs.OwnersOf.{owners_of}
use Rattle.owner_line.specs.OwnLines.{FitsUpTo, LeavesIn, live_rule}
use Rattle.pack_defs.specs.declared.order.Order.{Order}
use Rattle.pack_defs.specs.declared.owners.OwnerLine.{OwnerLine}
use Rattle.pack_defs.specs.declared.scenario.Scenario.{Scenario}
use Rattle.pack_defs.specs.ClockRule.{ClockTest}
use Rattle.pack_defs.specs.Prices.{falls, last_round, offer, stays}
use Rattle.pack_defs.specs.ResultRows.{on_air_row, row_of}
use Rattle.pack_defs.specs.Scenario.{facilities, value_of}
use Rattle.pack_defs.specs.TestAnswer.{test_answers}
use Rattle.auction_core.specs.declared.record.Record.{Record}
use Rattle.auction_core.specs.Backed.{IsBacked, undecided_of}
use Rattle.commands.specs.declared.inputs.Inputs.{Inputs}
use Rattle.commands.specs.Inputs.{file_limit, inputs_of, live_inputs, valued_of}
use Rattle.commands.specs.Records.{outcome}
use Rattle.command_words.specs.Words.{InputNames}

-- The inputs are those of the live auction. The domains, the rows and the scenario hold the valued inputs, and the owners' file
-- of this name says the owners' lines.
pub record AreLive (files : List StoredFile) (names : InputNames) (owners : List ℕ) (inputs : Inputs) : Type 0 where
  pub valued : Inputs
  pub accepted : valued_of files names ≡ Ok valued
  pub without_owners : valued.scenario.owners ≡ None
  pub text : List ℕ
  pub held : bytes_of files owners ≡ Some text
  pub within : length text ≤ file_limit
  pub lines : List OwnerLine
  pub said : owners_of text (length (falls valued.scenario)) (facilities valued.scenario) ≡ Ok lines
  pub live : inputs ≡ live_inputs valued lines

-- What becomes of a station depends only on its own lines and on the answers to its own tests.
pub record DependsOnOwnLines (order : Order) (inputs : Inputs) (lines : List OwnerLine) (undecided : List ClockTest) (s : ℕ) : Type 0 where
  -- If no line has the station stay at the opening price, it is on air from the start.
  pub starts : IsFalse (stays lines 0 s) → row_of undecided (outcome order inputs undecided) s ≡ Some (on_air_row (record { station = s; round = 0 }))
  -- Otherwise it is on air from a round on exactly if two conditions are met. The round is the first one from 1 in which no line
  -- has it stay, or the last one. And each round from 1 to that one has a test of the station that was answered "fits".
  pub exits : IsTrue (stays lines 0 s) → (r : ℕ) →
      (row_of undecided (outcome order inputs undecided) s ≡ Some (on_air_row (record { station = s; round = r })))
      ↔ (LeavesIn inputs.scenario lines s r × FitsUpTo (test_answers inputs.scenario inputs.book order undecided s) r)
  -- Other lines that agree on this station give it the same row, in an auction in either order that answers its tests the same.
  pub same_row : (other : List OwnerLine) (turned : Order) (left : List ClockTest) → ((r : ℕ) → stays lines r s ≡ stays other r s) →
      let rival = live_inputs inputs other in
      test_answers inputs.scenario inputs.book order undecided s ≡ test_answers rival.scenario inputs.book turned left s →
      row_of undecided (outcome order inputs undecided) s ≡ row_of left (outcome turned rival left) s

-- Up to the last fall, the lines say that a station stays exactly if its value is at most its offer.
abbrev pub FollowValues : Scenario → List OwnerLine → Type 0
FollowValues sc lines = (s r : ℕ) → Contains (facilities sc) s → r < last_round sc →
    IsTrue (stays lines r s) ↔ MatchOption (value_of sc s) ⊥ (λ v. v ≤ offer sc s r)

-- The record is backed by the live auction of the inputs, and its owners' lines are those of the owners' file. The clock rule's
-- outcome of the inputs is the live rule's outcome of the lines.
pub record IsLive (files : List StoredFile) (names : InputNames) (owners : List ℕ) (found : Option Record) : Type 0 where
  pub inputs : Inputs
  pub accepted : inputs_of files names ≡ Ok inputs
  pub live : AreLive files names owners inputs
  pub rec : Record
  pub recorded : found ≡ Some rec
  pub backed : IsBacked inputs.scenario inputs.book rec.order rec
  pub owned : rec.scenario.owners ≡ Some live.lines
  pub rule : outcome rec.order inputs (undecided_of rec.steps) ≡ live_rule live.valued.scenario live.lines live.valued.book rec.order (undecided_of rec.steps)
  -- Each station's row depends on its own lines and tests.
  pub own_lines : (s : ℕ) → Contains (facilities inputs.scenario) s → DependsOnOwnLines rec.order inputs live.lines (undecided_of rec.steps) s
  -- If the lines follow the values, the outcome is that of the valued inputs.
  pub by_value : FollowValues live.valued.scenario live.lines →
      outcome rec.order inputs (undecided_of rec.steps) ≡ outcome rec.order live.valued (undecided_of rec.steps)
