-- The transcript of the auction of three stations and its text, and two transcripts of no auction.
use Rattle.std.specs.Prelude.{ℕ, List, [], ◌∷◌, ◌++◌, codes}
use Rattle.pack_defs.specs.declared.order.Order.TheVariants.{ByFacility, ByVolume}
use Rattle.pack_defs.specs.declared.scenario.Scenario.{Scenario}
use Rattle.cert_types.specs.declared.answer.Refutation.TheVariants.{Proof, Dead}
use Rattle.cert_types.specs.Examples.{learner, log, not_one, the_end, walker}
use Rattle.cert_types.specs.declared.answer.Receipt.TheVariants.{Lines, Moves}
use Rattle.auction_core.specs.declared.record.Shown.{Shown}
use Rattle.auction_core.specs.declared.record.Shown.TheVariants.{Empty, Fits, Same, NoChannel, Refuted, Outside, Undecided}
use Rattle.auction_core.specs.Examples.{auction_of_three}
use Rattle.auction_core.specs.declared.transcript.Transcript.{Transcript}
use Rattle.auction_core.specs.declared.transcript.TranscriptStep.{TranscriptStep}

-- The auction of three stations, with one learning worker.
abbrev pub three : Scenario
three = auction_of_three (learner 1000 ∷ [])

-- A step without numbered logs.
abbrev pub step : ℕ → ℕ → Shown → TranscriptStep
step round station shown = record { step = record { round = round; station = station; shown = shown }; firsts = [] }

-- A step that fits by one entry.
abbrev pub fitted_step : ℕ → ℕ → ℕ → TranscriptStep
fitted_step round station channel = step round station (Fits ((station, channel) ∷ []))

-- The transcript of the auction of three stations.
abbrev pub three_transcript : Transcript
three_transcript = record {
  order = ByFacility;
  start = Empty;
  steps = fitted_step 1 1 14 ∷ fitted_step 1 2 14 ∷ fitted_step 1 3 15 ∷ fitted_step 2 1 15
      ∷ step 2 3 (Refuted 0 (Proof (1 ∷ 2 ∷ 3 ∷ []) (log (not_one ∷ the_end ∷ [])))) ∷ [];
}

-- Its text.
abbrev pub three_text : List ℕ
three_text =
    codes "transcript 1\nstart empty\nfit 1 1 1\nat 1 14\nfit 1 2 1\nat 2 14\nfit 1 3 1\nat 3 15\n"
    ++ codes "fit 2 1 1\nat 1 15\nlog 2 3 0 2\non 1 2 3\n13 -1 0 7 2 8 3 12 0\n14 0 13 1 9 2 10 3 11 0\nend 5\n"

-- A transcript by volume, with a test that fits as the one before and a proof from outside.
abbrev pub later_transcript : Transcript
later_transcript = record {
  order = ByVolume;
  start = Empty;
  steps = step 2 1 Same
      ∷ record { step = record { round = 2; station = 3; shown = Outside (record { log = log (not_one ∷ []) }) }; firsts = 13 ∷ [] } ∷ [];
}

-- Its text.
abbrev pub later_text : List ℕ
later_text = codes "transcript 2\nstart empty\nsame 2 1\noutside 2 3 1\n13 -1 0 7 2 8 3 12 0\nend 2\n"

-- The auction of three stations, with two workers.
abbrev pub two_workers : Scenario
two_workers = auction_of_three (learner 1 ∷ walker 2 ∷ [])

-- A transcript with a start set, a dead pair, an undecided test of two workers, and a test without a channel.
abbrev pub other_transcript : Transcript
other_transcript = record {
  order = ByFacility;
  start = Fits ((1, 14) ∷ []);
  steps = step 1 2 (Refuted 1 (Dead (record { f = 1; a = 14; g = 2; b = 15 })))
      ∷ record {
        step = record {
          round = 1;
          station = 3;
          shown = Undecided (Lines (log (not_one ∷ [])) ∷ Moves ((1, 15) ∷ (3, 14) ∷ []) ∷ []);
        };
        firsts = 13 ∷ 0 ∷ [];
      }
      ∷ step 2 3 (NoChannel 3) ∷ [];
}

-- Its text.
abbrev pub other_text : List ℕ
other_text =
    codes "transcript 1\nstart fit 1\nat 1 14\ndead 1 2 1 1 14 2 15\nundecided 1 3 2\nlines 0 1\n13 -1 0 7 2 8 3 12 0\n"
    ++ codes "moves 1 2\nmove 1 15\nmove 3 14\nnone 2 3\nend 3\n"
