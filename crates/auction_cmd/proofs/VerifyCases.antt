-- The record, and the line when memory runs out, where `verify` ends.
use Rattle.std.proofs.Common.{◌≡◌, ℕ, [], ◌∷◌, refl, arith, Option, None}
use Rattle.std.specs.Prelude.{IsTrue, MatchOption, ⊤}
use Rattle.pack_defs.specs.Lists.{is_in}
use Rattle.auction_core.specs.declared.record.Record.{Record}
use Rattle.auction_core.specs.Backed.{undecided_of}
use Rattle.commands.specs.Ends.{VerifyEnds}
use Rattle.commands.specs.Ends.VerifyEnds.{VerifyStopped, VerifyOutOfMemory, NotLoaded, NotSound, Sound}
use Rattle.commands.specs.Outside.{Outside, IsLinePrinted}
use Rattle.commands.specs.Promises.{IsSomeRecord}
use Rattle.commands.specs.Messages.{memory_line}
use Rattle.command_words.specs.Words.{VerifyNames}
use Rattle.commands.proofs.Halts.{stopped-memory}
use Rattle.commands.proofs.RunLemmas.{absent, some-record}
use Rattle.commands.proofs.Statuses.{apart-lists, off}
use Rattle.auction_cmd.proofs.VerifyEndLemmas.{printed-statuses, unloaded-statuses}

module _ (names : VerifyNames) (before after : Outside) (status : ℕ) (found : Option Record) where
  pub verify-none : VerifyEnds names before after status found → IsTrue (is_in (2 ∷ 3 ∷ 5 ∷ 9 ∷ 10 ∷ []) status) → found ≡ None
  verify-none (VerifyStopped s none) h = none
  verify-none (VerifyOutOfMemory s) h = s.found_is
  verify-none (NotLoaded inputs are why none same) h = none
  verify-none (NotSound inputs text fault are can held is nine none said same) h = none
  verify-none (Sound inputs text rec are can held is of some printed) h =
      absurd (apart-lists (2 ∷ 3 ∷ 5 ∷ 9 ∷ 10 ∷ []) (0 ∷ 1 ∷ 4 ∷ []) status refl h (printed-statuses _ (undecided_of rec.steps) before after status printed))

  pub verify-backed : VerifyEnds names before after status found → MatchOption found ⊤ IsSomeRecord
  verify-backed (VerifyStopped s none) = absent found none
  verify-backed (VerifyOutOfMemory s) = absent found s.found_is
  verify-backed (NotLoaded inputs are why none same) = absent found none
  verify-backed (NotSound inputs text fault are can held is nine none said same) = absent found none
  verify-backed (Sound inputs text rec are can held is of some printed) = rw some (some-record rec.order inputs rec of.backed (λ done. of.packing))

  pub verify-memory : VerifyEnds names before after status found → status ≡ 8 → IsLinePrinted before after memory_line
  verify-memory (VerifyStopped s none) eight = stopped-memory names.inputs before after status s eight
  verify-memory (VerifyOutOfMemory s) eight = s.line
  verify-memory (NotLoaded inputs are why none same) eight = absurd (off (3 ∷ 5 ∷ []) status 8 (unloaded-statuses names.transcript before after status why) eight refl)
  verify-memory (NotSound inputs text fault are can held is nine none said same) eight = absurd (omega arith)
  verify-memory (Sound inputs text rec are can held is of some printed) eight =
      absurd (off (0 ∷ 1 ∷ 4 ∷ []) status 8 (printed-statuses _ (undecided_of rec.steps) before after status printed) eight refl)
