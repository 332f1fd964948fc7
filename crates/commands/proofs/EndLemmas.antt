-- How the commands end, from the results of their parts.
use Rattle.std.proofs.Common.{◌≡◌, ◌<◌, ◌≤◌, ◌∙◌, ◌||◌, not, ℕ, Bool, true, false, cond, inl, inr, List, [], ◌∷◌, refl, sym, ap, subst}
use Rattle.std.specs.Prelude.{Some, None, Err, IsOk}
use Rattle.std.specs.List.{cons_option, list_any}
use Rattle.std.proofs.lemmas.Bool.{cases_lt, false≢true}
use Rattle.pack_defs.specs.Lists.{is_empty}
use Rattle.pack_defs.specs.declared.order.Order.{Order}
use Rattle.outside_io.specs.declared.sink.Failed.{Failed}
use Rattle.auction_core.specs.declared.record.Ending.{Ending}
use Rattle.auction_core.specs.declared.record.Ending.TheVariants.{Done, StartRefuted, StartUndecided}
use Rattle.auction_core.specs.declared.record.Record.{Record}
use Rattle.auction_core.specs.declared.record.Step.{Step}
use Rattle.auction_core.specs.Backed.{IsBacked, is_undecided, undecided_of}
use Rattle.auction_core.specs.Rule.{IsAuction}
use Rattle.auction_core.specs.State.{test_of}
use Rattle.auction_core.proofs.StartShown.{open-receipts, refuted-unfits}
use Rattle.commands.specs.declared.inputs.Inputs.{Inputs}
use Rattle.commands.specs.Records.{IsEndedRecordIn, IsRecordBy, done_status, run_order}
use Rattle.commands.proofs.RecordLemmas.{record-in}

-- ---- the record

-- A backed record is that of the inputs' auction in its order, by its ending.
pub ended-record : (order : Order) (inputs : Inputs) (rec : Record) → IsAuction inputs.scenario inputs.book → IsBacked inputs.scenario inputs.book order rec → IsEndedRecordIn order inputs rec rec.ending
ended-record order inputs rec a b = by rec.ending refl
  where
    by : (ending : Ending) → rec.ending ≡ ending → IsEndedRecordIn order inputs rec ending
    by Done e = record-in order inputs rec a b e
    by StartRefuted e = record { backed = b; ending = e; starts = refuted-unfits inputs.scenario inputs.book order rec a b e }
    by StartUndecided e =
        let left = open-receipts inputs.scenario inputs.book order rec b e in
        record { backed = b; ending = e; receipts = left.0; shown = left.1; spent = left.2 }

-- The same for a run.
pub record-by : (inputs : Inputs) (rec : Record) → IsAuction inputs.scenario inputs.book → IsBacked inputs.scenario inputs.book run_order rec → IsRecordBy inputs rec rec.ending
record-by inputs rec a b = ended-record run_order inputs rec a b

-- A record is backed in only one order.
pub ended-order : (order : Order) (inputs : Inputs) (rec : Record) (ending : Ending) → IsEndedRecordIn order inputs rec ending → rec.order ≡ order
ended-order order inputs rec Done of = let b = of.backed in b.order_is
ended-order order inputs rec StartRefuted of = let b = of.backed in b.order_is
ended-order order inputs rec StartUndecided of = let b = of.backed in b.order_is

-- So it is a record in its own order.
pub own-ended : (order : Order) (inputs : Inputs) (rec : Record) (ending : Ending) → IsEndedRecordIn order inputs rec ending → IsEndedRecordIn rec.order inputs rec ending
own-ended order inputs rec ending of = subst (λ o. IsEndedRecordIn o inputs rec ending) (sym (ended-order order inputs rec ending of)) of

-- No test is undecided exactly if no step is.
pub none-undecided : (steps : List Step) → is_empty (undecided_of steps) ≡ not (list_any (λ x. is_undecided x.shown) steps)
none-undecided [] = refl
none-undecided (x ∷ xs) =
    elim (is_undecided x.shown) as (λ b. is_empty (cons_option (cond b (Some (test_of x)) None) (undecided_of xs)) ≡ not (b || list_any (λ x. is_undecided x.shown) xs)) [
      | true ↦ refl
      | false ↦ none-undecided xs
    ]

-- The status for the record of a finished auction.
pub status-by : (steps : List Step) (b : Bool) → b ≡ list_any (λ x. is_undecided x.shown) steps → done_status (undecided_of steps) ≡ cond {A = ℕ} b 1 0
status-by steps b is = ap (λ z. cond {A = ℕ} z 0 1) (none-undecided steps ∙ ap not (sym is)) ∙ turned b
  where
    turned : (b : Bool) → cond {A = ℕ} (not b) 0 1 ≡ cond {A = ℕ} b 1 0
    turned true = refl
    turned false = refl

-- ---- the counts

-- A write that failed was of more bytes than the sink guarantees to take.
pub cut-over : (sure n : ℕ) (e : Failed) → (n ≤ sure → IsOk {T = Unit {0}} (Err e)) → sure < n
cut-over sure n e steady_never_fails = elim (cases_lt sure n) [ inl over ↦ over | inr within ↦ absurd (false≢true (steady_never_fails within)) ]
