-- How a batch ends, from the results of its steps.
use Rattle.std.proofs.Common.{◌≡◌, ◌∙◌, ◌+◌, ◌<◌, ◌≤◌, ℕ, suc, Bool, List, [], ◌∷◌, ◌++◌, drop, get_or, length, map, option_map, refl, sym, ap, subst, append_assoc, append-nil, arith, Some, None, inr}
use Rattle.std.specs.Prelude.{Err, IfOk, Ok, Result}
use Rattle.std.specs.List.{AllZip}
use Rattle.std.proofs.lemmas.List.{drop_all, drop_more}
use Rattle.outside_io.specs.Files.{StoredFile}
use Rattle.batch_list.specs.ListOf.{ListedNames}
use Rattle.batch_list.specs.Repeated.{repeated_result}
use Rattle.commands.specs.declared.inputs.batch_inputs.Constraints.{Constraints}
use Rattle.commands.specs.declared.inputs.batch_inputs.Listed.{Listed}
use Rattle.commands.specs.declared.batch_run.BatchRunResult.{BatchRunResult}
use Rattle.commands.specs.declared.inputs.Inputs.{Inputs}
use Rattle.commands.specs.declared.inputs.input_file.Stop.{Stop}
use Rattle.commands.specs.declared.inputs.input_file.Stop.TheVariants.{CannotRead, NoMemory, Refused}
use Rattle.commands.specs.Batch.{BatchStop, Unread, Twice, ListedView, among, batch_of, each_inputs, unless_stopped, inputs_with_constraints, listing_of, listed_seen, own_texts, names_in_words}
use Rattle.command_words.specs.Words.{inputs_with}
use Rattle.commands.specs.BatchEnds.{AreRecordsOf, CountsStop, EachOf, ExplainsStop, IsBatchStopped, IsReadingStopped, IsUnderList, IsUnderOneOf, StopsAsHeld, StopsUnder}
use Rattle.commands.specs.BatchRun.{IsRun}
use Rattle.commands.specs.Inputs.{Agrees, CountsFault, RisesAt}
use Rattle.commands.specs.Outside.{Outside}
use Rattle.commands.specs.Records.{IsRecordBy}
use Rattle.command_words.specs.Words.{BatchNames, InputNames}
use Rattle.commands.proofs.DeliveryLemmas.{IsSince}

-- ---- the complete reading

module _ (files : List StoredFile) (names : BatchNames) where
  abbrev at : InputNames
  at = inputs_with names names.list

  unlisted : (why : Stop) → listing_of files (inputs_with names names.list) ≡ Err why → batch_of files names ≡ Err (Unread (inputs_with names names.list) why)
  unfolding batch_of
  unlisted why e = rw e refl

  twice-listed : (listed : ListedView) (name : List ℕ) → listing_of files (inputs_with names names.list) ≡ Ok listed → repeated_result (names_in_words names) listed.lines ≡ Some name → batch_of files names ≡ Err (Twice name)
  unfolding batch_of
  twice-listed listed name e twice = rw (e, twice) refl

  -- The reading after the list.
  after-listed : (listed : ListedView) → listing_of files (inputs_with names names.list) ≡ Ok listed → repeated_result (names_in_words names) listed.lines ≡ None →
      batch_of files names ≡ unless_stopped (each_inputs files names listed.constraints listed.lines) (λ inputs. Ok (record { lines = listed.lines; inputs = inputs }))
  unfolding batch_of
  after-listed listed e once = rw (e, once) refl

  pub stops-listing : (steady : Bool) (stop : Stop) → Agrees {A = Listed} listed_seen steady (listing_of files (inputs_with names names.list)) (Err stop) →
      StopsAsHeld steady (batch_of files names) (Unread (inputs_with names names.list) stop)
  stops-listing steady (CannotRead input) h = λ still. unlisted (CannotRead input) (h still)
  stops-listing steady (Refused why) h = unlisted (Refused why) h
  stops-listing steady NoMemory h = tt

  pub stops-twice : (steady : Bool) (listed : ListedView) (name : List ℕ) → listing_of files (inputs_with names names.list) ≡ Ok listed → Some name ≡ repeated_result (names_in_words names) listed.lines →
      StopsAsHeld steady (batch_of files names) (Twice name)
  stops-twice steady listed name e twice = twice-listed listed name e (sym twice)

  -- What stops the reading of the scenarios stops the complete reading.
  pub stops-each : (steady : Bool) (listed : ListedView) (stop : BatchStop) → listing_of files (inputs_with names names.list) ≡ Ok listed → None ≡ repeated_result (names_in_words names) listed.lines →
      StopsAsHeld steady (each_inputs files names listed.constraints listed.lines) stop → StopsAsHeld steady (batch_of files names) stop
  stops-each steady listed stop e once h = by stop h
    where
      over : (s : BatchStop) → each_inputs files names listed.constraints listed.lines ≡ Err s → batch_of files names ≡ Err s
      over s k = after-listed listed e (sym once) ∙ ap (λ r. unless_stopped r (λ inputs. Ok (record { lines = listed.lines; inputs = inputs }))) k

      by : (s : BatchStop) → StopsAsHeld steady (each_inputs files names listed.constraints listed.lines) s → StopsAsHeld steady (batch_of files names) s
      by (Unread own (CannotRead input)) k = λ still. over (Unread own (CannotRead input)) (k still)
      by (Unread own (Refused why)) k = over (Unread own (Refused why)) k
      by (Unread own NoMemory) k = tt
      by (Twice name) k = over (Twice name) k

  pub held-batch : (listed : ListedView) (inputs : List Inputs) → listing_of files (inputs_with names names.list) ≡ Ok listed → None ≡ repeated_result (names_in_words names) listed.lines →
      each_inputs files names listed.constraints listed.lines ≡ Ok inputs → batch_of files names ≡ Ok (record { lines = listed.lines; inputs = inputs })
  held-batch listed inputs e once each =
      after-listed listed e (sym once) ∙ ap (λ r. unless_stopped r (λ is. Ok (record { lines = listed.lines; inputs = is }))) each

-- The fault count is that of reading inputs.
pub listing-counts : (before now : ℕ) (stop : Stop) → CountsFault {A = Listed} before now (Err stop) → CountsFault {A = Inputs} before now (Err stop)
listing-counts before now stop h = record { kept = h.kept; rises = by stop h.rises }
  where
    by : (stop : Stop) → RisesAt {A = Listed} before now (Err stop) → RisesAt {A = Inputs} before now (Err stop)
    by (CannotRead input) rises = rises
    by (Refused why) rises = rises
    by NoMemory rises = rises

-- The reading of the scenarios stopped after the list was read, so the batch stopped.
pub stopped-each : (names : BatchNames) (listed : ListedView) (before between after : Outside) (status : ℕ) →
    ((files : List StoredFile) → before.files ≡ Some files → listing_of files (inputs_with names names.list) ≡ Ok listed) → None ≡ repeated_result (names_in_words names) listed.lines →
    IsSince before between → between.faults ≡ before.faults →
    IsReadingStopped {A = List Inputs} (λ files. each_inputs files names listed.constraints listed.lines) (IsUnderOneOf names listed.lines) between after status → IsBatchStopped names before after status
stopped-each names listed before between after status read once s same h = record {
  stop = h.stop;
  under = by h.stop h.under;
  modelled = λ files modelled. stops-each files names before.steady listed h.stop (read files modelled) once
      (subst (λ b. StopsAsHeld b (each_inputs files names listed.constraints listed.lines) h.stop) s.steady (h.modelled files (s.files ∙ modelled)));
  counted = subst (λ n. CountsStop n after.faults h.stop) same h.counted;
  explains = subst (λ z. ExplainsStop h.stop before.held after.held z after.sink_faults status) s.sink_faults
      (subst (λ z. ExplainsStop h.stop z after.held between.sink_faults after.sink_faults status) s.held h.explains);
  files = h.files ∙ s.files;
}
  where
    by : (stop : BatchStop) → StopsUnder (IsUnderOneOf names listed.lines) stop → StopsUnder (IsUnderList names before) stop
    by (Unread own why) under = inr (listed.lines, under, λ files modelled. (listed.constraints, read files modelled))
    by (Twice name) under = tt

-- ---- one scenario after the other

module _ (files : List StoredFile) (names : BatchNames) (c : Constraints) where
  -- The inputs so far, and those of the lines that are left.
  abbrev pub behind : List Inputs → List ListedNames → Result (List Inputs) BatchStop
  behind done left = unless_stopped (each_inputs files names c left) (λ more. Ok (done ++ more))

  move : (done : List Inputs) (x : Inputs) (r : Result (List Inputs) BatchStop) →
      unless_stopped (unless_stopped r (λ more. Ok (x ∷ more))) (λ more. Ok (done ++ more)) ≡ unless_stopped r (λ more. Ok ((done ++ x ∷ []) ++ more))
  move done x (Ok more) = ap Ok (sym (append_assoc done (x ∷ []) more))
  move done x (Err stop) = refl

  pub each-next : (done : List Inputs) (lines : List ListedNames) (i : ℕ) (line : ListedNames) (x : Inputs) → i < length lines → line ≡ get_or lines i line → inputs_with_constraints files c line.scenario ≡ Ok x →
      behind done (drop i lines) ≡ behind (done ++ x ∷ []) (drop (i + 1) lines)
  each-next done lines i line x within is read =
      ap (behind done) (drop_more lines i line within ∙ ap (λ y. y ∷ drop (i + 1) lines) (sym is))
      ∙ (ap (λ r. unless_stopped (unless_stopped (among (inputs_with names line.scenario) r) (λ inputs. unless_stopped (each_inputs files names c (drop (i + 1) lines)) (λ more. Ok (inputs ∷ more)))) (λ more. Ok (done ++ more))) read
      ∙ move done x (each_inputs files names c (drop (i + 1) lines)))

  stopped-at : (done : List Inputs) (lines : List ListedNames) (i : ℕ) (line : ListedNames) (why : Stop) → i < length lines → line ≡ get_or lines i line → inputs_with_constraints files c line.scenario ≡ Err why →
      behind done (drop i lines) ≡ Err (Unread (inputs_with names line.scenario) why)
  stopped-at done lines i line why within is read =
      ap (behind done) (drop_more lines i line within ∙ ap (λ y. y ∷ drop (i + 1) lines) (sym is))
      ∙ ap (λ r. unless_stopped (unless_stopped (among (inputs_with names line.scenario) r) (λ inputs. unless_stopped (each_inputs files names c (drop (i + 1) lines)) (λ more. Ok (inputs ∷ more)))) (λ more. Ok (done ++ more))) read

  -- The line at which the reading stops.
  pub each-stops : (steady : Bool) (done : List Inputs) (lines : List ListedNames) (i : ℕ) (line : ListedNames) (stop : Stop) → behind done (drop i lines) ≡ each_inputs files names c lines →
      i < length lines → line ≡ get_or lines i line → Agrees {A = Inputs} {B = Inputs} (λ x. x) steady (inputs_with_constraints files c line.scenario) (Err stop) →
      StopsAsHeld steady (each_inputs files names c lines) (Unread (inputs_with names line.scenario) stop)
  each-stops steady done lines i line (CannotRead input) so within is h = λ still. sym so ∙ stopped-at done lines i line (CannotRead input) within is (h still)
  each-stops steady done lines i line (Refused why) so within is h = sym so ∙ stopped-at done lines i line (Refused why) within is h
  each-stops steady done lines i line NoMemory so within is h = tt

  pub each-begins : (lines : List ListedNames) → behind [] lines ≡ each_inputs files names c lines
  each-begins lines = by (each_inputs files names c lines)
    where
      by : (r : Result (List Inputs) BatchStop) → unless_stopped r (λ more. Ok more) ≡ r
      by (Ok more) = refl
      by (Err stop) = refl

  pub each-ends : (done : List Inputs) (lines : List ListedNames) (i : ℕ) → length lines ≤ i → behind done (drop i lines) ≡ Ok done
  each-ends done lines i over = ap (behind done) (drop_all i lines over) ∙ ap Ok (append-nil done)

pub long-more : (xs : List Inputs) (x : Inputs) → length (xs ++ x ∷ []) ≡ length xs + 1
long-more [] x = refl
long-more (y ∷ ys) x = let e = long-more ys x in omega (arith, e)

-- ---- the results of the auctions

same-length : (m n : ℕ) → suc m ≡ suc n → m ≡ n
same-length m n e = cc

pub records-of : (lines : List ListedNames) (inputs : List Inputs) (rans : List BatchRunResult) → length inputs ≡ length lines → AllZip IsRun inputs rans →
    AreRecordsOf (record { lines = lines; inputs = inputs }) (map (λ (r : BatchRunResult). r.record) rans)
records-of lines inputs rans many runs = go lines inputs rans many runs
  where
    go : (ls : List ListedNames) (is : List Inputs) (rs : List BatchRunResult) → length is ≡ length ls → AllZip IsRun is rs →
        EachOf (λ line i rec. IsRecordBy i rec rec.ending) ls is (map (λ (r : BatchRunResult). r.record) rs)
    go [] [] [] e h = tt
    go [] [] (r ∷ rs) e h = absurd h
    go [] (i ∷ is) rs e h = cc
    go (l ∷ ls) [] rs e h = cc
    go (l ∷ ls) (i ∷ is) [] e h = absurd h
    go (l ∷ ls) (i ∷ is) (r ∷ rs) e h = let first = h.0 in (first.auction, go ls is rs (same-length (length is) (length ls) e) h.1)

pub same-long : (inputs : List Inputs) (rans : List BatchRunResult) → AllZip IsRun inputs rans → length rans ≡ length inputs
same-long [] [] h = refl
same-long [] (r ∷ rs) h = absurd h
same-long (i ∷ is) [] h = absurd h
same-long (i ∷ is) (r ∷ rs) h = ap suc (same-long is rs h.1)

pub texts-of : (inputs : List Inputs) (rans : List BatchRunResult) → AllZip IsRun inputs rans →
    map (option_map (λ v. v.items)) (map (λ (r : BatchRunResult). r.result) rans) ≡ own_texts inputs (map (λ (r : BatchRunResult). r.record) rans)
texts-of [] [] h = refl
texts-of [] (r ∷ rs) h = absurd h
texts-of (i ∷ is) [] h = absurd h
texts-of (i ∷ is) (r ∷ rs) h = let first = h.0 in let text = first.text in let rest = texts-of is rs h.1 in λ j. text j ∷ rest j

-- Memory ran out in none of them.
abbrev pub ran-so : {E : Type 0} → BatchRunResult → Result BatchRunResult E
ran-so ran = Ok ran

pub all-runs : {E : Type 0} (inputs : List Inputs) (rans : List BatchRunResult) (came : List (Result BatchRunResult E)) → map (λ (ran : BatchRunResult). ran-so {E = E} ran) rans ≡ came →
    AllZip (λ (i : Inputs) (ran : Result BatchRunResult E). IfOk ran (IsRun i)) inputs came → AllZip IsRun inputs rans
all-runs {E = E} inputs rans came e h = go inputs rans (subst (λ (l : List (Result BatchRunResult E)). AllZip (λ (i : Inputs) (ran : Result BatchRunResult E). IfOk ran (IsRun i)) inputs l) (sym e) h)
  where
    go : (is : List Inputs) (rs : List BatchRunResult) → AllZip (λ (i : Inputs) (ran : Result BatchRunResult E). IfOk ran (IsRun i)) is (map (λ (ran : BatchRunResult). ran-so {E = E} ran) rs) → AllZip IsRun is rs
    go [] [] k = tt
    go [] (r ∷ rs) k = absurd k
    go (i ∷ is) [] k = absurd k
    go (i ∷ is) (r ∷ rs) k = (k.0, go is rs k.1)

pub none-wants : {E F V : Type 0} (inputs : List Inputs) (came : List (Result BatchRunResult E)) (r : Result V F) (items : V → List BatchRunResult) → IfOk r (λ all. map (λ (ran : BatchRunResult). ran-so {E = E} ran) (items all) ≡ came) →
    AllZip (λ (i : Inputs) (ran : Result BatchRunResult E). IfOk ran (IsRun i)) inputs came → IfOk r (λ all. AllZip IsRun inputs (items all))
none-wants inputs came (Ok all) items e h = all-runs inputs (items all) came e h
none-wants inputs came (Err why) items e h = tt

-- A relation that holds at each place of two lists holds of the lists.
pub zip-both : {X Y : Type 0} (R : X → Y → Type 0) (xs : List X) (ys : List Y) → length ys ≡ length xs → ((i : ℕ) (d : X) (e : Y) → i < length xs → R (get_or xs i d) (get_or ys i e)) → AllZip R xs ys
zip-both R [] [] e h = tt
zip-both R [] (y ∷ ys) e h = absurd (omega arith)
zip-both R (x ∷ xs) [] e h = absurd (omega arith)
zip-both R (x ∷ xs) (y ∷ ys) e h = (h 0 x y (omega arith), zip-both R xs ys (omega arith) (λ i d k lt. h (suc i) d k (omega arith)))

-- Two properties of a result's value, if it has one.
pub both-ok : {A E : Type 0} (P Q S : A → Type 0) (r : Result A E) → IfOk r P → IfOk r Q → ((a : A) → P a → Q a → S a) → IfOk r S
both-ok P Q S (Ok a) p q f = f a p q
both-ok P Q S (Err e) p q f = tt
