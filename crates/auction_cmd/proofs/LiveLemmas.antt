-- The promises of a live auction.
use Rattle.std.proofs.Common.{◌≡◌, ◌∙◌, ◌≤◌, ◌-◌, ◌||◌, ℕ, cond, eqb, not, List, [], ◌∷◌, length, nat_lt, refl, sym, ap, ap₂, subst, inl, inr, Option, Some, None}
use Rattle.std.specs.Prelude.{Contains, MatchOption, Result, Ok, Err, IsSome, ⊤}
use Rattle.std.proofs.lemmas.Bool.{cases_Bool, ltb-false}
use Rattle.outside_io.specs.Files.{StoredFile, bytes_of}
use Rattle.owner_line.specs.OwnersOf.{owners_of}
use Rattle.owner_line.specs.declared.error.OwnerErr.{OwnerErr}
use Rattle.owner_line.specs.declared.error.OwnerErr.TheVariants.{Row as RefusedLine, NoMemory as NoList}
use Rattle.owner_line.proofs.OwnLineLemmas.{exits-by_lines}
use Rattle.pack_defs.proofs.OneRow.{row-by_answers, row-of_start}
use Rattle.pack_defs.proofs.OwnerLaws.{follow-values}
use Rattle.pack_defs.specs.declared.order.Order.{Order}
use Rattle.pack_defs.specs.declared.owners.OwnerLine.{OwnerLine}
use Rattle.pack_defs.specs.declared.scenario.Scenario.{Scenario}
use Rattle.pack_defs.specs.Book.{BookView}
use Rattle.pack_defs.specs.ClockRule.{ClockTest, clock_rule}
use Rattle.pack_defs.specs.Prices.{falls, last_round, offer, stays}
use Rattle.pack_defs.specs.ResultRows.{Frozen, ResultRow, Undecided, on_air_row, row_of}
use Rattle.pack_defs.specs.Scenario.{StationsAscend, facilities, with_owners}
use Rattle.pack_defs.specs.TestAnswer.{TestAnswer, row_from_answers, test_answers}
use Rattle.auction_core.specs.declared.record.Record.{Record}
use Rattle.auction_core.specs.Backed.{IsBacked, undecided_of}
use Rattle.commands.specs.declared.inputs.Inputs.{Inputs}
use Rattle.command_words.specs.declared.run_words.Input.TheVariants.{Owners as OwnersFile}
use Rattle.commands.specs.Ends.{RunEnds, VerifyEnds}
use Rattle.commands.specs.Ends.Concludes.{Unfit, StartOpen, Delivered}
use Rattle.commands.specs.Ends.RunEnds.{RunStopped, RunOutOfMemory, Concluded}
use Rattle.commands.specs.Ends.VerifyEnds.{VerifyStopped, VerifyOutOfMemory, NotLoaded, NotSound, Sound}
use Rattle.commands.specs.Inputs.{bytes_within, file_limit, file_of, inputs_of, live_inputs, owners_read, with_owners_file}
use Rattle.commands.specs.LivePromises.{AreLive, FollowValues, DependsOnOwnLines, IsLive}
use Rattle.commands.specs.Outside.{Outside}
use Rattle.commands.specs.Records.{outcome}
use Rattle.command_words.specs.Words.{InputNames, RunNames, VerifyNames}
use Rattle.commands.proofs.ReadingLemmas.{accepted-ascend, accepted-valued, accepted-values, said-ok, then-ok, valued-values}

-- the bytes of a file, if they were accepted
bytes-ok : (held : Option (List ℕ)) (bytes : List ℕ) → bytes_within OwnersFile held ≡ Ok bytes → (held ≡ Some bytes) × (length bytes ≤ file_limit)
bytes-ok None bytes e = cc
bytes-ok (Some own) bytes e =
    elim (cases_Bool (nat_lt file_limit (length own))) [
      | inl long ↦ cc (rw long at e)
      | inr short ↦
          let same : own ≡ bytes = cc (rw short at e) in
          (ap Some same, subst (λ z. length z ≤ file_limit) same (ltb-false file_limit (length own) short))
    ]

read-lines : (r : Result (List OwnerLine) OwnerErr) (lines : List OwnerLine) → owners_read r ≡ Ok lines → r ≡ Ok lines
read-lines (Ok own) lines e = cc
read-lines (Err (RefusedLine line why)) lines e = cc
read-lines (Err NoList) lines e = cc

-- accepted inputs with an owners' file
accepted-live : (files : List StoredFile) (names : InputNames) (owners : List ℕ) (inputs : Inputs) → inputs_of files names ≡ Ok inputs → names.owners ≡ Some owners → AreLive files names owners inputs
accepted-live files names owners inputs e named =
    let (valued, read, more) = accepted-valued files names inputs e in
    let as_named : with_owners_file files (Some owners) valued ≡ Ok inputs = subst (λ o. with_owners_file files o valued ≡ Ok inputs) named more in
    let (lines, said, same) = said-ok files owners valued inputs as_named in
    let (text, loaded, taken) = then-ok (file_of files owners OwnersFile) (λ bytes. owners_read (owners_of bytes (length (falls valued.scenario)) (facilities valued.scenario))) lines said in
    let (held, within) = bytes-ok (bytes_of files owners) text loaded in
    record {
      valued = valued;
      accepted = read;
      without_owners = valued-values files names valued read;
      text = text;
      held = held;
      within = within;
      lines = lines;
      said = read-lines (owners_of text (length (falls valued.scenario)) (facilities valued.scenario)) lines taken;
      live = same;
    }

-- the row of a station depends on the station's own answers
same-told : (sc : Scenario) (a b : List OwnerLine) (s : ℕ) (xs : List TestAnswer) → ((r : ℕ) → stays a r s ≡ stays b r s) → row_from_answers (with_owners sc (Some a)) s xs ≡ row_from_answers (with_owners sc (Some b)) s xs
same-told sc a b s [] agree = refl
same-told sc a b s (x ∷ xs) agree =
    let frozen : Option ResultRow = Some (record { facility = s; outcome = cond x.undecided Undecided Frozen; round = x.round; price = offer sc s (x.round - 1) }) in
    ap₂ (λ e o. cond x.room (cond ((eqb x.round (last_round sc)) || e) (Some (on_air_row (record { station = s; round = x.round }))) o) frozen)
    (ap not (agree x.round)) (same-told sc a b s xs agree)

module _ (sc : Scenario) (book : BookView) (a b : List OwnerLine) (one other : Order) (U V : List ClockTest) (s : ℕ) where
  abbrev first : Scenario
  first = with_owners sc (Some a)

  abbrev second : Scenario
  second = with_owners sc (Some b)

  -- two live auctions, in any orders, that agree on a station's answers and verdicts
  same-row : Contains (facilities sc) s → ((r : ℕ) → stays a r s ≡ stays b r s) → test_answers first book one U s ≡ test_answers second book other V s →
      row_of U (clock_rule first book one U) s ≡ row_of V (clock_rule second book other V) s
  same-row known agree same = elim (cases_Bool (stays a 0 s)) [
    | inl stayed ↦
        row-by_answers first book one U s known (ap not stayed)
        ∙ (ap (row_from_answers first s) same
        ∙ (same-told sc a b s (test_answers second book other V s) agree
        ∙ sym (row-by_answers second book other V s known (ap not (sym (agree 0) ∙ stayed)))))
    | inr left ↦ row-of_start first book one U s known (ap not left) ∙ sym (row-of_start second book other V s known (ap not (sym (agree 0) ∙ left)))
  ]

module _ (order : Order) (valued : Inputs) (lines : List OwnerLine) (undecided : List ClockTest) where
  -- a station goes by its owner's answers
  own-lines : (s : ℕ) → StationsAscend valued.scenario → Contains (facilities valued.scenario) s → DependsOnOwnLines order (live_inputs valued lines) lines undecided s
  own-lines s ascend known =
      let sc = valued.scenario in
      let live = with_owners sc (Some lines) in
      record {
        starts = λ leaves. row-of_start live valued.book order undecided s known (ap not leaves);
        exits = λ stays_first r. exits-by_lines live lines valued.book order undecided s r ascend known stays_first;
        same_row = λ other turned left agree same. same-row sc valued.book lines other order turned undecided left s known agree same;
      }

  -- answers that follow the values
  by-value : valued.scenario.owners ≡ None → FollowValues valued.scenario lines → outcome order (live_inputs valued lines) undecided ≡ outcome order valued undecided
  by-value none follow =
      let sc = valued.scenario in
      follow-values sc lines valued.book order undecided follow ∙ ap (λ o. clock_rule (with_owners sc o) valued.book order undecided) (sym none)

-- a record that is backed by accepted inputs with an owners' file
live-record : (files : List StoredFile) (names : InputNames) (owners : List ℕ) (order : Order) (inputs : Inputs) (rec : Record) (found : Option Record) →
    inputs_of files names ≡ Ok inputs → names.owners ≡ Some owners → IsBacked inputs.scenario inputs.book order rec → found ≡ Some rec → IsLive files names owners found
live-record files names owners order inputs rec found e named backed some =
    let live = accepted-live files names owners inputs e named in
    let own = subst (λ o. IsBacked inputs.scenario inputs.book o rec) (sym backed.order_is) backed in
    let U = undecided_of rec.steps in
    record {
      inputs = inputs;
      accepted = e;
      live = live;
      rec = rec;
      recorded = some;
      backed = own;
      owned = ap (λ (sc : Scenario). sc.owners) backed.scenario ∙ ap (λ (i : Inputs). i.scenario.owners) live.live;
      rule = ap (λ i. outcome rec.order i U) live.live;
      own_lines = λ s known. subst (λ (i : Inputs). DependsOnOwnLines rec.order i live.lines U s) (sym live.live)
          (own-lines rec.order live.valued live.lines U s
          (subst (λ (i : Inputs). StationsAscend i.scenario) live.live (accepted-ascend files names inputs e))
          (subst (λ (i : Inputs). Contains (facilities i.scenario) s) live.live known));
      by_value = λ follow. ap (λ i. outcome rec.order i U) live.live
          ∙ by-value rec.order live.valued live.lines U (valued-values files names live.valued live.accepted) follow;
    }

not-there : (found : Option Record) → IsSome found → found ≡ None → ⊥
not-there (Some rec) some none = cc
not-there None some none = cc

module _ (before after : Outside) (status : ℕ) (found : Option Record) where
  gone : {X : Type 0} → IsSome found → found ≡ None → X
  gone some none = absurd (not-there found some none)

  pub run-live : (files : List StoredFile) (order : Order) (names : RunNames) (owners : List ℕ) → RunEnds order names before after status found → before.files ≡ Some files → names.inputs.owners ≡ Some owners → IsSome found → IsLive files names.inputs owners found
  run-live files order names owners (RunStopped s none) test_answers named some = gone some none
  run-live files order names owners (RunOutOfMemory s) test_answers named some = gone some s.found_is
  run-live files order names owners (Concluded inputs rec are (Unfit of six is said same)) test_answers named some = live-record files names.inputs owners order inputs rec found (are files test_answers) named of.backed is
  run-live files order names owners (Concluded inputs rec are (StartOpen of seven is said same)) test_answers named some = live-record files names.inputs owners order inputs rec found (are files test_answers) named of.backed is
  run-live files order names owners (Concluded inputs rec are (Delivered of can held is d)) test_answers named some = live-record files names.inputs owners order inputs rec found (are files test_answers) named of.backed is

  pub verify-live : (files : List StoredFile) (names : VerifyNames) (owners : List ℕ) → VerifyEnds names before after status found → before.files ≡ Some files → names.inputs.owners ≡ Some owners → IsSome found → IsLive files names.inputs owners found
  verify-live files names owners (VerifyStopped s none) test_answers named some = gone some none
  verify-live files names owners (VerifyOutOfMemory s) test_answers named some = gone some s.found_is
  verify-live files names owners (NotLoaded inputs are why none same) test_answers named some = gone some none
  verify-live files names owners (NotSound inputs text fault are can held is nine none said same) test_answers named some = gone some none
  verify-live files names owners (Sound inputs text rec are can held is of kept printed) test_answers named some = live-record files names.inputs owners rec.order inputs rec found (are files test_answers) named of.backed kept

  -- a record of an auction without an owners' file has no owners
  abbrev Unsaid : Option Record → Type 0
  Unsaid o = MatchOption o ⊤ (λ rec. rec.scenario.owners ≡ None)

  unsaid-of : (files : List StoredFile) (names : InputNames) (order : Order) (inputs : Inputs) (rec : Record) → inputs_of files names ≡ Ok inputs → names.owners ≡ None →
      IsBacked inputs.scenario inputs.book order rec → found ≡ Some rec → Unsaid found
  unsaid-of files names order inputs rec e none backed some =
      subst Unsaid (sym some) (ap (λ (sc : Scenario). sc.owners) backed.scenario ∙ accepted-values files names inputs none e)

  nothing : found ≡ None → Unsaid found
  nothing none = subst Unsaid (sym none) tt

  pub run-unsaid : (files : List StoredFile) (order : Order) (names : RunNames) → RunEnds order names before after status found → before.files ≡ Some files → names.inputs.owners ≡ None → Unsaid found
  run-unsaid files order names (RunStopped s none) test_answers unnamed = nothing none
  run-unsaid files order names (RunOutOfMemory s) test_answers unnamed = nothing s.found_is
  run-unsaid files order names (Concluded inputs rec are (Unfit of six is said same)) test_answers unnamed = unsaid-of files names.inputs order inputs rec (are files test_answers) unnamed of.backed is
  run-unsaid files order names (Concluded inputs rec are (StartOpen of seven is said same)) test_answers unnamed = unsaid-of files names.inputs order inputs rec (are files test_answers) unnamed of.backed is
  run-unsaid files order names (Concluded inputs rec are (Delivered of can held is d)) test_answers unnamed = unsaid-of files names.inputs order inputs rec (are files test_answers) unnamed of.backed is

  pub verify-unsaid : (files : List StoredFile) (names : VerifyNames) → VerifyEnds names before after status found → before.files ≡ Some files → names.inputs.owners ≡ None → Unsaid found
  verify-unsaid files names (VerifyStopped s none) test_answers unnamed = nothing none
  verify-unsaid files names (VerifyOutOfMemory s) test_answers unnamed = nothing s.found_is
  verify-unsaid files names (NotLoaded inputs are why none same) test_answers unnamed = nothing none
  verify-unsaid files names (NotSound inputs text fault are can held is nine none said same) test_answers unnamed = nothing none
  verify-unsaid files names (Sound inputs text rec are can held is of kept printed) test_answers unnamed = unsaid-of files names.inputs rec.order inputs rec (are files test_answers) unnamed of.backed kept
