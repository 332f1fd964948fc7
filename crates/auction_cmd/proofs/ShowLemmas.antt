-- The promises of the views `show` and `export` follow from how they end.
use Rattle.std.proofs.Common.{◌≡◌, ◌≢◌, ◌∙◌, ℕ, true, inl, inr, List, [], ◌∷◌, ◌++◌, length, refl, sym, ap, subst, arith, Option, Some, None}
use Rattle.std.specs.Prelude.{Contains, IsTrue, Ok}
use Rattle.std.proofs.lemmas.List.{append-nil}
use Rattle.std.proofs.lemmas.List.Elements.{All-nil}
use Rattle.pack_defs.specs.Lists.{is_in}
use Rattle.pack_defs.proofs.Members.{Contains-cons_cases, Contains-nil}
use Rattle.pack_defs.proofs.ThresholdLaw.{threshold}
use Rattle.outside_io.specs.Faults.{HasRisen}
use Rattle.outside_io.specs.Loads.{Writes}
use Rattle.auction_core.specs.Backed.{undecided_of}
use Rattle.auction_core.specs.declared.record.Record.{Record}
use Rattle.undecided_tests.specs.Queries.{step_numbered}
use Rattle.undecided_tests.specs.Settling.{formula_text}
use Rattle.commands.specs.declared.inputs.Inputs.{Inputs}
use Rattle.commands.specs.declared.settling.StepFault.{StepFault}
use Rattle.commands.specs.Delivery.{NamedText, named, names_of}
use Rattle.commands.specs.ExportPromises.{ExportPromises}
use Rattle.commands.specs.Messages.{unwritten_line}
use Rattle.commands.specs.Outside.{IsLinePrinted, Outside}
use Rattle.commands.specs.Settling.{missing_fault}
use Rattle.commands.specs.ShowPromises.{ShowPromises}
use Rattle.commands.specs.ViewPromises.{IsAnswered, ViewPromises}
use Rattle.commands.specs.Views.{Tells, ViewEnds, export_answer, formula_unless, show_answer}
use Rattle.command_words.specs.Words.{ExportNames, ShowNames, repeated_by, show}
use Rattle.commands.proofs.DeliveryLemmas.{AreApart}
use Rattle.commands.proofs.OutputNames.{own-shown}
use Rattle.commands.proofs.ReadingLemmas.{accepted-ascend, accepted-values}
use Rattle.commands.proofs.Statuses.{done-within, one-of}
use Rattle.auction_cmd.proofs.ViewLemmas.{KeepsTo, never-lacking, view-promises}

-- ---- the parts of an answer

told-texts : (xs ys : List NamedText) (s t : List ℕ) (m n : ℕ) → Tells xs s m ≡ Tells ys t n → xs ≡ ys
told-texts xs ys s t m n e = cc

told-text : (xs ys : List NamedText) (s t : List ℕ) (m n : ℕ) → Tells xs s m ≡ Tells ys t n → s ≡ t
told-text xs ys s t m n e = cc

told-done : (xs ys : List NamedText) (s t : List ℕ) (m n : ℕ) → Tells xs s m ≡ Tells ys t n → m ≡ n
told-done xs ys s t m n e = cc

-- ---- `show`

keeps-pair : (names : ShowNames) → repeated_by (show names) ≡ None → (result channels printed : List ℕ) (status : ℕ) → IsTrue (is_in (0 ∷ 1 ∷ []) status) → (texts : List NamedText) (text : List ℕ) (done : ℕ)
    → Tells (named names.result result ∷ named names.channels channels ∷ []) printed status ≡ Tells texts text done → IsTrue (is_in (0 ∷ 1 ∷ []) done) × (names_of texts ≡ names.result ∷ names.channels ∷ []) × AreApart texts
keeps-pair names once result channels printed status within texts text done is =
    let same = told-texts (named names.result result ∷ named names.channels channels ∷ []) texts printed text status done is in (
      subst (λ z. IsTrue (is_in (0 ∷ 1 ∷ []) z)) (told-done (named names.result result ∷ named names.channels channels ∷ []) texts printed text status done is) within,
      sym (ap names_of same),
      subst AreApart same (own-shown names result channels once),
    )

show-keeps : (names : ShowNames) → repeated_by (show names) ≡ None → KeepsTo (names.result ∷ names.channels ∷ []) (show_answer names)
show-keeps names once inputs rec texts text done is = keeps-pair names once _ _ _ _ (done-within (undecided_of rec.steps)) texts text done is

pub show-promises : (names : ShowNames) (before after : Outside) (status : ℕ) → repeated_by (show names) ≡ None → ViewEnds names.shown (show_answer names) before after status → ShowPromises names before after status
show-promises names before after status once end = record {
  view = view-promises names.shown (names.result ∷ names.channels ∷ []) (show_answer names) before after status (show-keeps names once) end;
  never_lacking =
      never-lacking names.shown (names.result ∷ names.channels ∷ []) (show_answer names) before after status (show-keeps names once) (λ inputs rec line is. cc) end;
  paid = λ files s f modelled valued zero bought.
      threshold s.inputs.scenario s.inputs.book s.rec.order f (accepted-ascend files names.shown.inputs s.inputs s.given.accepted)
      (accepted-values files names.shown.inputs s.inputs valued s.given.accepted) bought;
}

-- ---- `export`

-- An answer by texts is the formula, under its name, with nothing to print and status 0.
record IsFormula (names : ExportNames) (inputs : Inputs) (rec : Record) (texts : List NamedText) (text : List ℕ) (done : ℕ) : Type 0 where
  pub texts_are : named names.formula (formula_text inputs.book rec names.step) ∷ [] ≡ texts
  pub text_is : text ≡ []
  pub done_is : done ≡ 0

formula : (names : ExportNames) (inputs : Inputs) (rec : Record) (texts : List NamedText) (text : List ℕ) (done : ℕ) (fault : Option StepFault) → formula_unless names inputs rec fault ≡ Tells texts text done → IsFormula names inputs rec texts text done
formula names inputs rec texts text done None is = record {
  texts_are = told-texts _ texts _ text _ done is;
  text_is = sym (told-text _ texts _ text _ done is);
  done_is = sym (told-done _ texts _ text _ done is);
}
formula names inputs rec texts text done (Some fault) is = cc

one-apart : (x : NamedText) → AreApart (x ∷ [])
one-apart x = (All-nil (λ name. x.name ≢ name), tt)

export-keeps : (names : ExportNames) → KeepsTo (names.formula ∷ []) (export_answer names)
export-keeps names inputs rec texts text done is =
    let x = named names.formula (formula_text inputs.book rec names.step) in
    let f = formula names inputs rec texts text done (missing_fault (step_numbered rec.steps names.step)) is in
    (one-of (0 ∷ 1 ∷ []) done 0 f.done_is refl, sym (ap names_of f.texts_are), subst AreApart f.texts_are (one-apart x))

-- nothing was written
none-written : (old new : Option (List ℕ)) (text : List ℕ) → text ≡ [] → Writes old new text (Ok tt) → new ≡ old
none-written None None text none writes = refl
none-written None (Some now) text none writes = absurd writes
none-written (Some held) None text none writes = absurd writes
none-written (Some held) (Some now) text none writes = ap Some (writes ∙ ap (λ t. held ++ t) none ∙ append-nil held)

-- the only text of a list
only : (x y : NamedText) (xs : List NamedText) → x ∷ [] ≡ xs → Contains xs y → y.name ≡ x.name
only x y xs is among = elim (Contains-cons_cases x y [] (subst (λ zs. Contains zs y) (sym is) among)) [
  | inl same ↦ ap (λ (z : NamedText). z.name) (sym same)
  | inr more ↦ absurd (Contains-nil y more)
]

module _ (names : ExportNames) (before after : Outside) (status : ℕ) where
  abbrev View : Type 0
  View = ViewPromises names.shown (names.formula ∷ []) (export_answer names) before after status

  answer-is : (a : IsAnswered names.shown (export_answer names) before) → IsFormula names a.inputs a.rec a.texts a.text a.done
  answer-is a = formula names a.inputs a.rec a.texts a.text a.done (missing_fault (step_numbered a.rec.steps names.step)) a.answer

  never-open : View → status ≢ 1
  never-open v = λ one.
      let d = v.done (one-of (0 ∷ 1 ∷ []) status 1 one refl) in
      let f = answer-is d.0 in
      let zero = f.done_is in
      let is = d.1 in
      omega arith

  silent : View → status ≡ 0 → after.held ≡ before.held
  silent v zero =
      let d = v.done (one-of (0 ∷ 1 ∷ []) status 0 zero refl) in
      let a : IsAnswered names.shown (export_answer names) before = d.0 in
      let f = answer-is a in
      none-written before.held after.held a.text f.text_is d.2

  unwritten : View → status ≡ 4 → HasRisen before.faults after.faults × (before.steady ≢ true) × IsLinePrinted before after (unwritten_line names.formula)
  unwritten v four =
      let failed = v.unwritten four in
      let a : IsAnswered names.shown (export_answer names) before = failed.0 in
      let f = answer-is a in
      elim failed.1 [
        | inl store ↦
            let name = only (named names.formula (formula_text a.inputs.book a.rec names.step)) store.2 a.texts f.texts_are store.3 in
            (store.0, store.1, subst (λ n. IsLinePrinted before after (unwritten_line n)) name store.4)
        | inr print ↦ let none = ap length f.text_is in let less = print.1 in absurd (omega arith)
      ]

  pub export-promises : ViewEnds names.shown (export_answer names) before after status → ExportPromises names before after status
  export-promises end =
      let v = view-promises names.shown (names.formula ∷ []) (export_answer names) before after status (export-keeps names) end in
      record { view = v; never_open = never-open v; silent = silent v; unwritten = unwritten v }
