use Rattle.std.proofs.Common.{◌≡◌, ◌≤◌, ◌∙◌, All, false, Some, ap, subst, sym}
use Rattle.std.proofs.lemmas.Result.{IfOk-weaker}
use Rattle.serde_json.specs.Data.{depth}
use Rattle.serde_json.specs.Read.{max_depth}
use Rattle.serde_json.specs.View.{view}
use Rattle.serde_json.specs.Written.{compact_text, has_float}
use Rattle.scenario_json.proofs.Readings.{json-is}
use Rattle.scenario_json.proofs.WrittenLemmas.{data-plain, data-shallow, ok-both, text-reads}
use Rattle.scenario_json.specs.Write.{IsFileNumber, data_for}
use Rattle.scenario_json.proofs.write.write_scenario.Goals as goal

pub returns-clause-text : goal.returns-clause-text
returns-clause-text c =
    let same : view c.in_ok-value.value ≡ data_for c.args.sc.now = c.in_ok-value.ensures in
    let plain : has_float (view c.in_ok-value.value) ≡ false = ap has_float same ∙ data-plain c.args.sc.now in
    IfOk-weaker c.to_vec.result _ _ (λ v h. h plain ∙ ap compact_text same) c.to_vec.ensures.text

pub returns-clause-reads_back : goal.returns-clause-reads_back
returns-clause-reads_back c =
    let same : view c.in_ok-value.value ≡ data_for c.args.sc.now = c.in_ok-value.ensures in
    let shallow : depth (view c.in_ok-value.value) ≤ max_depth = subst (λ d. depth d ≤ max_depth) (sym same) (data-shallow c.args.sc.now) in
    let numbers : All IsFileNumber c.args.sc.now.stations = subst (All IsFileNumber) c.as_slice.ensures c.keeps_file_numbers.ensures in
    ok-both c.to_vec.result c.to_vec.ensures.utf8 c.to_vec.ensures.reads_back
    (λ v utf8 read limits by_value.
    text-reads c.args.sc.now v.items limits numbers by_value
    (sym (json-is v.items (data_for c.args.sc.now) utf8 (read shallow ∙ ap (λ d. Some d) same))))
