use Rattle.std.proofs.Common.{inl, sym, ◌∙◌}
use Rattle.std.proofs.lemmas.Bool.{false≢true}
use Rattle.serde_json.specs.Errors.{IsMemory}
use Rattle.serde_json.specs.View.{view}
use Rattle.scenario_json.proofs.Readings.{json-is, json-none}
use Rattle.scenario_json.proofs.scenario.json_in.Goals as goal

pub returns-in-Ok : goal.returns-in-Ok
returns-in-Ok c =
    let ok = c.in-Ok.ensures.ok in
    inl (json-is c.args.bytes.now (view c.in-Ok.value) ok.0 ok.1)

pub returns-else-is_memory : goal.returns-else-is_memory
returns-else-is_memory c =
    let other : ¬ (IsMemory c.in-Err.error) = λ m. false≢true (sym c.if-is_memory.false ∙ (c.is_memory.ensures).1 m) in
    inl (json-none c.args.bytes.now (c.in-Err.ensures.err other))
