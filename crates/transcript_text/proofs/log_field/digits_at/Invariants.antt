use Rattle.std.proofs.Common.{◌≡◌, ◌≤◌, true, take}
use Rattle.std.specs.Str.{all_ascii_digits}
use Rattle.std.specs.Str.Parse.{digits_value}
use Rattle.lrat_text.specs.Write.{greatest}
use Rattle.transcript_text.proofs.log_field.digits_at.Given as goal

abbrev pub invariant-loop-i : goal.invariant-loop-i
invariant-loop-i l = record {
  digits : all_ascii_digits (take l.i l.text) ≡ true;
  value : l.value ≡ digits_value 10 (take l.i l.text);
  few : l.value ≤ greatest;
}
