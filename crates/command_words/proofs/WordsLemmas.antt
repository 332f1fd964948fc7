-- The command of a command line, from what `clap` found. For `words::read_words`.
use Rattle.std.proofs.Common.{◌≡◌, ◌≢◌, ◌∙◌, true, inl, inr, List, [], ◌∷◌, length, Option, None, if◌then◌else◌, sym, ap, subst, arith}
use Rattle.std.proofs.lemmas.Bool.{ne_eqb}
use Rattle.std.specs.Prelude.{option_and_then}
use Rattle.clap.specs.Words.{App, HasKind, Kinds, Row, Text, fault_of, is_simple, is_simple_and_free, kind_of, subcommand_of}
use Rattle.clap.specs.Walk.{is_empty}
use Rattle.clap.specs.declared.error.Error.{Error}
use Rattle.clap.specs.declared.error.kind.ErrorKind.TheVariants.{OutOfMemory}
use Rattle.command_words.specs.Words.{Command, command_of, named_command, program_app}

-- the command that any such program finds in words without a fault
command-by : (p : App) (words : List Text) (rows : Option (Text × List Row)) (order : Option Command) → fault_of p words ≡ [] → rows ≡ subcommand_of p words → order ≡ option_and_then named_command rows →
    (if is_empty (fault_of p words) then option_and_then named_command (subcommand_of p words) else None) ≡ order
command-by p words rows order free found named =
    ap (λ faults. if is_empty faults then option_and_then named_command (subcommand_of p words) else None) free
    ∙ (ap (option_and_then named_command) (sym found) ∙ sym named)

pub command-from : {X : Type 0} (p : App) (words : List Text) (rows : Option (Text × List Row)) (order : Option Command) → p ≡ program_app → (is_simple_and_free p ≡ true → fault_of p words ≡ []) →
    (is_simple p ≡ true → X × (rows ≡ subcommand_of p words)) → order ≡ option_and_then named_command rows → command_of words ≡ order
unfolding command_of
command-from p words rows order is kinds matches named =
    let free : is_simple_and_free p ≡ true = ap is_simple_and_free is in
    let simple : is_simple p ≡ true = ap is_simple is in
    let found = matches simple in
    subst (λ q. (if is_empty (fault_of q words) then option_and_then named_command (subcommand_of q words) else None) ≡ order) is
    (command-by p words rows order (kinds free) found.1 named)

-- if the error is not out of memory, the words have a fault
no-command : (kinds : Kinds) (order : Option Command) (e : Error) → HasKind kinds e → kind_of e ≢ OutOfMemory → (if is_empty kinds then order else None) ≡ None
no-command [] order e (inl memory) other = absurd (other memory)
no-command [] order e (inr none) other = absurd none
no-command (k ∷ ks) order e has other = ap (λ b. if b then order else None) (ne_eqb (length (k ∷ ks)) 0 (λ none. omega arith))

pub refused-from : (p : App) (words : List Text) (e : Error) → p ≡ program_app → (is_simple_and_free p ≡ true → HasKind (fault_of p words) e) → kind_of e ≢ OutOfMemory → command_of words ≡ None
unfolding command_of
refused-from p words e is kinds other =
    let free : is_simple_and_free p ≡ true = ap is_simple_and_free is in
    subst (λ q. (if is_empty (fault_of q words) then option_and_then named_command (subcommand_of q words) else None) ≡ None) is
    (no-command (fault_of p words) (option_and_then named_command (subcommand_of p words)) e (kinds free) other)
