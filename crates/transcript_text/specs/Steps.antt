-- The contract of a reading step that may fail.
use Rattle.std.specs.Prelude.{◌≡◌, Result, Ok, Err}
use Rattle.transcript_text.specs.declared.error.TextErr.{TextErr}
use Rattle.transcript_text.specs.declared.error.TextErr.TheVariants.{Version, BadLine, Truncated, NoMemory}

-- Whether reading fails with this error; true for `NoMemory`, which the definitions do not speak of.
abbrev pub Fails : {Y : Type 0} → TextErr → Result Y TextErr → Type 0
Fails Version read = read ≡ Err Version
Fails (BadLine n) read = read ≡ Err (BadLine n)
Fails Truncated read = read ≡ Err Truncated
Fails NoMemory read = Unit {0}

-- Whether the result, seen through `view`, is what reading comes to, unless memory ran out.
abbrev pub Gives : {X Y : Type 0} → (X → Y) → Result Y TextErr → Result X TextErr → Type 0
Gives view read (Ok x) = read ≡ Ok (view x)
Gives view read (Err e) = Fails e read
