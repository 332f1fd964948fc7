-- The calls of the three files, up to the one that stops the reading. The book takes none.
use Rattle.std.proofs.Common.{[]}
use Rattle.std.proofs.lemmas.Result.{err_from_is_err_and}
use Rattle.command_words.specs.Words.{inputs_view}
use Rattle.commands.specs.Calls.{source_calls}
use Rattle.commands.proofs.CallLemmas.{book-refusal, stops-before, stops-behind}
use Rattle.commands.proofs.inputs.read_valued.Goals as goal

pub returns-in_err-sources-clause-called : goal.returns-in_err-sources-clause-called
returns-in_err-sources-clause-called g c =
    let names = inputs_view c.args.names.now in
    let p = err_from_is_err_and c.from_residual.result c.from_residual.ensures.1 in
    rw (p.1, p.2)
    (stops-before names (source_calls names) [] _ _ c.in_err-sources.field-0.0 c.in_err-sources.ensures.called)

pub returns-in_err-book-clause-called : goal.returns-in_err-book-clause-called
returns-in_err-book-clause-called g c =
    let names = inputs_view c.args.names.now in
    let why = c.in_err-book.field-0.0 in
    let p = err_from_is_err_and c.from_residual-in_err-book.result c.from_residual-in_err-book.ensures.1 in
    rw (p.1, p.2)
    (stops-behind names (source_calls names) _ _ why (book-refusal c.in_ok-sources.sources why c.in_err-book.ensures.book) c.in_ok-sources.ensures.called)
