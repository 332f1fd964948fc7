use Rattle.std.proofs.Common.{[], refl}
use Rattle.std.proofs.lemmas.Result.{err_from_is_err_and}
use Rattle.constraint_files.specs.Domains.{domains_fed, domains_of}
use Rattle.commands.specs.Inputs.{file_of, rows_read}
use Rattle.command_words.specs.declared.run_words.Input.TheVariants.{Domains}
use Rattle.commands.proofs.FeedLemmas.{from-fails, from-ok, from-refused}
use Rattle.outside_io.specs.declared.diary.CallEnd.TheVariants.{Done}
use Rattle.commands.specs.Calls.{begun_as}
use Rattle.commands.proofs.CallLemmas.{pieces-stop, read-whole, rows-refused}
use Rattle.commands.proofs.inputs.constraints.domains_from.Goals as goal

pub returns-in_err-feed_domains-clause-modelled : goal.returns-in_err-feed_domains-clause-modelled
returns-in_err-feed_domains-clause-modelled g c = λ files modelled.
    let (bytes, held, left) = c.in_ok-begin.ensures.modelled files modelled in
    let p = err_from_is_err_and c.from_residual-in_err-feed_domains.result c.from_residual-in_err-feed_domains.ensures.1 in
    rw (p.1, p.2) (from-fails (g.F.Folder.modelled c.args.folder.now).steady (g.F.Folder.modelled c.begin.new.folder).steady (file_of files c.args.name.now Domains) (λ b. rows_read Domains (domains_of b)) bytes (domains_fed bytes) c.in_err-feed_domains.field-0.0
    c.begin.ensures.steady held (c.in_err-feed_domains.ensures.modelled [] bytes left c.in-Ok.ensures))

pub returns-in-Ok-finish-clause-modelled : goal.returns-in-Ok-finish-clause-modelled
returns-in-Ok-finish-clause-modelled g c = λ files modelled.
    let (bytes, held, left) = c.in_ok-begin.ensures.modelled files modelled in
    from-ok Domains (file_of files c.args.name.now Domains) domains_of bytes c.in-Ok-finish.domains held (c.in-Ok-finish.ensures bytes (c.in_ok-feed_domains.ensures.modelled [] bytes left c.in-Ok.ensures))

pub returns-in-Err-clause-modelled : goal.returns-in-Err-clause-modelled
returns-in-Err-clause-modelled g c = λ files modelled.
    let (bytes, held, left) = c.in_ok-begin.ensures.modelled files modelled in
    from-refused (g.F.Folder.modelled c.args.folder.now).steady Domains (file_of files c.args.name.now Domains) domains_of bytes c.in-Err.why c.refused_by.result c.refused_by.ensures held
    (c.in-Err.ensures bytes (c.in_ok-feed_domains.ensures.modelled [] bytes left c.in-Ok.ensures))

pub returns-in_err-feed_domains-clause-called : goal.returns-in_err-feed_domains-clause-called
returns-in_err-feed_domains-clause-called g c =
    let p = err_from_is_err_and c.from_residual-in_err-feed_domains.result c.from_residual-in_err-feed_domains.ensures.1 in
    rw (p.1, p.2)
    (pieces-stop (begun_as Done c.args.name.now) Domains c.in_err-feed_domains.field-0.0 _ _ _ refl c.in_ok-begin.ensures.called c.in_err-feed_domains.ensures.called)

pub returns-in-Ok-finish-clause-called : goal.returns-in-Ok-finish-clause-called
returns-in-Ok-finish-clause-called g c = read-whole (begun_as Done c.args.name.now) _ _ _ c.in_ok-begin.ensures.called c.in_ok-feed_domains.ensures.called

pub returns-in-Err-clause-called : goal.returns-in-Err-clause-called
returns-in-Err-clause-called g c =
    rw c.refused_by.ensures
    (rows-refused (begun_as Done c.args.name.now) Domains c.in-Err.why _ _ (read-whole (begun_as Done c.args.name.now) _ _ _ c.in_ok-begin.ensures.called c.in_ok-feed_domains.ensures.called))
