-- The writer puts a comma between the two fields, since neither needs quotes.
use Rattle.std.proofs.Common.{◌≡◌, ◌≢◌, ◌∙◌, ◌++◌, ap, decimal, rules, false}
use Rattle.csv.specs.declared.writer.QuoteStyle.TheVariants as style
use Rattle.std.specs.Result.{is_err}
use Rattle.csv.proofs.ReadFacts.{on-ok}
use Rattle.result_text.specs.ResultText.{text_held}
use Rattle.result_text.proofs.RowLemmas.{entry-plain}
use Rattle.result_text.proofs.channels.write_entry.Goals as goal

pub returns-clause-text : goal.returns-clause-text
returns-clause-text c =
    let idle = c.requires in
    let good : is_err c.write_fields.result ≡ false = search rules in
    let plain : c.args.writer.now.cfg.style ≢ style.NonNumeric = rw idle.setup (λ e. cc e) in
    let h = on-ok c.write_fields.result good c.write_fields.ensures.bytes idle.fields idle.wrote plain in
    let facility : c.as_bytes.result.now ≡ decimal c.args.facility = c.as_bytes.ensures.value ∙ c.format.ensures.text in
    let channel : c.as_bytes-2.result.now ≡ decimal c.args.channel = c.as_bytes-2.ensures.value ∙ c.format-2.ensures.text in
    h ∙ ap (λ t. text_held c.args.writer.now ++ t) (rw (idle.setup, facility, channel) (entry-plain c.args.facility c.args.channel (search rules) (search rules)))
