-- The writer puts commas between the four fields, since none needs quotes.
use Rattle.std.proofs.Common.{◌≡◌, ◌≢◌, ◌∙◌, ◌++◌, ap, decimal, rules, false}
use Rattle.csv.specs.declared.writer.QuoteStyle.TheVariants as style
use Rattle.std.specs.Result.{is_err}
use Rattle.csv.proofs.ReadFacts.{on-ok}
use Rattle.result_text.specs.ResultText.{text_held}
use Rattle.result_text.proofs.RowLemmas.{row-plain}
use Rattle.result_text.proofs.rows.write_row.Goals as goal

pub returns-clause-text : goal.returns-clause-text
returns-clause-text c =
    let idle = c.requires.idle in
    let good : is_err c.write_fields.result ≡ false = search rules in
    let plain : c.args.writer.now.cfg.style ≢ style.NonNumeric = rw idle.setup (λ e. cc e) in
    let h = on-ok c.write_fields.result good c.write_fields.ensures.bytes idle.fields idle.wrote plain in
    let facility : c.as_bytes.result.now ≡ decimal c.args.facility = c.as_bytes.ensures.value ∙ c.format.ensures.text in
    let round : c.as_bytes-3.result.now ≡ decimal c.args.round = c.as_bytes-3.ensures.value ∙ c.format-2.ensures.text in
    let price : c.as_bytes-4.result.now ≡ decimal c.args.price = c.as_bytes-4.ensures.value ∙ c.format-3.ensures.text in
    h ∙ ap (λ t. text_held c.args.writer.now ++ t) (rw (idle.setup, facility, c.as_bytes-2.ensures.value, round, price) (row-plain c.args.facility c.args.round c.args.price c.args.word.now (search rules) (search rules) (search rules) c.requires.plain))
