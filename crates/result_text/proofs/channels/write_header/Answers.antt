-- No name of the header needs quotes.
use Rattle.std.proofs.Common.{◌≡◌, ◌≢◌, ◌∙◌, ◌++◌, ap, rules, false, refl}
use Rattle.csv.specs.declared.writer.QuoteStyle.TheVariants as style
use Rattle.csv.specs.Writing.{fields_text, is_blank}
use Rattle.std.specs.Result.{is_err}
use Rattle.csv.proofs.ReadFacts.{on-ok}
use Rattle.result_text.specs.ChannelsText.{channels_header}
use Rattle.result_text.specs.ResultText.{text_held}
use Rattle.result_text.proofs.channels.write_header.Goals as goal

pub returns-clause-text : goal.returns-clause-text
unfolding fields_text is_blank channels_header
returns-clause-text c =
    let idle = c.requires in
    let good : is_err c.write_fields.result ≡ false = search rules in
    let plain : c.args.writer.now.cfg.style ≢ style.NonNumeric = rw idle.setup (λ e. cc e) in
    let h = on-ok c.write_fields.result good c.write_fields.ensures.bytes idle.fields idle.wrote plain in
    h ∙ ap (λ t. text_held c.args.writer.now ++ t) (rw idle.setup refl)
