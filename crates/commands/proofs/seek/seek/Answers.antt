-- Each ending, from the results of the steps.
use Rattle.std.proofs.Common.{◌∷◌, [], refl, subst}
use Rattle.result_text.specs.ChannelsText.{channels_text}
use Rattle.commands.specs.Delivery.{named}
use Rattle.commands.specs.Ends.SeekEnds.{SeekStopped, NoTop, TopOpen, TopFound}
use Rattle.commands.specs.Records.{IsOpenRecordOf, IsRefutedRecordOf}
use Rattle.commands.specs.Seek.{IsFoundTop, IsLeastTop, base_of, inputs_at, top_status, top_text}
use Rattle.command_words.specs.Words.{inputs_view, seek_view}
use Rattle.commands.proofs.DeliveryLemmas.{delivers-since}
use Rattle.commands.proofs.SeekLemmas.{stop-agrees, stop-counts}
use Rattle.commands.proofs.seek.seek.Goals as goal

pub returns-in-Err-clause-ends : goal.returns-in-Err-clause-ends
returns-in-Err-clause-ends g c =
    rw c.without_record.ensures.status
    (SeekStopped (record {
      stop = c.in-Err.stop;
      modelled = λ files modelled. stop-agrees files (seek_view c.args.files.now) (inputs_view c.inputs-names.result) (g.F.Folder.modelled c.args.folder.now).steady c.in-Err.stop c.inputs-names.ensures (c.in-Err.ensures.modelled files modelled);
      counted = stop-counts (g.F.Folder.modelled c.args.folder.now).faults (g.F.Folder.modelled c.read_seekable.new.folder).faults c.in-Err.stop c.in-Err.ensures.counted;
      explains = rw c.inputs-names.ensures at c.explain.ensures.explains;
      files = c.in-Err.ensures.files;
    }) c.without_record.ensures.none c.without_record.ensures.no_other)

pub returns-in-NoneFits-clause-ends : goal.returns-in-NoneFits-clause-ends
returns-in-NoneFits-clause-ends g c =
    let sources = c.in-Ok.sources in
    let rec = c.in-NoneFits.rec in
    let of : IsRefutedRecordOf (inputs_at (base_of sources) sources.scenario.top) rec = subst (IsFoundTop (base_of sources)) c.in-NoneFits.is c.in-Ok-least_top.ensures in
    NoTop sources rec (λ files modelled. rw c.inputs-names.ensures at (c.in-Ok.ensures.modelled files modelled)) c.in-Ok.ensures.seekable of
    c.with_record.ensures.status c.with_record.ensures.kept c.with_record.ensures.no_other c.print_line.ensures.says c.in-Ok.ensures.files

pub returns-in-LastOpen-clause-ends : goal.returns-in-LastOpen-clause-ends
returns-in-LastOpen-clause-ends g c =
    let sources = c.in-Ok.sources in
    let rec = c.in-LastOpen.rec in
    let of : IsOpenRecordOf (inputs_at (base_of sources) sources.scenario.top) rec = subst (IsFoundTop (base_of sources)) c.in-LastOpen.is c.in-Ok-least_top.ensures in
    TopOpen sources rec (λ files modelled. rw c.inputs-names.ensures at (c.in-Ok.ensures.modelled files modelled)) c.in-Ok.ensures.seekable of
    c.with_record-in-LastOpen.ensures.status c.with_record-in-LastOpen.ensures.kept c.with_record-in-LastOpen.ensures.no_other c.print_line-in-LastOpen.ensures.says c.in-Ok.ensures.files

pub returns-clause-ends : goal.returns-clause-ends
returns-clause-ends g c =
    let sources = c.in-Ok.sources in
    let x = c.in-Found.found in
    let least : IsLeastTop (base_of sources) x = subst (IsFoundTop (base_of sources)) c.in-Found.is c.in-Ok-least_top.ensures in
    TopFound sources x (λ files modelled. rw c.inputs-names.ensures at (c.in-Ok.ensures.modelled files modelled)) c.in-Ok.ensures.seekable least
    c.with_both.ensures.kept c.with_both.ensures.other
    (rw c.with_both.ensures.status
    (delivers-since (named c.args.files.now.channels.now (channels_text x.rec.map) ∷ []) (top_text x.top x.is_open) (top_status x.is_open) _ _ _ _
    (rw (c.deref.ensures.value, c.deref-2.ensures.value, c.in-Ok-texts_of.ensures.channels, c.in-Ok-texts_of.ensures.top, c.top_status.ensures) at c.deliver-status.ensures.delivers)
    (record { files = c.in-Ok.ensures.files; faults = c.in-Ok.ensures.counted.kept; steady = c.in-Ok.ensures.steady; held = refl; sink_faults = refl; sure = refl })))
