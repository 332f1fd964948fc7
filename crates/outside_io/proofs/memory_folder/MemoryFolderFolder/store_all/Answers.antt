-- Each file is stored after those before it, or is the one that fails.
use Rattle.std.proofs.Common.{◌∙◌, refl}
use Rattle.outside_io.proofs.GroupLaws.{stops-here, stores-more}
use Rattle.outside_io.proofs.memory_folder.MemoryFolderFolder.store_all.Goals as goal

pub loop-at-preserved : goal.loop-at-preserved
loop-at-preserved c =
    let stored = c.in_default.ensures in
    record {
      stored = stores-more c.args.files.now c.loop-at.at _ _ _ _ c.loop-at-test.true c.loop-at.invariant.stored
          (record { stores = stored.modelled; faults = stored.faults_unchanged (λ e. cc e); steady = stored.steady; called = stored.called });
      left = stored.left ∙ c.loop-at.invariant.left;
      come = stored.come ∙ c.loop-at.invariant.come;
      most = stored.most ∙ c.loop-at.invariant.most;
    }

pub returns-in-Err-clause-stopped : goal.returns-in-Err-clause-stopped
returns-in-Err-clause-stopped c =
    let unstored = c.in-Err.ensures in
    rw (c.new.ensures.at, c.new.ensures.why)
    (stops-here c.args.files.now c.loop-at.at _ c.in-Err.why _ _ _ c.loop-at-test.true c.loop-at.invariant.stored
    (record {
      stores = unstored.modelled;
      counted = unstored.counted;
      failed = λ e. unstored.failed (rw e refl);
      faults_unchanged = λ not. unstored.faults_unchanged (λ e. not (cc e));
      steady = unstored.steady;
      steady_never_fails = λ steady e. unstored.steady_never_fails steady (rw e refl);
      called = unstored.called;
    }))
