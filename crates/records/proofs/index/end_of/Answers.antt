use Rattle.records.proofs.Refines.IndexWalks.{end-from, end-fewer, end-next, end-reached}
use Rattle.records.proofs.index.end_of.Goals as goal

pub loop-t-init : goal.loop-t-init
loop-t-init c =
    search end-from

pub loop-t-smaller : goal.loop-t-smaller
loop-t-smaller c =
    search end-fewer

pub loop-t-preserved : goal.loop-t-preserved
loop-t-preserved c =
    search end-next

pub returns : goal.returns
returns c =
    search end-reached
