use Rattle.gz_lines.specs.Bytes.{generated}
use Rattle.gz_lines.proofs.Generating.{generated_more}
use Rattle.gz_lines.proofs.bytes.generated.Goals as goal

pub loop-made-preserved : goal.loop-made-preserved
loop-made-preserved c =
    let more = generated_more c.loop-made.bytes.items (generated c.args.seed c.args.count) c.loop-made.x c.args.count c.loop-made._made c.loop-made-test.true c.loop-made.invariant in
    rw (c.in_ok-push.ensures.items, c.next-x.ensures) more
